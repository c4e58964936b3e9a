-- `box_shape` of src/tessellate.rs, and the soups of the cases Box and MultiBox of `tessellate`. Definitions only.
use Rattle.std.specs.Prelude.{List, [], ◌∷◌, ◌++◌, Bool, false, cond, ℕ, zero, suc, ◌+◌, ◌*◌, ◌/◌, length, Float}
use Rattle.std.specs.Float.{binary64}
use Rattle.std.specs.Float.Ieee.{add, sub}
use Rattle.ieee.specs.Number.{tau}
use Rattle.math.specs.declared.Vec3.{Vec3}
use Rattle.math.specs.Vec.{new, v_min, v_max}
use Rattle.mesh_spec.specs.Slices.{vertex_at}
use Rattle.shape_arc.specs.Arc.{arc_segments, is_full}
use Rattle.solid_spec.specs.Grid.{Soup}
use Rattle.solid_spec.specs.ParamBox.{along, param_box}
use Rattle.solid_spec.specs.Coords.{cylindrical_to_cartesian}

-- the identity, as a Cartesian box maps its points
abbrev pub as_is : Vec3 → Vec3
as_is p = p

-- the high bound of a cylindrical box: where it is full, `Vec3::new(hi[0], lo[1] + TAU, hi[2])`
unfoldable pub turned_to : Bool → Vec3 → Vec3 → Vec3
turned_to full lo hi = cond full (new hi.x (add binary64 lo.y tau) hi.z) hi

-- `box_shape` in the cylindrical system, from its lower and higher bounds
unfoldable pub cylindrical_box : Bool → Vec3 → Vec3 → ℕ → Soup
cylindrical_box full lo hi segments =
    let high = turned_to full lo hi in
    let n = arc_segments segments (sub binary64 high.y lo.y) in
    param_box (along lo.x high.x 1 false) (along lo.y high.y n full) (along lo.z high.z 1 false) cylindrical_to_cartesian

-- `box_shape`
unfoldable pub box_shape : Vec3 → Vec3 → Bool → ℕ → Soup
box_shape a b cylindrical segments =
    let lo = v_min a b in
    let hi = v_max a b in
    cond cylindrical (cylindrical_box (is_full (sub binary64 hi.y lo.y)) lo hi segments)
    (param_box (along lo.x hi.x 1 false) (along lo.y hi.y 1 false) (along lo.z hi.z 1 false) as_is)

-- the case Box of `tessellate`, in its effective system
abbrev pub box_soup : Bool → Vec3 → Vec3 → ℕ → Soup
box_soup cylindrical start stop segments = box_shape start stop cylindrical segments

-- h 0, h 1, .. h (n - 1)
abbrev pub parts : ℕ → (ℕ → Soup) → List Soup
parts zero h = []
parts (suc n) h = parts n h ++ (h n ∷ [])

-- the case MultiBox: each box, two points of the lent list, is a part, in the default system
unfoldable pub multi_box_parts : Bool → List Float → ℕ → List Soup
multi_box_parts cylindrical v segments = parts (length v / 6) (λ i. box_shape (vertex_at v (2 * i)) (vertex_at v (2 * i + 1)) cylindrical segments)
