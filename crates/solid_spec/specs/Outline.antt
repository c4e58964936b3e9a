-- `plane_point`, `extruded_polygon` and `rotpoly` of src/tessellate.rs, from the prepared corners p, two floats each, and the triangles that cap them.
-- Definitions only.
use Rattle.std.specs.Prelude.{List, [], ◌∷◌, ◌++◌, map, Bool, true, false, cond, ℕ, zero, suc, ◌+◌, ◌/◌, ◌%◌, pos, ltb, length, Float}
use Rattle.std.specs.Float.{binary64}
use Rattle.std.specs.Float.Ieee.{add, sub, mul, div, of_int, ne}
use Rattle.ieee.specs.Number.{absolute, tau}
use Rattle.trig_spec.specs.declared.SinCos.{SinCos}
use Rattle.trig_spec.specs.Trig.{sin_cos}
use Rattle.math.specs.declared.Vec3.{Vec3}
use Rattle.math.specs.Vec.{zero_v, unit, with_axis, v_add, v_mul, cross}
use Rattle.outline.specs.declared.Point.{Point}
use Rattle.outline.specs.Corners.{point}
use Rattle.outline.specs.Axes.{plane_axes}
use Rattle.mesh_balance_spec.specs.Soup.{Tri, map_tri, flip_tri}
use Rattle.mesh_balance_spec.specs.Grid.{quad, upto}
use Rattle.shape_arc.specs.Arc.{arc_segments, is_full}
use Rattle.solid_spec.specs.Grid.{Soup}

-- `plane_point`: `Vec3::ZERO` after `p[u] = a`, `p[v] = b`, `p[n] = h`
unfoldable pub plane_point : ℕ → Point → Float → Vec3
plane_point n c h = with_axis (with_axis (with_axis zero_v (plane_axes n).u c.x) (plane_axes n).v c.y) n h

-- each cap triangle at one end, and turned round at the other
abbrev pub caps : {P : Type 0} → (ℕ → P) → (ℕ → P) → List (Tri ℕ) → List (Tri P)
caps near far [] = []
caps near far (t ∷ ts) = map_tri near t ∷ flip_tri (map_tri far t) ∷ caps near far ts

-- the `at(i, h)` of `extruded_polygon`
abbrev pub corner_at : ℕ → List Float → ℕ → Float → Vec3
corner_at n p i h = plane_point n (point p i) h

-- the end of an extruded outline by its number: 0 is lo, any other is hi
unfoldable pub height : Float → Float → ℕ → Float
height lo hi zero = lo
height lo hi (suc k) = hi

-- the last loop of `extruded_polygon`: a quad over each side
unfoldable pub extruded_sides : ℕ → List Float → Float → Float → Soup
extruded_sides n p lo hi =
    let len = length p / 2 in
    upto len (λ i. quad (corner_at n p i lo) (corner_at n p ((i + 1) % len) lo) (corner_at n p ((i + 1) % len) hi) (corner_at n p i hi))

-- `extruded_polygon` after its line `let (p, tris)`: nothing for fewer than 3 corners; one cap where the ends are equal, else both caps and the sides
unfoldable pub extruded_from : ℕ → List Float → List (Tri ℕ) → Float → Float → Soup
extruded_from n p tris lo hi =
    cond (ltb (length p / 2) 3) []
    (cond (ne hi lo) (caps (λ i. corner_at n p i hi) (λ i. corner_at n p i lo) tris ++ extruded_sides n p lo hi) (map (map_tri (λ i. corner_at n p i hi)) tris))

-- `angle(k)`: of a full turn or of a part turn from start, in n steps
unfoldable pub angle : Bool → Float → Float → ℕ → ℕ → Float
angle true start span n k = add binary64 start (div binary64 (mul binary64 tau (of_int binary64 (pos (k % n)))) (of_int binary64 (pos n)))
angle false start span n k = add binary64 start (div binary64 (mul binary64 span (of_int binary64 (pos k))) (of_int binary64 (pos n)))

-- `Vec3::unit(a) * h + (Vec3::unit(q) * cs + w * sn) * rad`, with w the product of the two unit vectors, of a corner (rad, h)
unfoldable pub spun : ℕ → ℕ → Point → SinCos → Vec3
spun a q c t = v_add (v_mul (unit a) c.y) (v_mul (v_add (v_mul (unit q) t.cos) (v_mul (cross (unit a) (unit q)) t.sin)) c.x)

-- the `at(i, k)` of `rotpoly`, about the axis a from the axis q, in n steps
abbrev pub turned_at : ℕ → ℕ → List Float → Float → Float → Bool → ℕ → ℕ → ℕ → Vec3
turned_at a q p start span full n i k = spun a q (point p i) (sin_cos (angle full start span n k))

-- the first loop of `rotpoly`: a strip of n quads over each side
unfoldable pub turned_sides : ℕ → ℕ → List Float → Float → Float → Bool → ℕ → Soup
turned_sides a q p start span full n =
    let len = length p / 2 in
    let at = turned_at a q p start span full n in
    upto len (λ i. upto n (λ k. quad (at i k) (at i (k + 1)) (at ((i + 1) % len) (k + 1)) (at ((i + 1) % len) k)))

-- both loops of `rotpoly`: the sides, and for a part turn the caps at its start and its end
unfoldable pub turned_from : ℕ → ℕ → List Float → List (Tri ℕ) → Float → Float → Bool → ℕ → Soup
turned_from a q p tris start span full n =
    let at = turned_at a q p start span full n in
    turned_sides a q p start span full n ++ cond full [] (caps (λ i. at i 0) (λ i. at i n) tris)

-- `rotpoly` after its line `let (p, tris)`: nothing for fewer than 3 corners; a full turn where `span.abs() >= TAU - 1e-12`
unfoldable pub rotated_from : ℕ → ℕ → List Float → List (Tri ℕ) → Float → Float → ℕ → Soup
rotated_from a q p tris start stop segments =
    let span = sub binary64 stop start in
    let full = is_full (absolute span) in
    cond (ltb (length p / 2) 3) [] (turned_from a q p tris start span full (arc_segments segments (cond full tau span)))
