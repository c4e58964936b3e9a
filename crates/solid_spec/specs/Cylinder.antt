-- `frame` and `cylinder` of src/tessellate.rs, and the soups of the cases Cylinder and CylindricalShell of `tessellate`. Definitions only.
use Rattle.std.specs.Prelude.{[], Bool, true, false, cond, ◌||◌, ℕ, max, Float}
use Rattle.std.specs.Float.{binary64}
use Rattle.std.specs.Float.Ieee.{add, sub, of_bits, eq, le, lt}
use Rattle.ieee.specs.Number.{plus_zero, maximum, absolute, tau}
use Rattle.trig_spec.specs.Trig.{sin_cos}
use Rattle.math.specs.declared.Vec3.{Vec3}
use Rattle.math.specs.Vec.{unit, v_add, v_sub, v_mul, v_div, cross, norm, normalized}
use Rattle.solid_spec.specs.Grid.{Soup}
use Rattle.solid_spec.specs.ParamBox.{along, param_box}
use Rattle.solid_spec.specs.Coords.{to_cartesian}
use Rattle.solid_spec.specs.Sphere.{half}

-- the e1 of `frame`: `d.cross(a).normalized()`, with a the unit vector x where |d.x| < 0.9, else y
unfoldable pub frame1 : Vec3 → Vec3
frame1 d = normalized (cross d (cond (lt (absolute d.x) (of_bits binary64 0x3FEC_CCCC_CCCC_CCCD)) (unit 0) (unit 1)))

-- the e2 of `frame`: `d.cross(e1)`
unfoldable pub frame2 : Vec3 → Vec3
frame2 d = cross d (frame1 d)

-- the closure of `cylinder`: `a + d * p[2] + (e1 * cs + e2 * sn) * p[0]`, with sn and cs of the angle p[1]
unfoldable pub around_axis : Vec3 → Vec3 → Vec3 → Vec3 → Vec3 → Vec3
around_axis a d e1 e2 p =
    let t = sin_cos p.y in
    v_add (v_add a (v_mul d p.z)) (v_mul (v_add (v_mul e1 t.cos) (v_mul e2 t.sin)) p.x)

-- `cylinder` from its line `let (e1, e2)` on, of the length len in the direction d
unfoldable pub tube : Vec3 → Vec3 → Float → Float → Float → ℕ → Soup
tube a d len r0 r1 segments =
    param_box (along (maximum r0 plus_zero) r1 1 false) (along plus_zero tau (max segments 3) true) (along plus_zero len 1 false)
    (around_axis a d (frame1 d) (frame2 d))

-- `cylinder`: nothing where the length comes out as 0 or the outer radius is at most 0
unfoldable pub cylinder : Vec3 → Vec3 → Float → Float → ℕ → Soup
cylinder a b r0 r1 segments =
    let v = v_sub b a in
    let len = norm v in
    cond (eq len plus_zero || le r1 plus_zero) [] (tube a (v_div v len) len r0 r1 segments)

-- the case Cylinder of `tessellate`
unfoldable pub cylinder_soup : Bool → Vec3 → Vec3 → Float → ℕ → Soup
cylinder_soup cylindrical start stop radius segments = cylinder (to_cartesian cylindrical start) (to_cartesian cylindrical stop) plus_zero radius segments

-- the radii of a cylindrical shell: `r - w` and `r + w`, with w half the width
abbrev pub inner_radius : Float → Float → Float
inner_radius radius width = sub binary64 radius (half width)

abbrev pub outer_radius : Float → Float → Float
outer_radius radius width = add binary64 radius (half width)

-- the case CylindricalShell
unfoldable pub cylindrical_shell_soup : Bool → Vec3 → Vec3 → Float → Float → ℕ → Soup
cylindrical_shell_soup cylindrical start stop radius width segments =
    cylinder (to_cartesian cylindrical start) (to_cartesian cylindrical stop) (inner_radius radius width) (outer_radius radius width) segments
