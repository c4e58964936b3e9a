-- `sphere` of src/tessellate.rs, and the soups of the cases Sphere and SphericalShell of `tessellate`. Definitions only.
use Rattle.std.specs.Prelude.{[], ◌++◌, Bool, true, false, cond, ℕ, ◌%◌, max, pos, eqb, Float}
use Rattle.std.specs.Float.{binary64}
use Rattle.std.specs.Float.Ieee.{add, sub, mul, div, neg, of_int, of_bits, le, lt}
use Rattle.ieee.specs.Number.{plus_zero, pi, tau}
use Rattle.trig_spec.specs.declared.SinCos.{SinCos}
use Rattle.trig_spec.specs.Trig.{sin_cos}
use Rattle.math.specs.declared.Vec3.{Vec3}
use Rattle.math.specs.Vec.{new, one, v_add, v_mul}
use Rattle.solid_spec.specs.Grid.{Soup, grid}
use Rattle.solid_spec.specs.Coords.{to_cartesian}

-- `(st, ct)`: the sine and cosine of row i of nt, exact at both poles
unfoldable pub latitude : ℕ → ℕ → SinCos
latitude nt i =
    cond (eqb i 0) (record { sin = plus_zero; cos = one })
    (cond (eqb i nt) (record { sin = plus_zero; cos = neg one })
    (sin_cos (div binary64 (mul binary64 pi (of_int binary64 (pos i))) (of_int binary64 (pos nt)))))

-- `(sp, cp)`: the sine and cosine of segment j of np, the last one being the first
unfoldable pub longitude : ℕ → ℕ → SinCos
longitude np j = sin_cos (div binary64 (mul binary64 tau (of_int binary64 (pos (j % np)))) (of_int binary64 (pos np)))

-- `c + Vec3::new(st * cp, st * sp, ct) * r`
unfoldable pub on_sphere : Vec3 → Float → SinCos → SinCos → Vec3
on_sphere c r t p = v_add c (v_mul (new (mul binary64 t.sin p.cos) (mul binary64 t.sin p.sin) t.cos) r)

-- the closure that `sphere` hands to `Soup::grid`
unfoldable pub sphere_point : Vec3 → Float → ℕ → ℕ → ℕ → ℕ → Vec3
sphere_point c r nt np i j = on_sphere c r (latitude nt i) (longitude np j)

-- `sphere`: nothing for r <= 0.0, else nt = rings.max(2) by np = segments.max(3) cells
unfoldable pub sphere : Vec3 → Float → ℕ → ℕ → Bool → Soup
sphere c r segments rings flip =
    let nt = max rings 2 in
    let np = max segments 3 in
    cond (le r plus_zero) [] (grid nt np flip (sphere_point c r nt np))

-- half of a shell's width, `shell_width / 2.0`
abbrev pub half : Float → Float
half width = div binary64 width (of_bits binary64 0x4000_0000_0000_0000)

-- the case Sphere of `tessellate`
unfoldable pub sphere_soup : Bool → Vec3 → Float → ℕ → ℕ → Soup
sphere_soup cylindrical center radius segments rings = sphere (to_cartesian cylindrical center) radius segments rings false

-- the case SphericalShell: the outer skin, and the inner one turned round where the half width is above 0
unfoldable pub spherical_shell_soup : Bool → Vec3 → Float → Float → ℕ → ℕ → Soup
spherical_shell_soup cylindrical center radius width segments rings =
    let c = to_cartesian cylindrical center in
    let w = half width in
    sphere c (add binary64 radius w) segments rings false
    ++ cond (lt plus_zero w) (sphere c (sub binary64 radius w) segments rings true) []
