-- Cylinders, and cylindrical shells of unequal radii, are balanced after + 0.0 where every point is finite.
use mathlib.Core.Path.{◌≡◌}
use mathlib.Core.List.{map}
use mathlib.Core.Bool.{Bool, true, false, ◌||◌}
use Prim.Native.Nat.{ℕ, ◌≤◌, max}
use native.Mathlib.Omega.{arith}
use lib.Dec.{T}
use lib.Ieee.{Float, binary64, eq, lt, le, is_nan, fits}
use lib.Ieee.Fits.{sub-fits}
use Rattle.slice_law.specs.Bools.{neither}
use Rattle.ieee.specs.Number.{plus_zero, maximum, tau}
use Rattle.math.specs.declared.Vec3.{Vec3}
use Rattle.math.specs.Vec.{new, v_sub, v_div, norm}
use Rattle.mesh_balance_spec.specs.Soup.{Balanced, map_tri}
use Rattle.mesh_spec.specs.Mesh.{plus_zero_v, every_finite}
use Rattle.solid_spec.specs.Coords.{to_cartesian}
use Rattle.solid_spec.specs.Sphere.{half}
use Rattle.solid_spec.specs.Cylinder.{frame1, frame2, around_axis, tube, cylinder, cylinder_soup, inner_radius, outer_radius, cylindrical_shell_soup}
use Rattle.solid_spec.proofs.Every.{Sound, sound_of}
use Rattle.solid_spec.proofs.Closes.{Closes, unless}
use Rattle.solid_spec.proofs.Unequal.{maximum_fits}
use Rattle.solid_spec.proofs.ParamBoxBalanced.{four_faces_lem}
use Rattle.solid_spec.proofs.Maps.{around_respects, around_shows}

zero_fits : T (fits binary64 plus_zero)
unfolding fits
zero_fits = tt

module _ (a d : Vec3) (len r0 r1 : Float) (segments : ℕ) (few : segments ≤ 1024) (fit : T (fits binary64 r0)) where
  tube_closes : eq len plus_zero ≡ false → eq r1 (maximum r0 plus_zero) ≡ false → Sound (tube a d len r0 r1 segments) → Closes (tube a d len r0 r1 segments)
  unfolding tube
  tube_closes n m =
      four_faces_lem (new (maximum r0 plus_zero) plus_zero plus_zero) (new r1 tau len) 1 (max segments 3) 1 (around_axis a d (frame1 d) (frame2 d))
      (around_respects a d (frame1 d) (frame2 d)) (around_shows a d (frame1 d) (frame2 d))
      (record { fit = maximum_fits binary64 r0 plus_zero fit zero_fits; some = omega arith; few = omega arith })
      (record { fit = zero_fits; some = omega arith; few = omega arith })
      (record { fit = zero_fits; some = omega arith; few = omega arith }) m n

module _ (a b : Vec3) (r0 r1 : Float) (segments : ℕ) (few : segments ≤ 1024) (fit : T (fits binary64 r0)) where
  -- unequal radii, where the soup is not empty
  cylinder_closes : (le r1 plus_zero ≡ false → eq r1 (maximum r0 plus_zero) ≡ false) → Sound (cylinder a b r0 r1 segments) → Closes (cylinder a b r0 r1 segments)
  unfolding cylinder
  cylinder_closes n =
      let v = v_sub b a in
      let len = norm v in
      unless (tube a (v_div v len) len r0 r1 segments) (eq len plus_zero || le r1 plus_zero)
      (λ e. tube_closes a (v_div v len) len r0 r1 segments few fit (neither (eq len plus_zero) (le r1 plus_zero) e).0 (n (neither (eq len plus_zero) (le r1 plus_zero) e).1))

-- a radius above 0 is not the inner radius 0
apart : (r : Float) → le r plus_zero ≡ false → eq r (maximum plus_zero plus_zero) ≡ false
unfolding maximum is_nan lt le
apart r e = (neither (lt r plus_zero) (eq r plus_zero) e).1

pub solid_closes : (a b : Vec3) (r : Float) (segments : ℕ) → segments ≤ 1024 → Sound (cylinder a b plus_zero r segments) → Closes (cylinder a b plus_zero r segments)
solid_closes a b r segments few = cylinder_closes a b plus_zero r segments few zero_fits (apart r)

-- `cylinder` without a hole, with nothing asked of its radius
pub cylinder_balanced : (a b : Vec3) (r : Float) (segments : ℕ) → segments ≤ 1024
    → every_finite (cylinder a b plus_zero r segments) ≡ true → Balanced (map (map_tri plus_zero_v) (cylinder a b plus_zero r segments))
cylinder_balanced a b r segments few h = solid_closes a b r segments few (sound_of (cylinder a b plus_zero r segments) h)

-- the solid Cylinder
pub cylinder_soup_balanced : (cylindrical : Bool) (start stop : Vec3) (radius : Float) (segments : ℕ) → segments ≤ 1024
    → every_finite (cylinder_soup cylindrical start stop radius segments) ≡ true
    → Balanced (map (map_tri plus_zero_v) (cylinder_soup cylindrical start stop radius segments))
unfolding cylinder_soup
cylinder_soup_balanced cylindrical start stop radius segments few =
    cylinder_balanced (to_cartesian cylindrical start) (to_cartesian cylindrical stop) radius segments few

-- the solid CylindricalShell, where its outer radius and its inner radius, clamped at 0, differ as floats
pub cylindrical_shell_soup_balanced : (cylindrical : Bool) (start stop : Vec3) (radius width : Float) (segments : ℕ) → segments ≤ 1024
    → eq (outer_radius radius width) (maximum (inner_radius radius width) plus_zero) ≡ false
    → every_finite (cylindrical_shell_soup cylindrical start stop radius width segments) ≡ true
    → Balanced (map (map_tri plus_zero_v) (cylindrical_shell_soup cylindrical start stop radius width segments))
unfolding cylindrical_shell_soup
cylindrical_shell_soup_balanced cylindrical start stop radius width segments few n h =
    let a = to_cartesian cylindrical start in
    let b = to_cartesian cylindrical stop in
    cylinder_closes a b (inner_radius radius width) (outer_radius radius width) segments few (sub-fits binary64 radius (half width)) (λ e. n)
    (sound_of (cylinder a b (inner_radius radius width) (outer_radius radius width) segments) h)
