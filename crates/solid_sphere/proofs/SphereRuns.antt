-- Spheres and spherical shells, from the grids that were welded. Assumes nothing.
use mathlib.Core.Path.{◌≡◌, refl, sym, ap, ◌∙◌}
use mathlib.Core.Bool.{Bool, true, false, cond}
use mathlib.Core.List.{List, [], ◌++◌, append-nil}
use Prim.Native.Nat.{ℕ, max, ◌≤◌}
use native.Mathlib.Omega.{arith}
use lib.Ieee.{Float, binary64, add, sub, le, lt}
use Rattle.weld.specs.declared.Welding.{Welding}
use Rattle.weld.specs.Rep.{Ready}
use Rattle.weld.specs.Welding.{held_by, Welds, welds_none, welds_then, welds_as}
use Rattle.ieee.specs.Number.{plus_zero}
use Rattle.math.specs.declared.Vec3.{Vec3}
use Rattle.surface.specs.Within.{SphereWithin}
use Rattle.surface_spec.specs.declared.Surface.TheVariants.{Sphere}
use Rattle.solid_spec.specs.Grid.{Soup, grid}
use Rattle.solid_spec.specs.Coords.{to_cartesian}
use Rattle.solid_spec.specs.Sphere.{half, sphere_point, sphere, spherical_shell_soup}
use Rattle.surface_spec.specs.Surface.{surface_at}
use Rattle.surface_spec.proofs.SurfaceGrids.{sphere_surface}

pub sphere_within : (nt np : ℕ) → nt ≤ 1024 → 3 ≤ np → np ≤ 1024 → SphereWithin nt np nt
sphere_within nt np t p q = record { few = t; last = omega arith; some = omega (arith, p); nfew = q }

module _ (c : Vec3) (r : Float) (segments rings : ℕ) (flip : Bool) where
  pub sphere_none : (h : Welding) → Ready (held_by h) → le r plus_zero ≡ true → Welds (sphere c r segments rings flip) h h
  unfolding sphere
  sphere_none h R e = welds_as (ap (λ (b : Bool). cond b [] (grid (max rings 2) (max segments 3) flip (sphere_point c r (max rings 2) (max segments 3)))) (sym e)) (welds_none h R)

  pub grid_runs : (p : List Float) (nt np : ℕ) (h k : Welding) → Welds (grid nt np flip (surface_at p (Sphere c r nt np))) h k → Welds (grid nt np flip (sphere_point c r nt np)) h k
  grid_runs p nt np h k R = welds_as (sym (sphere_surface p c r nt np flip)) R

  pub sphere_runs : (nt np : ℕ) (h k : Welding) → le r plus_zero ≡ false → nt ≡ max rings 2 → np ≡ max segments 3
      → Welds (grid nt np flip (sphere_point c r nt np)) h k → Welds (sphere c r segments rings flip) h k
  unfolding sphere
  sphere_runs nt np h k e a b R =
      welds_as
      (ap (λ (n : ℕ). grid n np flip (sphere_point c r n np)) a
      ∙ ap (λ (n : ℕ). grid (max rings 2) n flip (sphere_point c r (max rings 2) n)) b
      ∙ ap (λ (t : Bool). cond t [] (grid (max rings 2) (max segments 3) flip (sphere_point c r (max rings 2) (max segments 3)))) (sym e)) R

module _ (cylindrical : Bool) (center : Vec3) (radius width : Float) (segments rings : ℕ) where
  abbrev outer_of : Vec3 → Soup
  outer_of c = sphere c (add binary64 radius (half width)) segments rings false

  abbrev inner_of : Vec3 → Soup
  inner_of c = sphere c (sub binary64 radius (half width)) segments rings true

  shell_is : (c : Vec3) (t : Bool) → c ≡ to_cartesian cylindrical center → lt plus_zero (half width) ≡ t
      → outer_of c ++ cond t (inner_of c) [] ≡ spherical_shell_soup cylindrical center radius width segments rings
  unfolding spherical_shell_soup
  shell_is c t e f =
      ap (λ (v : Vec3). outer_of v ++ cond t (inner_of v) []) e
      ∙ ap (λ (b : Bool). outer_of (to_cartesian cylindrical center) ++ cond b (inner_of (to_cartesian cylindrical center)) []) (sym f)

  pub shell_one : (c : Vec3) (h k : Welding) → c ≡ to_cartesian cylindrical center → lt plus_zero (half width) ≡ false
      → Welds (sphere c (add binary64 radius (half width)) segments rings false) h k → Welds (spherical_shell_soup cylindrical center radius width segments rings) h k
  shell_one c h k e f R = welds_as (sym (append-nil (outer_of c)) ∙ shell_is c false e f) R

  pub shell_two : (c : Vec3) (h k l : Welding) → c ≡ to_cartesian cylindrical center → lt plus_zero (half width) ≡ true
      → Welds (sphere c (add binary64 radius (half width)) segments rings false) h k → Welds (sphere c (sub binary64 radius (half width)) segments rings true) k l
      → Welds (spherical_shell_soup cylindrical center radius width segments rings) h l
  shell_two c h k l e f R Q = welds_as (shell_is c true e f) (welds_then (outer_of c) (inner_of c) h k l R Q)
