-- Each part of a wire, and each box of a multi-box of boxes with unequal bounds, is balanced after + 0.0 where every point of the part is finite.
use mathlib.Core.Path.{◌≡◌, refl}
use mathlib.Core.List.{List, [], ◌∷◌, ◌++◌, map}
use mathlib.Core.Bool.{Bool, true, false, cond}
use Prim.Native.Nat.{ℕ, zero, suc, ◌+◌, ◌-◌, ◌*◌, ◌/◌, ◌≤◌, ◌<◌}
use native.Mathlib.Omega.{arith}
use lib.Dec.{T}
use lib.ListN.{length, get_or, length-append}
use lib.Ieee.{Float, lt}
use Rattle.ieee.specs.Number.{plus_zero}
use Rattle.mesh_spec.specs.Slices.{vertex_at}
use Rattle.solid_spec.specs.Grid.{Soup}
use Rattle.solid_spec.specs.Boxes.{box_shape, parts, multi_box_parts}
use Rattle.solid_spec.specs.Wire.{wire_point, wire_tubes, wire_joints, wire_parts}
use Rattle.solid_spec.specs.Sphere.{sphere}
use Rattle.solid_spec.specs.Cylinder.{cylinder}
use Rattle.solid_spec.specs.Fits.{FitsV, FitsAll, UnequalEnds}
use Rattle.solid_spec.specs.BalancedParts.{EachPart, BalancedPart}
use Rattle.solid_spec.proofs.Maps.{to_cartesian_fits}
use Rattle.solid_spec.proofs.SphereBalanced.{sphere_balanced}
use Rattle.solid_spec.proofs.CylinderBalanced.{cylinder_balanced}
use Rattle.solid_spec.proofs.BoxBalanced.{box_shape_balanced}

each_append : (Q : Soup → Type 0) (ps qs : List Soup) → EachPart Q ps → EachPart Q qs → EachPart Q (ps ++ qs)
each_append Q [] qs h k = k
each_append Q (p ∷ ps) qs h k = (h.0, each_append Q ps qs h.1 k)

each_parts : (Q : Soup → Type 0) (n : ℕ) (h : ℕ → Soup) → ((i : ℕ) → i < n → Q (h i)) → EachPart Q (parts n h)
each_parts Q zero h k = tt
each_parts Q (suc n) h k = each_append Q (parts n h) (h n ∷ []) (each_parts Q n h (λ i l. k i (omega arith))) (k n (omega arith), tt)

-- how many parts there are
length_parts : (n : ℕ) (h : ℕ → Soup) → length (parts n h) ≡ n
length_parts zero h = refl
length_parts (suc n) h = omega (arith, length_parts n h, length-append (parts n h) (h n ∷ []))

pub multi_box_parts_count : (cylindrical : Bool) (v : List Float) (segments : ℕ) → length (multi_box_parts cylindrical v segments) ≡ length v / 6
unfolding multi_box_parts
multi_box_parts_count cylindrical v segments = length_parts (length v / 6) (λ i. box_shape (vertex_at v (2 * i)) (vertex_at v (2 * i + 1)) cylindrical segments)

-- a tube less than the points, and two spheres less
pub wire_parts_count : (cylindrical : Bool) (v : List Float) (r : Float) (segments rings : ℕ) → lt plus_zero r ≡ true
    → length (wire_parts cylindrical v r segments rings) ≡ (length v / 3 - 1) + (length v / 3 - 2)
unfolding wire_parts wire_tubes wire_joints
wire_parts_count cylindrical v r segments rings e = rw e (omega (
  arith,
  length-append (wire_tubes cylindrical v r segments) (wire_joints cylindrical v r segments rings),
  length_parts (length v / 3 - 1) (λ i. cylinder (wire_point cylindrical v i) (wire_point cylindrical v (i + 1)) plus_zero r segments),
  length_parts (length v / 3 - 2) (λ i. sphere (wire_point cylindrical v (i + 1)) r segments rings false),
))

pub vertex_at_fits : (v : List Float) → FitsAll v → (i : ℕ) → FitsV (vertex_at v i)
vertex_at_fits v f i = record { x = f (3 * i); y = f (3 * i + 1); z = f (3 * i + 2) }

module _ (cylindrical : Bool) (v : List Float) (r : Float) (segments rings : ℕ) (few : segments ≤ 1024) (f : FitsAll v) where
  tubes_balanced : EachPart BalancedPart (wire_tubes cylindrical v r segments)
  unfolding wire_tubes
  tubes_balanced =
      each_parts BalancedPart (length v / 3 - 1) (λ i. cylinder (wire_point cylindrical v i) (wire_point cylindrical v (i + 1)) plus_zero r segments)
      (λ i l. cylinder_balanced (wire_point cylindrical v i) (wire_point cylindrical v (i + 1)) r segments few)

  wire_point_fits : (i : ℕ) → FitsV (wire_point cylindrical v i)
  unfolding wire_point
  wire_point_fits i = to_cartesian_fits cylindrical (vertex_at v i) (vertex_at_fits v f i)

  joints_balanced : EachPart BalancedPart (wire_joints cylindrical v r segments rings)
  unfolding wire_joints
  joints_balanced =
      each_parts BalancedPart (length v / 3 - 2) (λ i. sphere (wire_point cylindrical v (i + 1)) r segments rings false)
      (λ i l. sphere_balanced (wire_point cylindrical v (i + 1)) r segments rings false (wire_point_fits (i + 1)))

  -- the solid Wire
  pub wire_parts_balanced : EachPart BalancedPart (wire_parts cylindrical v r segments rings)
  unfolding wire_parts
  wire_parts_balanced = go (lt plus_zero r)
    where
      go : (t : Bool) → EachPart BalancedPart (cond t (wire_tubes cylindrical v r segments ++ wire_joints cylindrical v r segments rings) [])
      go true = each_append BalancedPart (wire_tubes cylindrical v r segments) (wire_joints cylindrical v r segments rings) tubes_balanced joints_balanced
      go false = tt

-- the solid MultiBox
pub multi_box_parts_balanced : (cylindrical : Bool) (v : List Float) (segments : ℕ) → segments ≤ 1024
    → ((i : ℕ) → i < length v / 6 → UnequalEnds (vertex_at v (2 * i)) (vertex_at v (2 * i + 1)))
    → EachPart BalancedPart (multi_box_parts cylindrical v segments)
unfolding multi_box_parts
multi_box_parts_balanced cylindrical v segments few g =
    each_parts BalancedPart (length v / 6) (λ i. box_shape (vertex_at v (2 * i)) (vertex_at v (2 * i + 1)) cylindrical segments)
    (λ i l. box_shape_balanced (vertex_at v (2 * i)) (vertex_at v (2 * i + 1)) cylindrical segments few (g i l))
