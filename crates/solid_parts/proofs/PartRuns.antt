-- Parts that a loop welds, and the parts of a multi-box and of a wire. Assumes nothing.
use mathlib.Core.Path.{◌≡◌, refl, sym, ap, ◌∙◌}
use mathlib.Core.Bool.{Bool, true, false, cond}
use mathlib.Core.List.{List, [], ◌∷◌, ◌++◌}
use Prim.Native.Nat.{ℕ, suc, ◌+◌, ◌-◌, ◌*◌, ◌/◌}
use native.Mathlib.Numerals.{add-one}
use lib.ListN.{length}
use lib.Ieee.{Float, lt}
use Rattle.weld.specs.declared.Welding.{Welding}
use Rattle.weld.specs.Rep.{Ready}
use Rattle.weld.specs.Welding.{held_by, Welds, WeldsParts, NewPart, welds_as, welds_parts_none, welds_parts_one, welds_parts_then, welds_parts_as}
use Rattle.ieee.specs.Number.{plus_zero}
use Rattle.math.specs.declared.Vec3.{Vec3}
use Rattle.solid_spec.specs.Grid.{Soup}
use Rattle.solid_spec.specs.Boxes.{parts, box_shape, multi_box_parts}
use Rattle.mesh_spec.specs.Slices.{vertex_at}
use Rattle.solid_spec.specs.Sphere.{sphere}
use Rattle.solid_spec.specs.Cylinder.{cylinder}
use Rattle.solid_spec.specs.Wire.{wire_point, wire_tubes, wire_joints, wire_parts}

module _ (f : ℕ → Soup) where
  pub loop_none : (h : Welding) → Ready (held_by h) → WeldsParts (parts 0 f) h h
  loop_none h R = welds_parts_none h R

  more : (i : ℕ) → parts (i + 1) f ≡ parts i f ++ (f i ∷ [])
  more i = rw add-one

  pub loop_more : (i : ℕ) (h k l : Welding) → WeldsParts (parts i f) h k → WeldsParts (f i ∷ []) k l → WeldsParts (parts (i + 1) f) h l
  loop_more i h k l R Q = welds_parts_as (sym (more i)) (welds_parts_then (parts i f) (f i ∷ []) h k l R Q)

  -- the same, where the number after i is known to be j
  pub loop_later : (i j : ℕ) → i + 1 ≡ j → (h k l : Welding) → WeldsParts (parts i f) h k → WeldsParts (f i ∷ []) k l → WeldsParts (parts j f) h l
  loop_later i j e h k l R Q = welds_parts_as (ap (λ (n : ℕ). parts n f) e) (loop_more i h k l R Q)

module _ (cylindrical : Bool) (v : List Float) (segments : ℕ) where
  -- box i of a multi-box
  abbrev pub box_at : ℕ → Soup
  box_at i = box_shape (vertex_at v (2 * i)) (vertex_at v (2 * i + 1)) cylindrical segments

  pub boxes_all : (i : ℕ) (h k : Welding) → i ≡ length v / 6 → WeldsParts (parts i box_at) h k → WeldsParts (multi_box_parts cylindrical v segments) h k
  unfolding multi_box_parts
  boxes_all i h k e R = welds_parts_as (ap (λ (n : ℕ). parts n box_at) e) R

  -- tube i and joint i of a wire
  abbrev pub tube_at : Float → ℕ → Soup
  tube_at r i = cylinder (wire_point cylindrical v i) (wire_point cylindrical v (i + 1)) plus_zero r segments

  pub tubes_all : (r : Float) (i : ℕ) (h k : Welding) → i ≡ length v / 3 - 1 → WeldsParts (parts i (tube_at r)) h k → WeldsParts (wire_tubes cylindrical v r segments) h k
  unfolding wire_tubes
  tubes_all r i h k e R = welds_parts_as (ap (λ (n : ℕ). parts n (tube_at r)) e) R

  abbrev pub joint_at : Float → ℕ → ℕ → Soup
  joint_at r rings i = sphere (wire_point cylindrical v (i + 1)) r segments rings false

  pub joints_all : (r : Float) (rings i : ℕ) (h k : Welding) → i ≡ length v / 3 - 2 → WeldsParts (parts i (joint_at r rings)) h k → WeldsParts (wire_joints cylindrical v r segments rings) h k
  unfolding wire_joints
  joints_all r rings i h k e R = welds_parts_as (ap (λ (n : ℕ). parts n (joint_at r rings)) e) R

  -- joint i is at the point after i
  pub joint_one : (r : Float) (rings i j : ℕ) → i + 1 ≡ j → (h k : Welding) → WeldsParts (sphere (wire_point cylindrical v j) r segments rings false ∷ []) h k → WeldsParts (joint_at r rings i ∷ []) h k
  joint_one r rings i j e h k R = welds_parts_as (ap (λ (n : ℕ). sphere (wire_point cylindrical v n) r segments rings false ∷ []) (sym e)) R

  wire_is : (r : Float) (rings : ℕ) (b : Bool) → lt plus_zero r ≡ b
      → cond b (wire_tubes cylindrical v r segments ++ wire_joints cylindrical v r segments rings) [] ≡ wire_parts cylindrical v r segments rings
  unfolding wire_parts
  wire_is r rings b e = ap (λ (t : Bool). cond t (wire_tubes cylindrical v r segments ++ wire_joints cylindrical v r segments rings) []) (sym e)

  pub wire_none : (r : Float) (rings : ℕ) (h : Welding) → Ready (held_by h) → lt plus_zero r ≡ false → WeldsParts (wire_parts cylindrical v r segments rings) h h
  wire_none r rings h R e = welds_parts_as (wire_is r rings false e) (welds_parts_none h R)

  pub wire_runs : (r : Float) (rings : ℕ) (h k l : Welding) → lt plus_zero r ≡ true → WeldsParts (wire_tubes cylindrical v r segments) h k
      → WeldsParts (wire_joints cylindrical v r segments rings) k l → WeldsParts (wire_parts cylindrical v r segments rings) h l
  wire_runs r rings h k l e R Q = welds_parts_as (wire_is r rings true e) (welds_parts_then (wire_tubes cylindrical v r segments) (wire_joints cylindrical v r segments rings) h k l R Q)

module _ (v : List Float) (i : ℕ) (cylindrical : Bool) (segments : ℕ) (h m r : Welding) where
  -- a box, a tube, a joint, each as a part
  pub box_part : (a b : Vec3) → a ≡ vertex_at v (2 * i) → b ≡ vertex_at v (2 * i + 1) → Welds (box_shape a b cylindrical segments) h m → NewPart m r
      → WeldsParts (box_shape (vertex_at v (2 * i)) (vertex_at v (2 * i + 1)) cylindrical segments ∷ []) h r
  box_part a b p q R P =
      welds_parts_one (box_at cylindrical v segments i) h m r
      (welds_as (ap (λ (x : Vec3). box_shape x b cylindrical segments) p ∙ ap (λ (x : Vec3). box_shape (vertex_at v (2 * i)) x cylindrical segments) q) R) P

  pub tube_part : (a b : Vec3) (radius : Float) → a ≡ wire_point cylindrical v i → b ≡ wire_point cylindrical v (i + 1) → Welds (cylinder a b plus_zero radius segments) h m
      → NewPart m r → WeldsParts (cylinder (wire_point cylindrical v i) (wire_point cylindrical v (i + 1)) plus_zero radius segments ∷ []) h r
  tube_part a b radius p q R P =
      welds_parts_one (tube_at cylindrical v segments radius i) h m r
      (welds_as (ap (λ (x : Vec3). cylinder x b plus_zero radius segments) p ∙ ap (λ (x : Vec3). cylinder (wire_point cylindrical v i) x plus_zero radius segments) q) R) P

  pub joint_part : (c : Vec3) (radius : Float) (rings : ℕ) → c ≡ wire_point cylindrical v i → Welds (sphere c radius segments rings false) h m → NewPart m r
      → WeldsParts (sphere (wire_point cylindrical v i) radius segments rings false ∷ []) h r
  joint_part c radius rings p R P =
      welds_parts_one (sphere (wire_point cylindrical v i) radius segments rings false) h m r (welds_as (ap (λ (x : Vec3). sphere x radius segments rings false) p) R) P
