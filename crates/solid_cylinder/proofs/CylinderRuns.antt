-- Cylinders, from the parameter boxes that were welded. Assumes nothing.
use mathlib.Core.Path.{◌≡◌, refl, sym, ap, ◌∙◌}
use mathlib.Core.Bool.{Bool, true, false, cond, ◌||◌}
use mathlib.Core.List.{[]}
use Prim.Native.Nat.{ℕ, max}
use lib.Ieee.{Float, eq, le}
use Rattle.weld.specs.declared.Welding.{Welding}
use Rattle.weld.specs.Rep.{Ready}
use Rattle.weld.specs.Welding.{held_by, Welds, welds_none, welds_as}
use Rattle.ieee.specs.Number.{plus_zero, maximum, tau}
use Rattle.math.specs.declared.Vec3.{Vec3}
use Rattle.math.specs.Vec.{v_sub, v_div, norm}
use Rattle.surface_spec.specs.declared.Chart.TheVariants.{Around}
use Rattle.surface_spec.specs.Surface.{mapped}
use Rattle.surface_spec.proofs.SurfaceGrids.{tube_chart}
use Rattle.solid_spec.specs.Grid.{Soup}
use Rattle.solid_spec.specs.ParamBox.{along, param_box}
use Rattle.solid_spec.specs.Cylinder.{frame1, frame2, tube, cylinder}

-- the parameter box of a tube
abbrev tubed : Float → Float → Float → ℕ → (Vec3 → Vec3) → Soup
tubed inner r1 len n map = param_box (along inner r1 1 false) (along plus_zero tau n true) (along plus_zero len 1 false) map

pub tube_runs : (a d e1 e2 : Vec3) (len r0 r1 inner : Float) (segments np : ℕ) (h k : Welding) → inner ≡ maximum r0 plus_zero → np ≡ max segments 3 → e1 ≡ frame1 d → e2 ≡ frame2 d
    → Welds (tubed inner r1 len np (mapped (Around a d e1 e2))) h k → Welds (tube a d len r0 r1 segments) h k
tube_runs a d e1 e2 len r0 r1 inner segments np h k p q x y R =
    welds_as ((λ i. tubed (p i) r1 len (q i) (mapped (Around a d (x i) (y i)))) ∙ sym (tube_chart a d len r0 r1 segments)) R

module _ (a b : Vec3) (r0 r1 : Float) (segments : ℕ) where
  cylinder_is : (v : Vec3) (len : Float) (s t : Bool) → v ≡ v_sub b a → len ≡ norm v → eq len plus_zero ≡ s → le r1 plus_zero ≡ t
      → cond (s || t) [] (tube a (v_div v len) len r0 r1 segments) ≡ cylinder a b r0 r1 segments
  unfolding cylinder
  cylinder_is v len s t p q x y =
      ap (λ (u : Bool). cond (u || t) [] (tube a (v_div v len) len r0 r1 segments)) (sym x)
      ∙ ap (λ (u : Bool). cond (eq len plus_zero || u) [] (tube a (v_div v len) len r0 r1 segments)) (sym y)
      ∙ ap (λ (l : Float). cond (eq l plus_zero || le r1 plus_zero) [] (tube a (v_div v l) l r0 r1 segments)) q
      ∙ ap (λ (w : Vec3). cond (eq (norm w) plus_zero || le r1 plus_zero) [] (tube a (v_div w (norm w)) (norm w) r0 r1 segments)) p

  pub cylinder_short : (v : Vec3) (len : Float) (h : Welding) → Ready (held_by h) → v ≡ v_sub b a → len ≡ norm v → eq len plus_zero ≡ true → Welds (cylinder a b r0 r1 segments) h h
  cylinder_short v len h R p q x = welds_as (cylinder_is v len true (le r1 plus_zero) p q x refl) (welds_none h R)

  pub cylinder_thin : (v : Vec3) (len : Float) (h : Welding) → Ready (held_by h) → v ≡ v_sub b a → len ≡ norm v → eq len plus_zero ≡ false → le r1 plus_zero ≡ true → Welds (cylinder a b r0 r1 segments) h h
  cylinder_thin v len h R p q x y = welds_as (cylinder_is v len false true p q x y) (welds_none h R)

  pub cylinder_runs : (v d : Vec3) (len : Float) (h k : Welding) → v ≡ v_sub b a → len ≡ norm v → eq len plus_zero ≡ false → le r1 plus_zero ≡ false → d ≡ v_div v len
      → Welds (tube a d len r0 r1 segments) h k → Welds (cylinder a b r0 r1 segments) h k
  cylinder_runs v d len h k p q x y e R = welds_as (ap (λ (w : Vec3). tube a w len r0 r1 segments) e ∙ cylinder_is v len false false p q x y) R
