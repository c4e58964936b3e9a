-- The choices of an axis, of a face and of a bound, as the code makes them. Assumes nothing.
use mathlib.Core.Path.{◌≡◌, refl, sym, ap, ◌∙◌}
use mathlib.Core.Bool.{Bool, true, false, cond, not}
use Prim.Native.Nat.{ℕ, zero, suc, ◌/◌, ◌%◌}
use borrow.Author.Tests.{eq-eqb, ne_eqb}
use lib.Ieee.{Float, binary64, add, eq, ne}
use Rattle.ieee.specs.Number.{tau}
use Rattle.math.specs.declared.Vec3.{Vec3}
use Rattle.math.specs.Vec.{new, axis}
use Rattle.surface_spec.specs.Faces.{three}
use Rattle.solid_spec.specs.Boxes.{turned_to}
use Rattle.surface_box.specs.Faces.{is_high, has_face}

-- `three` at the middle axis and at the others
pub three_middle : {A : Type 0} (a b c : A) (k : ℕ) → k ≡ 1 → b ≡ three a b c k
three_middle a b c k e = ap (three a b c) (sym e)

pub three_other : {A : Type 0} (a b : A) (k : ℕ) → (k ≡ 1 → ⊥) → a ≡ three a b a k
three_other a b zero h = refl
three_other a b (suc zero) h = absurd (h refl)
three_other a b (suc (suc k)) h = refl

-- a choice by a Bool
pub chosen : {A : Type 0} (b : Bool) (x y r : A) → b ≡ true → r ≡ x → r ≡ cond b x y
chosen b x y r e d = d ∙ ap (λ (t : Bool). cond t x y) (sym e)

pub other : {A : Type 0} (b : Bool) (x y r : A) → b ≡ false → r ≡ y → r ≡ cond b x y
other b x y r e d = d ∙ ap (λ (t : Bool). cond t x y) (sym e)

-- whether a face is there, as the code finds it
module _ (lo hi : Vec3) (periodic : ℕ → Bool) (f : ℕ) where
  pub has_none : true ≡ periodic (f / 2) → false ≡ has_face lo hi periodic f
  unfolding has_face
  has_none p = λ i. cond (p i) false (cond (is_high f) (not (eq (axis hi (f / 2)) (axis lo (f / 2)))) true)

  pub has_high : (x y : Float) → false ≡ periodic (f / 2) → f % 2 ≡ 1 → x ≡ axis hi (f / 2) → y ≡ axis lo (f / 2) → ne x y ≡ has_face lo hi periodic f
  unfolding has_face ne
  has_high x y p e ex ey = λ i. cond (p i) false (cond (sym (eq-eqb (f % 2) 1 e) i) (not (eq (ex i) (ey i))) true)

  pub has_low : false ≡ periodic (f / 2) → (f % 2 ≡ 1 → ⊥) → true ≡ has_face lo hi periodic f
  unfolding has_face
  has_low p e = λ i. cond (p i) false (cond (sym (ne_eqb (f % 2) 1 e) i) (not (eq (axis hi (f / 2)) (axis lo (f / 2)))) true)

-- ---- the high bound of a cylindrical box
pub turned_full : (full : Bool) (lo hi : Vec3) → full ≡ true → new hi.x (add binary64 lo.y tau) hi.z ≡ turned_to full lo hi
unfolding turned_to
turned_full full lo hi e = ap (λ (b : Bool). turned_to b lo hi) (sym e)

pub turned_part : (full : Bool) (lo hi : Vec3) → full ≡ false → hi ≡ turned_to full lo hi
unfolding turned_to
turned_part full lo hi e = ap (λ (b : Bool). turned_to b lo hi) (sym e)
