-- Laws of `points_within`, in the form that the code's loop goes by: what is left of the list decides. Assumes nothing.
use Prim.Native.Nat.{ℕ, ◌<◌}
use mathlib.Core.Path.{◌≡◌, refl, sym, ap, ◌∙◌}
use mathlib.Core.Bool.{Bool, true, false, not, ◌&&◌}
use mathlib.Core.List.{List, [], ◌∷◌, ◌++◌}
use native.Mathlib.Omega.{arith}
use lib.ListN.{length, get_or}
use lib.Ieee.{Float, nan}
use borrow.Author.Tests.{not-true, not-false}
use Rattle.shape.specs.Drawing.{angle_within, points_within}

-- a list shorter than 3 floats has no whole point
pub no_point : (l : List Float) → length l < 3 → true ≡ points_within l
unfolding points_within
no_point [] h = refl
no_point (x ∷ []) h = refl
no_point (x ∷ y ∷ []) h = refl
no_point (x ∷ y ∷ z ∷ r) h = let none : ⊥ = omega arith in absurd none

-- the first point, then the rest
split_points : (p r : List Float) → length p ≡ 3 → points_within (p ++ r) ≡ (angle_within (get_or p 1 nan) && points_within r)
unfolding points_within
split_points (x ∷ y ∷ z ∷ []) r h = refl
split_points [] r h = let none : ⊥ = omega arith in absurd none
split_points (x ∷ []) r h = let none : ⊥ = omega arith in absurd none
split_points (x ∷ y ∷ []) r h = let none : ⊥ = omega arith in absurd none
split_points (x ∷ y ∷ z ∷ w ∷ p) r h = let none : ⊥ = omega arith in absurd none

module _ (list p r l : List Float) (b : Bool) where
  pub points_next : l ≡ p ++ r → length p ≡ 3 → b ≡ angle_within (get_or p 1 nan) → not b ≡ false → points_within list ≡ points_within l
      → points_within list ≡ points_within r
  points_next s h e n q = q ∙ ap points_within s ∙ split_points p r h ∙ ap (λ (t : Bool). t && points_within r) (sym e ∙ not-false b n)

  pub points_stop : l ≡ p ++ r → length p ≡ 3 → b ≡ angle_within (get_or p 1 nan) → not b ≡ true → points_within list ≡ points_within l
      → false ≡ points_within list
  points_stop s h e n q = sym (q ∙ ap points_within s ∙ split_points p r h ∙ ap (λ (t : Bool). t && points_within r) (sym e ∙ not-true b n))
