-- The loop that compares two lists from the start: what is left of one begins with what is left of the other where the whole does. Assumes nothing.
use mathlib.Core.Path.{◌≡◌, refl, sym, ap, ◌∙◌}
use mathlib.Core.Bool.{Bool, true, false, ◌&&◌}
use mathlib.Core.List.{List, [], ◌∷◌}
use Prim.Native.Nat.{ℕ, ◌+◌, ◌≤◌, ◌<◌}
use native.Mathlib.Omega.{arith}
use lib.ListN.{length, drop, get_or}
use Rattle.slice_law.specs.Bools.{and_false}
use Rattle.slice_law.specs.Next.{next_at, drop_end}
use Rattle.figures_same.specs.Begins.{begins}

module _ {A : Type 0} (same : A → A → Bool) where
  -- a longer front
  pub begins_short : (l front : List A) → length l < length front → false ≡ begins same l front
  unfolding begins
  begins_short l [] h = absurd (omega arith)
  begins_short [] (y ∷ front) h = refl
  begins_short (x ∷ l) (y ∷ front) h = sym (and_false (same x y)) ∙ ap {B = Bool} (λ (b : Bool). same x y && b) (begins_short l front (omega arith))

  module _ (l front : List A) (i : ℕ) where
    -- what is left to compare decides
    abbrev pub Left : Type 0
    Left = begins same (drop i l) (drop i front) ≡ begins same l front

    pub begins_end : length front ≤ i → Left → true ≡ begins same l front
    unfolding begins
    begins_end h p = sym (ap {B = Bool} (begins same (drop i l)) (drop_end front i h)) ∙ p

  module _ (l front : List A) (i : ℕ) (d : A) (long : length front ≤ length l) (h : i < length front) where
    -- one turn
    begins_next : begins same (drop i l) (drop i front) ≡ (same (get_or l i d) (get_or front i d) && begins same (drop (i + 1) l) (drop (i + 1) front))
    unfolding begins
    begins_next = λ j. begins same (next_at l i d (omega arith) j) (next_at front i d h j)

    go_on : (r : Bool) → same (get_or l i d) (get_or front i d) ≡ r → Left l front i → (r && begins same (drop (i + 1) l) (drop (i + 1) front)) ≡ begins same l front
    go_on r e p = sym (ap {B = Bool} (λ (b : Bool). b && begins same (drop (i + 1) l) (drop (i + 1) front)) e) ∙ sym begins_next ∙ p

    pub begins_differs : same (get_or l i d) (get_or front i d) ≡ false → Left l front i → false ≡ begins same l front
    begins_differs = go_on false

    pub begins_same : same (get_or l i d) (get_or front i d) ≡ true → Left l front i → Left l front (i + 1)
    begins_same = go_on true
