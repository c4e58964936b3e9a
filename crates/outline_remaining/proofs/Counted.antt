-- How the code's array follows the corners counted. Assumes nothing.
use Prim.Native.Nat.{ℕ, zero, suc, ◌+◌, ◌*◌, ◌<◌, ◌≤◌}
use mathlib.Core.Path.{◌≡◌, refl, sym, ap, ◌∙◌}
use mathlib.Core.List.{List, [], ◌∷◌, ◌++◌}
use native.Mathlib.Numerals.{add-one}
use native.Mathlib.Nat.{add-zero, add-suc, suc-add, zero-add, not-suc-le-zero, le_of_suc-le-suc}
use native.Mathlib.Omega.{arith}
use lib.ListN.{length, get_or, take, set}
use lib.Seq.{take-suc-set, get_or-take}
use lib.Ieee.{Float}
use Rattle.outline_ears.specs.Ears.{counting}
use Rattle.outline_ears.specs.Inside.{Inside, idx_of}
use Rattle.outline_ears.specs.declared.Remaining.{Remaining}

counting_snoc : (k i : ℕ) → counting k (suc i) ≡ counting k i ++ ((k + i) ∷ [])
unfolding counting
counting_snoc k zero = ap (λ (a : ℕ). a ∷ []) (sym (add-zero k))
counting_snoc k (suc i) =
    ap (λ (r : List ℕ). k ∷ r) (counting_snoc (suc k) i)
    ∙ ap (λ (a : ℕ). k ∷ (counting (suc k) i ++ (a ∷ []))) (suc-add k i ∙ sym (add-suc k i))

pub count_step : (l : List ℕ) (i : ℕ) → i < length l → take i l ≡ counting 0 i → take (i + 1) (set l i i) ≡ counting 0 (i + 1)
count_step l i h e =
    ap (λ (n : ℕ). take n (set l i i)) (add-one i)
    ∙ take-suc-set l i i h
    ∙ ap (λ (r : List ℕ). r ++ (i ∷ [])) e
    ∙ ap (λ (a : ℕ). counting 0 i ++ (a ∷ [])) (sym (zero-add i))
    ∙ sym (counting_snoc 0 i)
    ∙ ap (counting 0) (sym (add-one i))

pub counting_none : (l : List ℕ) → take 0 l ≡ counting 0 0
unfolding counting
counting_none l = refl

counting_at : (k n i : ℕ) → i < n → get_or (counting k n) i 0 ≡ k + i
unfolding counting
counting_at k zero i h = absurd (not-suc-le-zero h)
counting_at k (suc n) zero h = sym (add-zero k)
counting_at k (suc n) (suc i) h = counting_at (suc k) n i (le_of_suc-le-suc h) ∙ suc-add k i ∙ sym (add-suc k i)

pub counting_inside : (v : List Float) (c : Remaining) → length c.idx ≡ 512 → c.m ≤ 512 → 2 * c.m ≤ length v → idx_of c ≡ counting 0 c.m → Inside v c.idx c.m
counting_inside v c long small there e =
    record {
      long = long;
      small = small;
      there = λ i h.
          let g : get_or c.idx i 0 ≡ i =
          sym (get_or-take c.m c.idx i 0 h) ∙ ap (λ (l : List ℕ). get_or l i 0) e ∙ counting_at 0 c.m i h ∙ zero-add i in
          omega arith;
    }
