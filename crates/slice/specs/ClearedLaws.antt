-- The loop that writes z from place f on, over any element type. Assumes nothing.
use Rattle.std.specs.Prelude.{◌≡◌, refl, ℕ, zero, suc, ◌+◌, ◌-◌, ◌≤◌, ◌<◌, set, drop}
use Rattle.std.proofs.Common.{sym, ◌∙◌, subst, not-suc-le-zero, le_of_suc-le-suc, add-one, arith, take-append-drop, drop_of_length-le}
use Rattle.std.proofs.Math.Path.{ap}
use mathlib.Core.List.{List, [], ◌∷◌, ◌++◌, append-nil}
use Rattle.std.proofs.Math.Nat.{sub_self}
use Rattle.std.proofs.Math.ListN.{length, take, replicate}
use Rattle.slice.specs.Cleared.{cleared_from}

module _ {A : Type 0} (z : A) where
  -- the places from f up to i written
  abbrev pub written : ℕ → ℕ → List A → List A
  written f i l = take f l ++ (replicate (i - f) z ++ drop i l)

  fill : (k : ℕ) (l : List A) → k < length l → set (replicate k z ++ drop k l) k z ≡ replicate (suc k) z ++ drop (suc k) l
  fill k [] h = absurd (not-suc-le-zero h)
  fill zero (x ∷ l) h = refl
  fill (suc k) (x ∷ l) h = ap {B = List A} (λ r. z ∷ r) (fill k l (le_of_suc-le-suc h))

  step : (f k n : ℕ) (l : List A) → n ≡ f + k → n < length l
      → set (take f l ++ (replicate k z ++ drop n l)) n z ≡ take f l ++ (replicate (suc k) z ++ drop (suc n) l)
  step f k n [] e h = absurd (not-suc-le-zero h)
  step zero k n (x ∷ l) e h = subst (λ (n : ℕ). n < length (x ∷ l) → set (replicate k z ++ drop n (x ∷ l)) n z ≡ replicate (suc k) z ++ drop (suc n) (x ∷ l))
      (sym same) (fill k (x ∷ l)) h
    where
      same : n ≡ k
      same = omega arith
  step (suc f) k zero (x ∷ l) e h = absurd (none e)
    where
      none : zero ≡ suc f + k → ⊥
      none e = omega arith
  step (suc f) k (suc n) (x ∷ l) e h = ap {B = List A} (λ r. x ∷ r) (step f k n l (omega arith) (le_of_suc-le-suc h))

  -- the invariant of the loop at place i
  pub record Clearing (f : ℕ) (l s : List A) (i : ℕ) : Type 0 where
    pub from : f ≤ i
    pub within : i ≤ f + (length l - f)
    pub same : length s ≡ length l
    pub is : s ≡ written f i l

  pub clearing_none : (f : ℕ) (l : List A) → Clearing f l l f
  clearing_none f l = record {
    from = omega arith;
    within = omega arith;
    same = refl;
    is = sym (ap (λ (k : ℕ). take f l ++ (replicate k z ++ drop f l)) (sub_self f) ∙ take-append-drop f l);
  }

  pub clearing_more : (f : ℕ) (l s : List A) (i : ℕ) → Clearing f l s i → i < length s → set s i z ≡ written f (i + 1) l
  clearing_more f l s i c h =
      ap (λ (r : List A). set r i z) c.is
      ∙ step f (i - f) i l (omega (arith, c.from)) (omega (arith, c.same))
      ∙ (λ j. take f l ++ (replicate (next j) z ++ drop (sym (add-one i) j) l))
    where
      next : suc (i - f) ≡ i + 1 - f
      next = omega (arith, c.from)

  pub clearing_done : (f : ℕ) (l s : List A) (i : ℕ) → Clearing f l s i → length s ≤ i → s ≡ cleared_from z f l
  unfolding cleared_from
  clearing_done f l s i c h =
      c.is
      ∙ ap (λ (r : List A). take f l ++ (replicate (i - f) z ++ r)) (drop_of_length-le l {i = i} (omega (arith, c.same)))
      ∙ ap (λ (r : List A). take f l ++ r) (append-nil (replicate (i - f) z))
      ∙ ap (λ (k : ℕ). take f l ++ replicate k z) all
    where
      all : i - f ≡ length l - f
      all = omega (arith, c.from, c.same, c.within)

-- a slice cleared from its start on
pub cleared_all : {A : Type 0} (z : A) (l : List A) → cleared_from z 0 l ≡ replicate (length l) z
unfolding cleared_from
cleared_all {A} z l =
    let e : length l - 0 ≡ length l = omega arith in
    ap {B = List A} (λ (n : ℕ). replicate n z) e
