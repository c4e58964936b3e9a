-- Laws of `ceiling` for callers, between 0 and 1024: y ≤ ceiling y, and ceiling y ≤ k for each whole k that is no smaller than y. Assumes nothing.
use Rattle.std.specs.Prelude.{◌≡◌, ℕ, zero, suc, ◌+◌, ◌-◌, ◌*◌, ◌/◌, ◌<◌, ◌≤◌, min, true, false, T, ◌⊎◌, Float}
use Rattle.std.proofs.Common.{sym, subst, inl, inr, zero-le, le_trans, le_of_eq, zero-mul, mul-one, div-lt_iff_lt-mul, arith}
use Rattle.std.specs.Float.{nan, inf, fin}
use Rattle.std.specs.Float.Ieee.{up, down, le}
use Rattle.std.specs.Float.Ieee.Fits.{down_pos}
use Rattle.std.specs.Float.Ieee.Positive.{num, den, positive, den_pos, le→cross}
unfoldable pub use Rattle.ieee_whole.specs.Whole.{ceiling}
use Rattle.ieee.specs.Number.{is_zero}
use Rattle.ieee_whole.specs.Sweep.{top, Within, zero_or_positive}

-- ---- whole numbers
le_of_lt_suc : (a k : ℕ) → a < suc k → a ≤ k
le_of_lt_suc a k h = omega arith

least : (N D k : ℕ) → 0 < D → N ≤ k * D → (N + (D - 1)) / D ≤ k
least N D k p h = le_of_lt_suc ((N + (D - 1)) / D) k ((div-lt_iff_lt-mul p).1 bound)
  where
    bound : N + (D - 1) < suc k * D
    bound = omega arith

reaches : (N D : ℕ) → 0 < D → N ≤ (N + (D - 1)) / D * D
reaches N D p = go ((N + (D - 1)) / D) ((div-lt_iff_lt-mul p).0 (suc_lt ((N + (D - 1)) / D)))
  where
    suc_lt : (q : ℕ) → q < q + 1
    suc_lt q = omega arith

    go : (q : ℕ) → N + (D - 1) < (q + 1) * D → N ≤ q * D
    go q h = omega arith

uncapped : (q : ℕ) → q ≤ 1024 → min q 18446744073709551615 ≡ q
uncapped q h = omega arith

-- ---- y between 0 and 1024: its ceiling as a fraction's
ceiling_is : (y : Float) → T (is_zero y) ⊎ T (positive y) → num y ≤ 1024 * den y → ceiling y ≡ (num y + (den y - 1)) / den y
unfolding ceiling
ceiling_is nan (inl z) h = absurd z
ceiling_is nan (inr z) h = absurd z
ceiling_is (inf s) (inl z) h = absurd z
ceiling_is (inf s) (inr z) h = absurd z
ceiling_is (fin false zero e) w h = uncapped ((0 * up e + (down e - 1)) / down e) (least (0 * up e) (down e) 1024 (down_pos e) h)
ceiling_is (fin false (suc m) e) w h = uncapped ((suc m * up e + (down e - 1)) / down e) (least (suc m * up e) (down e) 1024 (down_pos e) h)
ceiling_is (fin true zero e) w h =
    nothing ((0 * up e + (down e - 1)) / down e) (least (0 * up e) (down e) 0 (down_pos e) (le_trans (le_of_eq (zero-mul (up e))) zero-le))
  where
    nothing : (q : ℕ) → q ≤ 0 → 0 ≡ q
    nothing q h = omega arith
ceiling_is (fin true (suc m) e) (inl z) h = absurd z
ceiling_is (fin true (suc m) e) (inr z) h = absurd z

module _ (y : Float) (w : Within y) where
  which : T (is_zero y) ⊎ T (positive y)
  which = zero_or_positive y top tt w.above w.under

  size_le : num y ≤ 1024 * den y
  size_le = go y which w.under
    where
      go : (y : Float) → T (is_zero y) ⊎ T (positive y) → T (le y top) → num y ≤ 1024 * den y
      go nan (inl z) h = absurd z
      go nan (inr z) h = absurd z
      go (inf s) (inl z) h = absurd z
      go (inf s) (inr z) h = absurd z
      go (fin s zero e) (inl z) h = le_trans (le_of_eq (zero-mul (up e))) zero-le
      go (fin s (suc m) e) (inl z) h = absurd z
      go (fin s m e) (inr p) h = le_trans (le_of_eq (sym (mul-one (m * up e)))) (le→cross (fin s m e) top p tt h)

  is : ceiling y ≡ (num y + (den y - 1)) / den y
  is = ceiling_is y which size_le

  pub ceiling_le : ceiling y ≤ 1024
  ceiling_le = le_trans (le_of_eq is) (least (num y) (den y) 1024 (den_pos y) size_le)

  pub ceiling_over : num y ≤ ceiling y * den y
  ceiling_over = subst (λ (c : ℕ). num y ≤ c * den y) (sym is) (reaches (num y) (den y) (den_pos y))

  pub ceiling_under : (k : ℕ) → num y ≤ k * den y → ceiling y ≤ k
  ceiling_under k h = le_trans (le_of_eq is) (least (num y) (den y) k (den_pos y) h)
