-- The number of given digits and exponent, in units of the format's smallest value. All at binary64. Assumes nothing.
use mathlib.Core.Path.{◌≡◌, sym, ap, ◌∙◌}
use mathlib.Core.Bool.{Bool, true, false, not, cond}
use Prim.Native.Nat.{ℕ, suc, ◌+◌, ◌-◌, ◌*◌, ◌/◌, ◌^◌, ◌≤◌, ◌<◌}
use native.Mathlib.Nat.{le_of_lt, lt_of_lt_of_le, mul-pos, mul_assoc}
use native.Mathlib.Omega.{arith}
use lib.IntN.{pos, negsuc, neg_ℤ}
use lib.Dec.{T, leb, leb→le, nleb→lt}
use lib.Pow.{pow_pos, pow_mono, pow-add, shl_lt}
use lib.Ieee.{binary64, up, down, minus, units}
use lib.Ieee.Digits.{minus_val}
use lib.Ieee.Exact.{HasValue, units_val, round_exact}
use lib.Ieee.Fits.{down_pos, round-fits}
use borrow.Author.Tests.{le-leb, lt-leb}
use Rattle.root.specs.ByCase.{of_digits, half}
use Rattle.root.proofs.Units.{same_float, units_fits}

-- ---- exponents

minus_le : (a b : ℕ) → b ≤ a → minus a b ≡ pos (a - b)
minus_le a b h = ap (λ (t : Bool). cond t (pos (a - b)) (negsuc (b - suc a))) (le-leb b a h)

minus_lt : (a b : ℕ) → a < b → minus a b ≡ negsuc (b - suc a)
minus_lt a b h = ap (λ (t : Bool). cond t (pos (a - b)) (negsuc (b - suc a))) (lt-leb b a h)

-- half of an exponent, from its field
pub half_is : (E : ℕ) → half (minus E 1023) ≡ minus ((E + 1021) / 2) 1022
half_is E = go (leb 1023 E) (leb→le 1023 E) (nleb→lt 1023 E)
  where
    go : (t : Bool) → (T t → 1023 ≤ E) → (T (not t) → E < 1023) → half (minus E 1023) ≡ minus ((E + 1021) / 2) 1022
    go true y n =
        let h : 1023 ≤ E = y tt in
        ap half (minus_le E 1023 h) ∙ ap pos (omega arith) ∙ sym (minus_le ((E + 1021) / 2) 1022 (omega arith))
    go false y n =
        let h : E < 1023 = n tt in
        ap half (minus_lt E 1023 h) ∙ ap negsuc (omega arith) ∙ sym (minus_lt ((E + 1021) / 2) 1022 (omega arith))

-- the exponent of a subnormal number's root
pub negated : (k : ℕ) → k ≤ 511 → neg_ℤ (pos (511 + k)) ≡ minus (511 - k) 1022
negated k h =
    let e : 511 + k ≡ suc (510 + k) = omega arith in
    ap (λ (n : ℕ). neg_ℤ (pos n)) e ∙ ap negsuc (omega arith) ∙ sym (minus_lt (511 - k) 1022 (omega arith))

-- the exponent of a normal number, from its field
pub field_is : (x : ℕ) → minus (suc x) 1023 ≡ minus x 1022
field_is x = go (leb 1022 x) (leb→le 1022 x) (nleb→lt 1022 x)
  where
    go : (t : Bool) → (T t → 1022 ≤ x) → (T (not t) → x < 1022) → minus (suc x) 1023 ≡ minus x 1022
    go true y n =
        let h : 1022 ≤ x = y tt in
        minus_le (suc x) 1023 (omega arith) ∙ ap pos (omega arith) ∙ sym (minus_le x 1022 h)
    go false y n =
        let h : x < 1022 = n tt in
        minus_lt (suc x) 1023 (omega arith) ∙ ap negsuc (omega arith) ∙ sym (minus_lt x 1022 h)

-- ---- the number itself

-- 53 digits are never too large for the format
pub no_overflow : (q k : ℕ) → q < 2 ^ 53 → k < 2046 → q * 2 ^ k < 2 ^ 2098
no_overflow q k h g = lt_of_lt_of_le (shl_lt 53 k h) (pow_mono {j = 2098} (omega arith))

module _ (q k : ℕ) (small : q < 2 ^ 53) (room : k < 2046) where
  abbrev den : ℕ
  den = 2 ^ 52 * down (minus k 1022)

  den_pos : 0 < den
  den_pos = mul-pos (pow_pos 52) (down_pos (minus k 1022))

  same_size : q * up (minus k 1022) * 2 ^ 1074 ≡ q * 2 ^ k * den
  same_size = scale (q * up (minus k 1022)) (2 ^ 1022) (q * 2 ^ k) (down (minus k 1022)) (2 ^ 52) (2 ^ 1074) (pow-add 2 1022 52) (minus_val q k 1022)
    where
      scale : (u L v d P W : ℕ) → W ≡ L * P → u * L ≡ v * d → u * W ≡ v * (P * d)
      scale u L v d P W w e = ap (λ (x : ℕ). u * x) w ∙ sym (mul_assoc u L P) ∙ ap (λ (x : ℕ). x * P) e ∙ omega arith

  -- the number of these digits and this exponent is held, so it is exact
  pub digits_exact : HasValue (of_digits q (minus k 1022)) false (q * up (minus k 1022)) (2 ^ 52 * down (minus k 1022))
  unfolding of_digits
  digits_exact = round_exact binary64 false (q * up (minus k 1022)) den q k den_pos small (no_overflow q k small room) same_size

  pub digits_units : of_digits q (minus k 1022) ≡ units binary64 false q k
  unfolding of_digits
  digits_units =
      same_float binary64 (of_digits q (minus k 1022)) (units binary64 false q k) (q * up (minus k 1022)) den (q * 2 ^ k) (2 ^ 1074)
      (round-fits binary64 false (q * up (minus k 1022)) den) (units_fits binary64 q k (le_of_lt small) (no_overflow q k small room))
      digits_exact
      (units_val binary64 false q k (no_overflow q k small room)) den_pos (pow_pos 1074) same_size
