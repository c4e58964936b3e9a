-- The patterns that the code reads and writes, by their fields. All at binary64. Assumes nothing.
use mathlib.Core.Path.{◌≡◌, refl, sym, ap, ◌∙◌, subst}
use mathlib.Core.Bool.{Bool, false, not, cond}
use Prim.Native.Nat.{ℕ, zero, suc, ◌+◌, ◌*◌, ◌/◌, ◌%◌, ◌^◌, ◌≤◌, ◌<◌}
use native.Mathlib.Nat.{lt_of_lt_of_le, pow-succ'}
use native.Mathlib.Omega.{arith}
use lib.Dec.{T}
use lib.Pow.{pow_mono, shl_lt}
use lib.Count.{count_trailing_zeros, under}
use lib.Ieee.{inf, fin, binary64, minus, odd, units, of_fields, of_bits, nan_bits}
use borrow.Author.Tests.{lt-ltb, le-ltb, lt-leb}
use lib.Ieee.Bits.{nan_bits_above}
use Rattle.root_case.proofs.Pattern.{of_bits_is, low_field, normal_field}

-- ---- reading a pattern by its fields

same : {s s' : Bool} {x x' t t' : ℕ} → s ≡ s' → x ≡ x' → t ≡ t' → of_fields binary64 s x t ≡ of_fields binary64 s' x' t'
same p q r = λ i. of_fields binary64 (p i) (q i) (r i)

pub read_low : (b : ℕ) → b < 2 ^ 52 → of_bits binary64 b ≡ odd 53 false (b % 2 ^ 52) 0 1074
read_low b h = of_bits_is b ∙ same (lt-leb (2 ^ 63) b (omega arith)) (omega arith) refl ∙ low_field false (b % 2 ^ 52)

pub read_normal : (b x : ℕ) → b / 2 ^ 52 ≡ suc x → suc x < 2047 → of_bits binary64 b ≡ odd 53 false (2 ^ 52 + b % 2 ^ 52) x 1074
read_normal b x e h = of_bits_is b ∙ same (lt-leb (2 ^ 63) b (omega arith)) (omega arith) refl ∙ normal_field false x (b % 2 ^ 52) (λ f. omega arith)

-- ---- writing the result

tz_more : (d q : ℕ) → 0 < q → q < 2 ^ d → count_trailing_zeros (suc d) q ≡ count_trailing_zeros d q
unfolding count_trailing_zeros
tz_more zero q p h = absurd (omega arith)
tz_more (suc d) q p h = go (q % 2) refl (tz_more d (q / 2))
  where
    go : (r : ℕ) → q % 2 ≡ r → (0 < q / 2 → q / 2 < 2 ^ d → count_trailing_zeros (suc d) (q / 2) ≡ count_trailing_zeros d (q / 2))
        → under r (count_trailing_zeros (suc d) (q / 2)) ≡ under r (count_trailing_zeros d (q / 2))
    go zero e ih = ap suc (ih (omega arith) (let k : q < 2 * 2 ^ d = rw pow-succ' at h in omega arith))
    go (suc r) e ih = refl

odd_more : (q k : ℕ) → 0 < q → q < 2 ^ 53 → odd 54 false q k 1074 ≡ odd 53 false q k 1074
unfolding odd
odd_more zero k p h = refl
odd_more (suc q) k p h = ap (λ (t : ℕ). fin false (suc q / 2 ^ t) (minus (k + t) 1074)) (tz_more 53 (suc q) p h)

units_is : (r k : ℕ) → r < 2 ^ 53 → k < 2046 → units binary64 false r k ≡ odd 54 false r k 1074
unfolding units
units_is r k h g =
    ap (λ (b : Bool). cond b (odd 54 false r k 1074) (inf false))
    (lt-ltb (r * 2 ^ k) (2 ^ 2098) (lt_of_lt_of_le (shl_lt 53 k h) (pow_mono {j = 2098} (omega arith))))

pub write : (r k : ℕ) → 2 ^ 52 ≤ r → r < 2 ^ 53 → k < 2046 → of_bits binary64 (k * 2 ^ 52 + r) ≡ units binary64 false r k
write r k l h g =
    read_normal (k * 2 ^ 52 + r) k (omega arith) (omega arith)
    ∙ ap (λ (q : ℕ). odd 53 false q k 1074) (omega arith)
    ∙ sym (odd_more r k (omega arith) h)
    ∙ sym (units_is r k h g)

pub not_nan_of_le : (b : ℕ) → b < 2047 * 2 ^ 52 → T (not (nan_bits binary64 b))
not_nan_of_le b h = subst (λ (t : Bool). T (not t)) (sym (nan_bits_above binary64 b ∙ le-ltb (2047 * 2 ^ 52) (b % 2 ^ 63) (omega arith))) tt
