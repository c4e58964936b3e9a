-- Laws of the nearest whole number for callers: it is nearest, with halves away from zero; its remainder modulo 4; its values at zeros. Assumes nothing.
use Rattle.std.specs.Prelude.{◌≡◌, ℕ, zero, suc, ◌+◌, ◌-◌, ◌*◌, ◌/◌, ◌%◌, ◌<◌, ◌≤◌, true, false, T, ℤ, pos, negsuc, neg_ℤ, refl, Float}
use Rattle.std.proofs.Common.{ap, ◌∙◌, mul-pos, zero-lt-suc, zero-mul, div-lt_iff_lt-mul, div-mul-le_self, arith}
use Rattle.std.specs.Float.{nan, inf, fin, binary64}
use Rattle.std.specs.Float.Ieee.{up, down, of_int}
use Rattle.std.specs.Float.Ieee.Fits.{down_pos}
use Rattle.std.specs.Float.Ieee.Scale.{finite}
use Rattle.ieee.specs.Number.{is_zero}
use Rattle.ieee_whole.specs.Whole.{half_up, nearest_whole, mod4, whole_of}

-- a / b - 1 / 2 < half_up a b ≤ a / b + 1 / 2, so no whole number is nearer, and at a tie it is the upper one
pub half_up_nearest : (a b : ℕ) → 0 < b → (half_up a b * (2 * b) ≤ 2 * a + b) × (2 * a < half_up a b * (2 * b) + b)
unfolding half_up
half_up_nearest a b B = (
  div-mul-le_self (2 * a + b) (2 * b),
  over ((2 * a + b) / (2 * b))
      ((div-lt_iff_lt-mul {k = 2 * b} (mul-pos (zero-lt-suc 1) B)).0 (less ((2 * a + b) / (2 * b)))),
)
  where
    less : (q : ℕ) → q < q + 1
    less q = omega arith

    over : (q : ℕ) → 2 * a + b < (q + 1) * (2 * b) → 2 * a < q * (2 * b) + b
    over q h = omega arith

pub half_up_zero : (b : ℕ) → 0 < b → half_up 0 b ≡ 0
half_up_zero b B = none (half_up 0 b) (half_up_nearest 0 b B).0
  where
    none : (q : ℕ) → q * (2 * b) ≤ 2 * 0 + b → q ≡ 0
    none zero h = refl
    none (suc q) h = absurd (big q h)
      where
        big : (q : ℕ) → suc q * (2 * b) ≤ 2 * 0 + b → ⊥
        big q h = omega arith

-- 0 ≤ mod4 q < 4, and q less it is a multiple of 4, for q = n and for q = -n
pub mod4_below : (q : ℤ) → mod4 q < 4
unfolding mod4
mod4_below (pos n) = omega arith
mod4_below (negsuc n) = omega arith

pub mod4_neg : (n : ℕ) → mod4 (neg_ℤ (pos n)) ≡ (4 - n % 4) % 4
unfolding mod4
mod4_neg zero = refl
mod4_neg (suc k) = omega arith

pub mod4_back : (n : ℕ) → (mod4 (neg_ℤ (pos n)) + n) % 4 ≡ 0
unfolding mod4
mod4_back zero = refl
mod4_back (suc k) = omega arith

-- the whole number nearest to a zero of either sign is 0
pub nearest_zero : (p : Float) → T (is_zero p) → nearest_whole p ≡ pos 0
unfolding nearest_whole
nearest_zero nan z = absurd z
nearest_zero (inf s) z = absurd z
nearest_zero (fin false zero e) z = ap pos (ap (λ (x : ℕ). half_up x (down e)) (zero-mul (up e)) ∙ half_up_zero (down e) (down_pos e))
nearest_zero (fin true zero e) z = ap (λ (x : ℕ). neg_ℤ (pos x)) (ap (λ (x : ℕ). half_up x (down e)) (zero-mul (up e)) ∙ half_up_zero (down e) (down_pos e))
nearest_zero (fin s (suc m) e) z = absurd z

-- of a number, both parts by `nearest_whole`
pub finite_whole : (p : Float) → T (finite p) → whole_of p ≡ record { value = of_int binary64 (nearest_whole p); mod_4 = mod4 (nearest_whole p) }
unfolding whole_of
finite_whole nan t = absurd t
finite_whole (inf s) t = absurd t
finite_whole (fin s m e) t = refl
