-- The exponent as the code has it, an i64: `field as i64 - 1023`, and its remainder by 2. Assumes nothing.
use mathlib.Core.Path.{◌≡◌, refl, sym, ap, ◌∙◌, subst}
use mathlib.Core.Bool.{Bool, true, false, cond}
use Prim.Native.Nat.{ℕ, zero, suc, ◌-◌, ◌/◌, ◌%◌, ◌^◌, ◌≤◌, ◌<◌}
use native.Mathlib.Nat.{lt_of_le_of_lt}
use native.Mathlib.Omega.{arith}
use lib.IntN.{ℤ, pos, negsuc, neg_ℤ, ◌+ℤ◌, ◌-ℤ◌}
use lib.Dec.{leb, ltb, eqb}
use lib.Signed.{mag, quot_z, rem_z}
use lib.Ieee.{minus}
use mir.Syntax.{w64}
use mir.Val.{SFits, to_z, of_z}
use mir.ValLaws.{to_z_pos, to_z-of_z}
use borrow.Author.Tests.{lt-ltb, le-ltb, leb-true, leb-false, eq-eqb, ne_eqb}
use Rattle.root_case.specs.Case.{is_even}

-- ---- the sum of a field and a small whole number, as -1023

-- both are far below 2 ^ 63
sum_fits_by : (x : ℕ) (z : ℤ) → x < 2048 → mag z < 2048 → SFits w64 (pos x +ℤ z)
sum_fits_by x (pos k) h g = record { sfits = omega arith }
sum_fits_by x (negsuc k) h g = go (ltb x (suc k))
  where
    go : (t : Bool) → SFits w64 (cond t (negsuc (suc k - suc x)) (pos (x - suc k)))
    go true = record { sfits = omega arith }
    go false = record { sfits = omega arith }

-- a field as an i64 is itself
read : (x : ℕ) (z : ℤ) → x < 2048 → to_z w64 x +ℤ z ≡ pos x +ℤ z
read x z h = ap (λ (y : ℤ). y +ℤ z) (to_z_pos w64 x (omega arith))

pub sum_fits : (x : ℕ) (z : ℤ) → x < 2048 → mag z < 2048 → SFits w64 (to_z w64 x +ℤ z)
sum_fits x z h g = subst (λ (y : ℤ). SFits w64 y) (sym (read x z h)) (sum_fits_by x z h g)

-- written as an i64 and read again
back : (x : ℕ) (z : ℤ) → x < 2048 → mag z < 2048 → to_z w64 (of_z w64 (to_z w64 x +ℤ z)) ≡ pos x +ℤ z
back x z h g = to_z-of_z w64 (to_z w64 x +ℤ z) (sum_fits x z h g) ∙ read x z h

-- ---- the quotient by 2, which the remainder asks to fit

-- `mag` of -r is r - 1
mag_neg : (r a : ℕ) → r ≤ suc a → mag (neg_ℤ (pos r)) ≤ a
mag_neg zero a h = omega arith
mag_neg (suc r) a h = omega arith

-- a half is no larger
half_fits : (z : ℤ) → SFits w64 z → SFits w64 (quot_z z (pos 2))
half_fits (pos a) h = record { sfits = let k : a < 2 ^ 63 = h.sfits in omega arith }
half_fits (negsuc a) h = record { sfits = lt_of_le_of_lt (mag_neg (suc a / 2) a (omega arith)) h.sfits }

pub quot_fits : (x : ℕ) (z : ℤ) → x < 2048 → mag z < 2048 → SFits w64 (quot_z (to_z w64 (of_z w64 (to_z w64 x +ℤ z))) (pos 2))
quot_fits x z h g = subst (λ (y : ℤ). SFits w64 (quot_z y (pos 2))) (sym (back x z h g)) (half_fits (pos x +ℤ z) (sum_fits_by x z h g))

-- ---- the remainder is 0 where the exponent is even

-- -r, of a remainder r
negative : (r n : ℕ) → suc n % 2 ≡ r → eqb (of_z w64 (neg_ℤ (pos r))) 0 ≡ eqb (n % 2) 1
negative zero n e = sym (eq-eqb (n % 2) 1 (omega arith))
negative (suc zero) n e = sym (ne_eqb (n % 2) 1 (λ k. omega arith))
negative (suc (suc r)) n e = absurd (omega arith)

-- of either sign
rem_even : (z : ℤ) → eqb (of_z w64 (rem_z z (pos 2))) 0 ≡ is_even z
rem_even (pos n) = refl
rem_even (negsuc n) = negative (suc n % 2) n refl

-- the difference is the exponent
sub_is : (x : ℕ) → pos x -ℤ pos 1023 ≡ minus x 1023
sub_is x = go (leb 1023 x) refl
  where
    go : (t : Bool) → leb 1023 x ≡ t → cond (ltb x 1023) (negsuc (1023 - suc x)) (pos (x - 1023)) ≡ cond t (pos (x - 1023)) (negsuc (1023 - suc x))
    go true p = ap (λ (u : Bool). cond u (negsuc (1023 - suc x)) (pos (x - 1023))) (le-ltb x 1023 (leb-true 1023 x p))
    go false p = ap (λ (u : Bool). cond u (negsuc (1023 - suc x)) (pos (x - 1023))) (lt-ltb x 1023 (leb-false 1023 x p))

-- its remainder by 2
abbrev rem : ℕ → ℕ
rem x = of_z w64 (rem_z (to_z w64 (of_z w64 (to_z w64 x -ℤ pos 1023))) (pos 2))

-- the definition's test is the code's
even_test : (x : ℕ) → x < 2048 → is_even (minus x 1023) ≡ eqb (rem x) 0
even_test x h = sym (ap (λ (z : ℤ). eqb (of_z w64 (rem_z z (pos 2))) 0) (back x (negsuc 1022) h (omega arith) ∙ sub_is x) ∙ rem_even (minus x 1023))

pub even_exponent : (x : ℕ) → x < 2048 → rem x ≡ 0 → is_even (minus x 1023) ≡ true
even_exponent x h e = even_test x h ∙ eq-eqb (rem x) 0 e

pub odd_exponent : (x : ℕ) → x < 2048 → (rem x ≡ 0 → ⊥) → is_even (minus x 1023) ≡ false
odd_exponent x h e = even_test x h ∙ ne_eqb (rem x) 0 e
