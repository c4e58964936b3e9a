-- A whole number up to 2 ^ 52 and its negative, as an i64 and as a float. Assumes nothing.
use Rattle.std.proofs.Common.{◌≡◌, ℕ, zero, suc, ◌^◌, ◌≤◌, T, ℤ, pos, ◌-ℤ◌, neg_ℤ, sym, ap, ◌∙◌, subst, le_trans, lt_of_lt_of_le, lt_of_le_of_lt, le→leb, ltb→lt, lt→ltb, leb→le, pow_pos, w64, SFits, to_z, of_z}
use lib.IntN.{+ℤ_idl}
use lib.Ieee.{binary64, in_float}
use mir.ValLaws.{to_z_pos, to_z-of_z}

pub read : (n : ℕ) → n ≤ 2 ^ 52 → to_z w64 n ≡ pos n
read n h = to_z_pos w64 n (lt_of_le_of_lt h (ltb→lt (2 ^ 52) (2 ^ 63) tt))

pub minus_is : (n : ℕ) → n ≤ 2 ^ 52 → pos 0 -ℤ to_z w64 n ≡ neg_ℤ (pos n)
minus_is n h = ap (λ (z : ℤ). pos 0 -ℤ z) (read n h) ∙ +ℤ_idl (neg_ℤ (pos n))

minus_fits : (n : ℕ) → n ≤ 2 ^ 52 → SFits w64 (neg_ℤ (pos n))
minus_fits zero h = record { sfits = pow_pos 63 }
minus_fits (suc k) h = record { sfits = lt_of_lt_of_le h (leb→le (2 ^ 52) (2 ^ 63) tt) }

pub sub_fits : (n : ℕ) → n ≤ 2 ^ 52 → SFits w64 (pos 0 -ℤ to_z w64 n)
sub_fits n h = subst (λ (z : ℤ). SFits w64 z) (sym (minus_is n h)) (minus_fits n h)

pub minus_back : (n : ℕ) → n ≤ 2 ^ 52 → to_z w64 (of_z w64 (pos 0 -ℤ to_z w64 n)) ≡ neg_ℤ (pos n)
minus_back n h = to_z-of_z w64 (pos 0 -ℤ to_z w64 n) (sub_fits n h) ∙ minus_is n h

pub in_float_lem : (n : ℕ) → n ≤ 2 ^ 52 → T (in_float binary64 (pos n))
unfolding in_float
in_float_lem n h = le→leb n (2 ^ 53) (le_trans h (leb→le (2 ^ 52) (2 ^ 53) tt))

pub minus_in_float : (n : ℕ) → n ≤ 2 ^ 52 → T (in_float binary64 (neg_ℤ (pos n)))
unfolding in_float
minus_in_float zero h = tt
minus_in_float (suc k) h = lt→ltb k (2 ^ 53) (lt_of_lt_of_le h (leb→le (2 ^ 52) (2 ^ 53) tt))
