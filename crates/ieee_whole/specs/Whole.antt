-- Whole numbers of a float: the ceiling; the nearest one, where a half goes away from zero, and what is left of it by 4 (q and q mod 4 of docs/SCOPE.md, T2).
use Rattle.std.specs.Prelude.{ℕ, ◌+◌, ◌-◌, ◌*◌, ◌/◌, ◌%◌, ◌^◌, min, Bool, true, false, cond, ℤ, pos, negsuc, neg_ℤ, Float}
use Rattle.std.specs.Float.{nan, inf, fin, binary64}
use Rattle.std.specs.Float.Ieee.{up, down, of_int}
use Rattle.ieee_whole.specs.declared.Whole.{Whole}

-- the whole number nearest to a / b, a half going up: a / b + 1 / 2 without its fraction
unfoldable pub half_up : ℕ → ℕ → ℕ
half_up a b = (2 * a + b) / (2 * b)

-- n, and -n where the sign is negative
abbrev pub signed : Bool → ℕ → ℤ
signed false n = pos n
signed true n = neg_ℤ (pos n)

-- f64::abs then f64::round, as a whole number; 0 at a NaN and an infinity
unfoldable pub nearest_magnitude : Float → ℕ
unfolding half_up
nearest_magnitude nan = 0
nearest_magnitude (inf s) = 0
nearest_magnitude (fin s m e) = half_up (m * up e) (down e)

-- f64::round, as a whole number: `fin s m e` is ±(m * up e) / down e. 0 at a NaN and an infinity
unfoldable pub nearest_whole : Float → ℤ
unfolding half_up
nearest_whole nan = pos 0
nearest_whole (inf s) = pos 0
nearest_whole (fin s m e) = signed s (half_up (m * up e) (down e))

-- docs/SCOPE.md T2, q mod 4: i64::rem_euclid(4)
unfoldable pub mod4 : ℤ → ℕ
mod4 (pos n) = n % 4
mod4 (negsuc n) = 3 - n % 4

-- What `nearest_whole` returns: the whole number as a float, and it modulo 4. A whole 0 is +0.0, also where f64::round gives -0.0.
-- At a NaN and an infinity: the value itself, and 0.
unfoldable pub whole_of : Float → Whole
unfolding nearest_whole mod4
whole_of nan = record { value = nan; mod_4 = 0 }
whole_of (inf s) = record { value = inf s; mod_4 = 0 }
whole_of (fin s m e) = record { value = of_int binary64 (nearest_whole (fin s m e)); mod_4 = mod4 (nearest_whole (fin s m e)) }

-- y.ceil() as usize, on 64 bits: the least whole number that is no smaller than y, and at most 2 ^ 64 - 1.
-- A NaN, a zero of either sign and what is below zero give 0
unfoldable pub ceiling : Float → ℕ
ceiling nan = 0
ceiling (inf s) = cond s 0 (2 ^ 64 - 1)
ceiling (fin s m e) = cond s 0 (min ((m * up e + (down e - 1)) / down e) (2 ^ 64 - 1))
