-- Worked examples of the series, of the range, and of the bound at single angles, by computation.
use Rattle.std.specs.Prelude.{◌≡◌, refl, ℕ, ◌*◌, ◌^◌, ◌<◌, ℤ, pos, negsuc, nat_abs, ◌*ℤ◌, Float}
use Rattle.std.proofs.Common.{lit≤, lit<}
use Rattle.std.proofs.Math.IntN.{pow, one}
use Rattle.std.specs.Float.{nan, binary64}
use Rattle.std.specs.Float.Ieee.{of_bits, neg, le, add, sub, mul, div, of_int}
use Rattle.trig_spec.specs.Formula.{factorial}
use Rattle.trig_spec.specs.Trig.{sin_cos}
use Rattle.trig_law.specs.Series.{SignedFraction, difference, series, sine_series, exact_value, InRange, NearSeries}

-- ---- three terms at 1/2 and at −1/2. The fractions are not in lowest terms, so they are compared crosswise
-- q is n / d
abbrev Is : SignedFraction → ℤ → ℕ → Type 0
Is q n d = q.num *ℤ pos d ≡ n *ℤ pos q.den

abbrev halves : ℤ → SignedFraction
halves n = record { num = n; den = 2 }

-- 1/2 − 1/48 + 1/3840
pub sine : Is (series 3 1 (halves (pos 1))) (pos 1841) 3840
unfolding series pow one factorial
sine = refl

minus_sine : Is (series 3 1 (halves (negsuc 0))) (negsuc 1840) 3840
unfolding series pow one factorial
minus_sine = refl

-- 1 − 1/8 + 1/384
pub cosine : Is (series 3 0 (halves (negsuc 0))) (pos 337) 384
unfolding series pow one factorial
cosine = refl

-- ---- both ends are in the range
high_end : InRange (of_bits binary64 0x3FE8000000000000)
unfolding of_bits neg le
high_end = record { low = tt; high = tt }

low_end : InRange (of_bits binary64 0xBFE8000000000000)
unfolding of_bits neg le
low_end = record { low = tt; high = tt }

-- the float after 0.75 is not, and no NaN is
past_the_end : InRange (of_bits binary64 0x3FE8000000000001) → ⊥
unfolding of_bits neg le
past_the_end i = i.high

not_a_number : InRange nan → ⊥
unfolding le
not_a_number i = i.high

-- ---- the sine of 0.75 does not lie within 2 ^ -60 of its series
abbrev off_at : Float → SignedFraction
off_at x = difference (exact_value (sin_cos x).sin) (sine_series (exact_value x))

not_within_60 : (off_at (of_bits binary64 0x3FE8000000000000)).den < nat_abs (off_at (of_bits binary64 0x3FE8000000000000)).num * 2 ^ 60
unfolding sin_cos of_bits mul add sub neg div of_int series pow one factorial
not_within_60 = lit< tt
