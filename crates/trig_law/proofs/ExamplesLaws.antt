-- Worked examples of the series, of the range, and of the bound at single angles, by computation.
use Rattle.std.specs.Prelude.{◌≡◌, ◌*◌, ◌^◌, ◌<◌, ◌*ℤ◌}
use Rattle.std.proofs.Common.{lit≤}
use Rattle.std.proofs.Math.IntN.{pow, one}
use Rattle.std.specs.Float.{binary64}
use Rattle.std.specs.Float.Ieee.{of_bits, neg, add, sub, mul, div, of_int}
use Rattle.trig_spec.specs.Formula.{factorial}
use Rattle.trig_spec.specs.Trig.{sin_cos}
use Rattle.trig_law.specs.Series.{series, NearSeries}
use Rattle.trig_law.specs.Examples.{cosine, sine}

-- ---- sine and cosine of 0.5 and of −0.75 lie within 2 ^ -40 of their series
half : NearSeries 40 (of_bits binary64 0x3FE0000000000000) (sin_cos (of_bits binary64 0x3FE0000000000000))
unfolding sin_cos of_bits mul add sub neg div of_int series pow one factorial
half = record { sine = record { is_finite = tt; near = lit≤ tt }; cosine = record { is_finite = tt; near = lit≤ tt } }

minus_three_quarters : NearSeries 40 (of_bits binary64 0xBFE8000000000000) (sin_cos (of_bits binary64 0xBFE8000000000000))
unfolding sin_cos of_bits mul add sub neg div of_int series pow one factorial
minus_three_quarters = record { sine = record { is_finite = tt; near = lit≤ tt }; cosine = record { is_finite = tt; near = lit≤ tt } }
