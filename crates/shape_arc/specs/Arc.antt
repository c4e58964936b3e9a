-- `TessellationOptions::arc_segments` of src/tessellate.rs, and its test for a full turn. Definitions only.
use Rattle.std.specs.Prelude.{ℕ, max, Bool, cond, pos, Float}
use Rattle.std.specs.Float.{binary64}
use Rattle.std.specs.Float.Ieee.{sub, mul, div, of_int, of_bits, is_nan, le}
use Rattle.ieee.specs.Number.{plus_zero, minimum, absolute, tau}
use Rattle.ieee_whole.specs.Whole.{ceiling}

-- the span that counts: 0.0 for a NaN, else `span.abs().min(TAU)`
unfoldable pub counted_span : Float → Float
counted_span span = cond (is_nan span) plus_zero (minimum (absolute span) tau)

-- `full * span / TAU`, for `full = segments.max(3)` and the span that counts
unfoldable pub arc_share : ℕ → Float → Float
arc_share segments span = div binary64 (mul binary64 (of_int binary64 (pos (max segments 3))) (counted_span span)) tau

-- `arc_segments`: `((full * span / TAU).ceil() as usize).max(1)`
unfoldable pub arc_segments : ℕ → Float → ℕ
arc_segments segments span = max (ceiling (arc_share segments span)) 1

-- `TAU - 1e-12`: a span from here on is a full turn
unfoldable pub full_span : Float
full_span = sub binary64 tau (of_bits binary64 0x3D71_9799_812D_EA11)

-- `span >= TAU - 1e-12`
unfoldable pub is_full : Float → Bool
is_full span = le full_span span
