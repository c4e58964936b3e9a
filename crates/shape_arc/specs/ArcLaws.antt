-- `arc_segments` is from 1 to 1024 where the segments are at most 1024; docs/SCOPE.md's figures for 32 segments.
use Rattle.std.specs.Prelude.{◌≡◌, refl, Bool, true, false, cond, not, ℕ, ◌≤◌, ◌<◌, max, T, Float}
use Rattle.std.proofs.Common.{arith}
use Rattle.std.specs.Float.{nan}
use Rattle.std.specs.Float.Ieee.{mul, div, neg, of_int, of_bits, is_nan, lt, le}
use Rattle.ieee.specs.Number.{plus_zero, minimum, absolute, pi, tau}
use Rattle.ieee_whole.specs.Whole.{ceiling}
use Rattle.ieee_whole.specs.Sweep.{sweep, Within, sweep_within, arc_within}
use Rattle.ieee_whole.specs.Ceil.{ceiling_le}
use Rattle.shape_arc.specs.Arc.{counted_span, arc_share, arc_segments}

pub arc_segments_some : (segments : ℕ) (span : Float) → 1 ≤ arc_segments segments span
unfolding arc_segments
arc_segments_some segments span = omega arith

zero_share : (n : ℕ) → 3 ≤ n → n ≤ 1024 → Within (sweep n plus_zero)
unfolding le of_bits
zero_share n a b = sweep_within n plus_zero a b tt tt

pub share_within : (segments : ℕ) (span : Float) → segments ≤ 1024 → Within (arc_share segments span)
unfolding arc_share counted_span
share_within segments span h = go (is_nan span) (λ t. t)
  where
    go : (b : Bool) → (T (not b) → T (not (is_nan span))) → Within (sweep (max segments 3) (cond b plus_zero (minimum (absolute span) tau)))
    go true k = zero_share (max segments 3) (omega arith) (omega arith)
    go false k = arc_within (max segments 3) span (k tt) (omega arith) (omega arith)

-- docs/SCOPE.md, F6: arcs of four spans
pub arc_zero : arc_segments 32 plus_zero ≡ 1
unfolding arc_segments arc_share counted_span ceiling minimum absolute is_nan lt mul div of_int of_bits
arc_zero = refl

pub arc_pi : arc_segments 32 pi ≡ 16
unfolding arc_segments arc_share counted_span ceiling minimum absolute is_nan lt mul div of_int of_bits
arc_pi = refl

pub arc_minus_pi : arc_segments 32 (neg pi) ≡ 16
unfolding arc_segments arc_share counted_span ceiling minimum absolute is_nan lt mul div of_int of_bits neg
arc_minus_pi = refl

pub arc_tau : arc_segments 32 tau ≡ 32
unfolding arc_segments arc_share counted_span ceiling minimum absolute is_nan lt mul div of_int of_bits
arc_tau = refl

-- a span that is no number counts as 0
pub arc_nan : arc_segments 32 nan ≡ 1
unfolding arc_segments arc_share counted_span ceiling minimum absolute is_nan lt mul div of_int of_bits
arc_nan = refl
