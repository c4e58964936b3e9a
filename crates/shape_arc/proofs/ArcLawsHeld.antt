-- `arc_segments` is from 1 to 1024 where the segments are at most 1024; docs/SCOPE.md's figures for 32 segments.
use Rattle.std.specs.Prelude.{◌≡◌, ℕ, ◌≤◌, ◌<◌, Float}
use Rattle.std.proofs.Common.{arith}
use Rattle.ieee_whole.specs.Ceil.{ceiling_le}
use Rattle.shape_arc.specs.Arc.{arc_share, arc_segments}
use Rattle.shape_arc.specs.ArcLaws.{arc_segments_some, share_within}

pub arc_segments_few : (segments : ℕ) (span : Float) → segments ≤ 1024 → arc_segments segments span ≤ 1024
unfolding arc_segments
arc_segments_few segments span h = omega (arith, ceiling_le (arc_share segments span) (share_within segments span h))

-- of a number that is known to be arc_segments
pub arc_few : (n segments : ℕ) (span : Float) → n ≡ arc_segments segments span → segments ≤ 1024 → n ≤ 1024
arc_few n segments span e h = omega (arith, e, arc_segments_few segments span h)

pub arc_some : (n segments : ℕ) (span : Float) → n ≡ arc_segments segments span → 0 < n
arc_some n segments span e = omega (arith, e, arc_segments_some segments span)
