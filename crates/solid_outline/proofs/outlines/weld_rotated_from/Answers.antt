-- `solid_outline::outlines::weld_rotated_from` meets its contract. Assumes nothing.
use borrow.Author.Rules.{rules}
use native.Mathlib.Omega.{arith}
use mathlib.Core.Path.{ap, ◌∙◌}
use Rattle.shape_arc.specs.Arc.{arc_segments, is_full}
use Rattle.surface.proofs.Tables.{filled_less}
use Rattle.shape_arc.proofs.ArcLawsHeld.{arc_few, arc_some}
use Rattle.solid_outline.proofs.OutlineRuns.{rotated_within, rotated_none, rotated_runs}
use Rattle.solid_outline.proofs.outlines.weld_rotated_from.Goals as goal

pub returns-then-len-lt3 : goal.returns-then-len-lt3
returns-then-len-lt3 c = rotated_none _ _ _ _ _ _ _ c.requires.ready c.if-len-lt3.true

pub arc_segments-n-requires : goal.arc_segments-n-requires
arc_segments-n-requires c = c.requires.segments_bound.0

pub fill_entries-requires : goal.fill_entries-requires
fill_entries-requires c =
    let a = arc_few _ _ _ c.arc_segments-n.ensures c.requires.segments_bound.0 in
    record { turns_within = (arc_some _ _ _ c.arc_segments-n.ensures, a, omega arith); n_in_bounds = omega (arith, a) }

pub weld_turned-requires : goal.weld_turned-requires
weld_turned-requires c = let f = c.fill_entries.ensures in record { ready = c.requires.ready; turn_within = record { corners = c.requires.segments_bound.1; few = omega (arith, c.requires.segments_bound.1); steps = arc_few _ _ _ c.arc_segments-n.ensures c.requires.segments_bound.0; within = (rotated_within _ _ _ _ _ c.if-len-lt3.false c.requires.segments_bound.0 c.arc_segments-n.ensures (omega arith), f); near = λ i. (rotated_within _ _ _ _ _ c.if-len-lt3.false c.requires.segments_bound.0 c.arc_segments-n.ensures (omega arith), filled_less _ _ 0 _ (omega arith) f); far = λ i. (rotated_within _ _ _ _ _ c.if-len-lt3.false c.requires.segments_bound.0 c.arc_segments-n.ensures (omega arith), f) } }

pub returns : goal.returns
returns c = rotated_runs _ _ _ _ _ _ _ _ _ _ c.if-len-lt3.false (c.is_full-full.ensures ∙ ap is_full c.abs.ensures) (c.arc_segments-n.ensures ∙ ap (arc_segments c.args.segments) c.turn_span.ensures) c.weld_turned.ensures
