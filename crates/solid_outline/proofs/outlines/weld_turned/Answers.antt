-- `solid_outline::outlines::weld_turned` meets its contract. Assumes nothing.
use borrow.Author.Rules.{rules}
use native.Mathlib.Omega.{arith}
use mathlib.Core.Path.{◌∙◌}
use Rattle.solid_outline.proofs.OutlineRuns.{turn_full, turn_part, caps_at}
use Rattle.solid_outline.proofs.outlines.weld_turned.Goals as goal

pub weld_grid-requires : goal.weld_grid-requires
weld_grid-requires c = let t = c.requires.turn_within in record { ready = c.requires.ready; nu_bound = (t.few, t.steps, omega (arith, t.steps), t.within) }

pub returns-else-not-full : goal.returns-else-not-full
returns-else-not-full c = turn_full _ _ _ _ _ _ _ c.if-not-full.false c.weld_grid.ensures

pub weld_ends-requires : goal.weld_ends-requires
weld_ends-requires c = let t = c.requires.turn_within in record { ready = c.weld_grid.ensures.runs.ready; p_len_bound = (t.corners, (t.near, λ j e. caps_at c.args.x.now c.args.n j e t.far)) }

pub returns-then-not-full : goal.returns-then-not-full
returns-then-not-full c = turn_part _ _ _ _ _ _ _ _ c.if-not-full.true c.weld_grid.ensures c.weld_ends.ensures
