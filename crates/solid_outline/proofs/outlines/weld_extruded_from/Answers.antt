-- `solid_outline::outlines::weld_extruded_from` meets its contract. Assumes nothing.
use borrow.Author.Rules.{rules}
use native.Mathlib.Omega.{arith}
use mathlib.Core.Path.{◌∙◌}
use Rattle.solid_outline.proofs.OutlineRuns.{extruded_within, extruded_none, extruded_both, extruded_flat}
use Rattle.solid_outline.proofs.outlines.weld_extruded_from.Goals as goal

pub returns-then-len-lt3 : goal.returns-then-len-lt3
returns-then-len-lt3 c = extruded_none _ _ _ _ _ _ c.requires.ready c.if-len-lt3.true

pub weld_ends-requires : goal.weld_ends-requires
weld_ends-requires c = let e = extruded_within _ _ c.requires.n_bound.0 c.if-len-lt3.false in record { ready = c.requires.ready; p_len_bound = (c.requires.n_bound.1, (λ i. (e, tt), λ j _ i. (e, tt))) }

pub weld_ends-requires-else-hi-lo : goal.weld_ends-requires-else-hi-lo
weld_ends-requires-else-hi-lo c = let e = extruded_within _ _ c.requires.n_bound.0 c.if-len-lt3.false in record { ready = c.requires.ready; p_len_bound = (c.requires.n_bound.1, (λ i. (e, tt), λ j _ i. (e, tt))) }

pub weld_grid-requires : goal.weld_grid-requires
weld_grid-requires c = record { ready = c.weld_ends.ensures.runs.ready; nu_bound = (omega (arith, c.requires.n_bound.1), omega arith, omega arith, (extruded_within _ _ c.requires.n_bound.0 c.if-len-lt3.false, tt)) }

pub returns-then-hi-lo : goal.returns-then-hi-lo
returns-then-hi-lo c = extruded_both _ _ _ _ _ _ _ c.if-len-lt3.false c.if-hi-lo.true c.weld_ends.ensures c.weld_grid.ensures

pub returns-else-hi-lo : goal.returns-else-hi-lo
returns-else-hi-lo c = extruded_flat _ _ _ _ _ _ c.if-len-lt3.false c.if-hi-lo.false c.weld_ends-else-hi-lo.ensures
