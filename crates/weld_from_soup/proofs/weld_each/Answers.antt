-- `weld_from_soup::weld_each` meets its contract: the triangles before i are welded. Assumes nothing.
use native.Mathlib.Omega.{arith}
use mathlib.Core.Path.{refl}
use Rattle.weld_from_soup.proofs.SoupRuns.{first_none, first_more, first_all}
use Rattle.weld_from_soup.proofs.weld_each.Goals as goal

pub loop-i-init : goal.loop-i-init
loop-i-init c = (refl, first_none c.args.soup.now c.args.w.now c.requires)

pub loop-i-preserved : goal.loop-i-preserved
loop-i-preserved c = (refl, first_more c.args.soup.now c.loop-i.i _ _ _ c.loop-i.invariant.1 c.weld_at.ensures)
