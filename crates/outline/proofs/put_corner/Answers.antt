-- `outline::put_corner` meets its contract. Assumes nothing.
use native.Mathlib.Omega.{arith}
use lib.ListN.{length-set}
use Rattle.outline.proofs.Laws.{put_wrote}
use Rattle.outline.proofs.put_corner.Goals as goal

pub bounds-out-at-2 : goal.bounds-out-at-2
bounds-out-at-2 c = simp length-set (omega arith)

pub shape_of-out : goal.shape_of-out
shape_of-out c = simp length-set

pub returns : goal.returns
returns c = put_wrote c.args.m c.args.p c.args.out.now c.requires
