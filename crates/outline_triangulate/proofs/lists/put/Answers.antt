-- `outline_triangulate::lists::put` meets its contract. Assumes nothing.
use native.Mathlib.Omega.{arith}
use lib.ListN.{length-set}
use Rattle.outline_triangulate.proofs.Writing.{put_wrote}
use borrow.Author.Rules.{rules}
use Rattle.outline_triangulate.proofs.lists.put.Goals as goal

pub bounds-out-i-2 : goal.bounds-out-i-2
bounds-out-i-2 c = simp length-set (omega arith)

pub bounds-out-i-3 : goal.bounds-out-i-3
bounds-out-i-3 c = simp length-set (omega arith)

pub shape_of-out : goal.shape_of-out
shape_of-out c = simp length-set

pub returns : goal.returns
returns c = put_wrote c.args.t c.args.out.now c.args.a c.args.b c.args.c c.requires
