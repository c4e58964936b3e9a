-- `weld_hash::link` meets its contract. Assumes nothing.
use borrow.Author.Rules.{rules}
use native.Mathlib.Omega.{arith}
use lib.ListN.{length-set}
use Rattle.weld_hash.proofs.link.Goals as goal

pub bounds-work-bucket-2 : goal.bounds-work-bucket-2
bounds-work-bucket-2 c = simp length-set (omega arith)
