-- `c_solids::solids::sizturga_bench_solid` meets its contract, by that of `tessellate::tessellate`. Assumes nothing.
use Rattle.c_solids.proofs.Telling.{tells}
use borrow.Author.Rules.{rules}
use Rattle.c_solids.proofs.solids.sizturga_bench_solid.Goals as goal

pub returns : goal.returns
returns c =
    let a = c in
    let b = a in
    rw (← b.system.ensures, ← b.shape_of.ensures)
    (tells a.tessellate-made.ensures.outcome c.empty_record.ensures c.tell.ensures.number c.tell.ensures.mesh)
