-- `c_solids::meshes::sizturga_bench_transform` meets its contract, by that of `mesh::transform`. Assumes nothing.
use Rattle.c_solids.proofs.Telling.{boxed_record, leaves}
use borrow.Author.Rules.{rules}
use Rattle.c_solids.proofs.meshes.sizturga_bench_transform.Goals as goal

pub returns : goal.returns
returns c =
    let a = c in
    let b = a in
    rw (← boxed_record b.record_of-m.ensures b.box_in.ensures)
    (leaves a.transform-made.ensures c.tell.ensures.number c.tell.ensures.mesh)
