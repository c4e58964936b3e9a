-- `c_solids::meshes::sizturga_bench_append` meets its contract, by that of `mesh::append`. Assumes nothing.
use Rattle.c_solids.proofs.Telling.{boxed_record, leaves}
use borrow.Author.Rules.{rules}
use Rattle.c_solids.proofs.meshes.sizturga_bench_append.Goals as goal

pub returns : goal.returns
returns c =
    let a = c in
    let b = a in
    rw (← boxed_record b.record_of-m.ensures b.box_in.ensures, ← boxed_record a.record_of.ensures a.box_in-2.ensures)
    (leaves a.append-made.ensures c.tell.ensures.number c.tell.ensures.mesh)
