-- `c_solids::meshes::sizturga_bench_bounding_box` meets its contract, by that of `mesh::bounding_box`. Assumes nothing.
use Rattle.c_solids.proofs.Telling.{boxed_record, tells_box}
use borrow.Author.Rules.{rules}
use Rattle.c_solids.proofs.meshes.sizturga_bench_bounding_box.Goals as goal

pub returns : goal.returns
returns c =
    let a = c in
    rw (← boxed_record a.record_of-m.ensures a.box_in.ensures)
    (tells_box a.bounding_box-boxed.ensures c.number.ensures c.box_or_zeros.ensures c.put_box.ensures)
