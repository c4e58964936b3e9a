-- `c_solids::meshes::sizturga_bench_area` meets its contract, by that of `mesh::area`. Assumes nothing.
use mathlib.Core.Path.{◌∙◌}
use Rattle.c_solids.proofs.Telling.{boxed_record}
use borrow.Author.Rules.{rules}
use Rattle.c_solids.proofs.meshes.sizturga_bench_area.Goals as goal

pub returns : goal.returns
returns c = rw (← boxed_record c.record_of-m.ensures c.box_in.ensures) (c.bits_or_zero.ensures ∙ c.area.ensures.bits)
