-- `c_solids::meshes::sizturga_bench_signed_volume` meets its contract, by that of `mesh::signed_volume`. Assumes nothing.
use mathlib.Core.Path.{◌∙◌}
use Rattle.c_solids.proofs.Telling.{boxed_record}
use borrow.Author.Rules.{rules}
use Rattle.c_solids.proofs.meshes.sizturga_bench_signed_volume.Goals as goal

pub returns : goal.returns
returns c = rw (← boxed_record c.record_of-m.ensures c.box_in.ensures) (c.bits_or_zero.ensures ∙ c.signed_volume.ensures.bits)
