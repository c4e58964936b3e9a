-- `c_solids::soup::sizturga_bench_from_soup` meets its contract, by that of `weld_from_soup::from_soup`. Assumes nothing.
use Rattle.c_solids.proofs.Telling.{tells}
use borrow.Author.Rules.{rules}
use Rattle.c_solids.proofs.soup.sizturga_bench_from_soup.Goals as goal

pub returns : goal.returns
returns c = tells c.from_soup-made.ensures.outcome c.empty_record.ensures c.tell.ensures.number c.tell.ensures.mesh
