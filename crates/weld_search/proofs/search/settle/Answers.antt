-- `weld_search::search::settle` meets its contract. Assumes nothing.
use borrow.Author.Rules.{rules}
use mathlib.Core.Path.{ap, subst}
use mathlib.Core.Bool.{Bool, cond}
use Rattle.weld_hash.specs.Hash.{Chained}
use Rattle.weld_search.proofs.Point.{few_places}
use Rattle.weld_search.proofs.search.settle.Goals as goal

pub index-requires : goal.index-requires
index-requires c =
    let s = c in
    let w = s.args.w.now in
    let L = s.requires in
    (L.distinct, few_places L, subst (Chained w.vertices.now w.work.now w.st.places w.st.base) (ap (λ (t : Bool). cond t w.st.base w.st.count) c.if-w.true) L.chained)
