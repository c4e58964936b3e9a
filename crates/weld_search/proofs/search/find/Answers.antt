-- `weld_search::search::find` meets its contract: a case of proofs/Point.antt for each return. Assumes nothing.
use borrow.Author.Rules.{rules}
use mathlib.Core.Path.{refl, ap, subst}
use mathlib.Core.Bool.{Bool, cond}
use native.Mathlib.Omega.{arith}
use Rattle.weld_hash.specs.Hash.{Chained, Placing}
use Rattle.weld_search.proofs.Point.{few_places, point_at, point_full, point_new}
use Rattle.weld_search.proofs.search.find.Goals as goal

pub bucket_at-at-requires : goal.bucket_at-at-requires
bucket_at-at-requires c =
    let s = c in
    let L = s.requires.linked.0 in
    (omega (arith, s.requires.some.1, L.distinct.fits), few_places L, s.requires.linked.1, s.requires.linked.2)

pub number_of-requires : goal.number_of-requires
number_of-requires c =
    let s = c in
    let w = s.args.w.now in
    let L = s.requires.linked.0 in
    let b = c.bucket_at-at.ensures in
    record {
      distinct = (L.distinct, subst (Chained w.vertices.now w.work.now w.st.places w.st.base) (ap (λ (t : Bool). cond t w.st.base w.st.count) s.requires.some.2) L.chained);
      bucket_value = (b.0, b.1, few_places L, s.requires.linked.1);
    }

pub add_searched-requires : goal.add_searched-requires
add_searched-requires c =
    let s = c in
    omega (arith, few_places s.requires.linked.0, s.requires.linked.0.distinct.fits)

pub returns-then-number-count : goal.returns-then-number-count
returns-then-number-count c =
    let s = c in
    let w = s.args.w.now in
    let n = c.number_of in
    let P = subst (λ o. Placing w.st.places w.st.base w.st.count s.args.p w.vertices.now w.work.now o n.new.vertices n.new.work) c.in-Some.is n.ensures in
    let q = P.new c.if-number-count.true in
    record {
      slices = record { same = record { vertices = refl; triangles = refl; work = refl }; triangles = refl; vlong = n.auto.vertices; wlong = n.auto.work };
      runs =
          rw (q.3, q.4, c.if-number-count.true, c.add_searched.ensures)
          (point_new w.st w.vertices.now w.work.now s.requires.linked.0 s.args.p s.requires.some.2 s.requires.linked.1 _ refl q.2 s.requires.some.0 q.0 q.1);
    }

pub returns-else-number-count : goal.returns-else-number-count
returns-else-number-count c =
    let s = c in
    let w = s.args.w.now in
    let n = c.number_of in
    let P = subst (λ o. Placing w.st.places w.st.base w.st.count s.args.p w.vertices.now w.work.now o n.new.vertices n.new.work) c.in-Some.is n.ensures in
    let q = P.found (omega (arith, P.within, c.if-number-count.false)) in
    record {
      slices = record { same = record { vertices = refl; triangles = refl; work = refl }; triangles = refl; vlong = n.auto.vertices; wlong = n.auto.work };
      runs = rw (q.1, q.2) (point_at w.st w.vertices.now w.work.now s.requires.linked.0 s.args.p c.in-Some.number s.requires.some.0 q.0);
    }

pub returns-in-None : goal.returns-in-None
returns-in-None c =
    let s = c in
    let w = s.args.w.now in
    let n = c.number_of in
    let q = subst (λ o. Placing w.st.places w.st.base w.st.count s.args.p w.vertices.now w.work.now o n.new.vertices n.new.work) c.in-None.is n.ensures in
    record {
      slices = record { same = record { vertices = refl; triangles = refl; work = refl }; triangles = refl; vlong = n.auto.vertices; wlong = n.auto.work };
      runs = rw (q.2, q.3, c.shut.ensures) (point_full w.st w.vertices.now w.work.now s.requires.linked.0 s.args.p s.requires.some.0 q.0 q.1);
    }
