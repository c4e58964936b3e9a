-- `weld_search::look_up` meets its contract: a case of proofs/Point.antt for each return. Assumes nothing.
use borrow.Author.Rules.{rules}
use mathlib.Core.Path.{refl, subst}
use native.Mathlib.Omega.{arith}
use Rattle.weld.specs.States.{Shows}
use Rattle.weld_search.proofs.Point.{few_places, point_shut, point_fresh, point_full, point_stays}
use Rattle.weld_search.proofs.look_up.Goals as goal

pub returns-then-not-w : goal.returns-then-not-w
returns-then-not-w c =
    let s = c in
    let w = s.args.w.now in
    point_stays w s.args.p 0 (point_shut w.st w.vertices.now w.work.now s.requires.0 s.args.p c.if-not-w.true)

pub add_in_row-requires : goal.add_in_row-requires
add_in_row-requires c =
    let s = c in
    omega (arith, few_places s.requires.0, s.requires.0.distinct.fits)

pub returns-then-count-w : goal.returns-then-count-w
returns-then-count-w c =
    let s = c in
    let w = s.args.w.now in
    record {
      slices = record { same = record { vertices = refl; triangles = refl; work = refl }; triangles = refl; vlong = c.put_vertex.auto.vertices; wlong = refl };
      runs =
          rw (c.put_vertex.ensures, c.add_in_row.ensures)
          (point_fresh w.st w.vertices.now w.work.now s.requires.0 s.args.p c.in-Some.row
          (subst (Shows w.st w.vertices.now s.args.p) c.in-Some.is c.foresee.ensures.shows)
          s.requires.1 c.if-not-w.false c.if-count-w.true);
    }

pub returns-else-count-w : goal.returns-else-count-w
returns-else-count-w c =
    let s = c in
    let w = s.args.w.now in
    record {
      slices = record { same = record { vertices = refl; triangles = refl; work = refl }; triangles = refl; vlong = refl; wlong = refl };
      runs =
          rw c.shut.ensures
          (point_full w.st w.vertices.now w.work.now s.requires.0 s.args.p c.if-not-w.false
          (subst (Shows w.st w.vertices.now s.args.p) c.in-Some.is c.foresee.ensures.shows).missing c.if-count-w.false);
    }
