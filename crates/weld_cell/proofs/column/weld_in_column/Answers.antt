-- `weld_cell::column::weld_in_column` meets its contract: where a and d are known, only b and c are looked up. Assumes nothing.
use borrow.Author.Rules.{rules}
use mathlib.Core.Path.{sym, ◌∙◌}
use Rattle.weld.specs.Welding.{held_by}
use Rattle.weld_quad.proofs.Quads.{known_small}
use Rattle.weld_cell.proofs.Side.{side_straight, side_turned}
use Rattle.weld_cell.proofs.column.weld_in_column.Goals as goal

pub plus_zero-b-requires : goal.plus_zero-b-requires
plus_zero-b-requires c = sym c.is_finite.ensures ∙ c.if-is_finite.true

pub plus_zero-c-requires : goal.plus_zero-c-requires
plus_zero-c-requires c = sym c.is_finite-then-is_finite.ensures ∙ c.if-is_finite-2.true

pub weld_turned_side-requires : goal.weld_turned_side-requires
weld_turned_side-requires c =
    let s = c in
    let p = s.args.p in
    let n = s.args.n in
    let w = s.args.w.now in
    let k = s.requires.known c.if-known.true in
    let small = known_small w.st w.vertices.now w.work.now in
    record {
      ready = s.requires.ready;
      clean = (
        c.plus_zero-b.ensures.1,
        c.plus_zero-c.ensures.1,
        small p.a n.a s.requires.ready.linked c.if-w.true c.if-w-2.true k.0,
        small p.d n.d s.requires.ready.linked c.if-w.true c.if-w-2.true k.1,
      );
    }

pub returns-then-flip : goal.returns-then-flip
returns-then-flip c =
    let s = c in
    let p = s.args.p in
    let n = s.args.n in
    let k = s.requires.known c.if-known.true in
    let r = c.weld_turned_side in
    record {
      same = r.ensures.same;
      numbered = side_turned p c.plus_zero-b.result c.plus_zero-c.result n.a n.d (held_by s.args.w.now) _ r.result c.if-w.true c.if-w-2.true k.0 k.1
          (sym c.is_finite.ensures ∙ c.if-is_finite.true) (sym c.is_finite-then-is_finite.ensures ∙ c.if-is_finite-2.true)
          c.plus_zero-b.ensures.0 c.plus_zero-c.ensures.0 s.args.flip c.if-flip.true r.ensures.runs;
    }

pub weld_side-requires : goal.weld_side-requires
weld_side-requires c =
    let s = c in
    let p = s.args.p in
    let n = s.args.n in
    let w = s.args.w.now in
    let k = s.requires.known c.if-known.true in
    let small = known_small w.st w.vertices.now w.work.now in
    record {
      ready = s.requires.ready;
      clean = (
        c.plus_zero-b.ensures.1,
        c.plus_zero-c.ensures.1,
        small p.a n.a s.requires.ready.linked c.if-w.true c.if-w-2.true k.0,
        small p.d n.d s.requires.ready.linked c.if-w.true c.if-w-2.true k.1,
      );
    }

pub returns-then-is_finite-2 : goal.returns-then-is_finite-2
returns-then-is_finite-2 c =
    let s = c in
    let p = s.args.p in
    let n = s.args.n in
    let k = s.requires.known c.if-known.true in
    let r = c.weld_side in
    record {
      same = r.ensures.same;
      numbered = side_straight p c.plus_zero-b.result c.plus_zero-c.result n.a n.d (held_by s.args.w.now) _ r.result c.if-w.true c.if-w-2.true k.0 k.1
          (sym c.is_finite.ensures ∙ c.if-is_finite.true) (sym c.is_finite-then-is_finite.ensures ∙ c.if-is_finite-2.true)
          c.plus_zero-b.ensures.0 c.plus_zero-c.ensures.0 s.args.flip c.if-flip.false r.ensures.runs;
    }
