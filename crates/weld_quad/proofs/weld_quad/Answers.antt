-- `weld_quad::weld_quad` meets its contract: a case of proofs/Quads.antt for each return. Assumes nothing.
use borrow.Author.Rules.{rules}
use mathlib.Core.Path.{◌≡◌, refl, sym, ap, ◌∙◌}
use mathlib.Core.Bool.{Bool, true, false, ◌&&◌}
use Rattle.math.specs.Vec.{v_finite}
use Rattle.weld.specs.Rep.{held}
use Rattle.weld.specs.Welding.{held_by}
use Rattle.weld_quad.proofs.Quads.{known_small, numbered_stopped, quad_stops, quad_numbered}
use Rattle.weld_quad.proofs.weld_quad.Goals as goal

all_first : (a b c d : Bool) → (a && b && c && d) ≡ true → a ≡ true
all_first true b c d e = refl
all_first false b c d e = e

all_second : (a b c d : Bool) → (a && b && c && d) ≡ true → b ≡ true
all_second a true c d e = refl
all_second true false c d e = e
all_second false false c d e = e

all_third : (a b c d : Bool) → (a && b && c && d) ≡ true → c ≡ true
all_third a b true d e = refl
all_third true true false d e = e
all_third true false false d e = e
all_third false b false d e = e

all_last : (a b c d : Bool) → (a && b && c && d) ≡ true → d ≡ true
all_last a b c true e = refl
all_last true true true false e = e
all_last true true false false e = e
all_last true false c false e = e
all_last false b c false e = e

pub weld_last-c-requires-clause-finite_value : goal.weld_last-c-requires-clause-finite_value
weld_last-c-requires-clause-finite_value c =
    let s = c in
    let w = s.args.w.now in
    let p = s.args.p in
    let n = s.args.n in
    let f = c.if-not-w.false in
    let r = c.if-w.true in
    let k = c.are_at.ensures.1 c.if-are_at.true in
    let small = known_small w.st w.vertices.now w.work.now in
    (f, r, small p.a n.a s.requires.linked f r k.0, small p.b n.b s.requires.linked f r k.1, small p.d n.d s.requires.linked f r k.2)

pub returns-then-are_at : goal.returns-then-are_at
returns-then-are_at c =
    let p = c.args.p in
    let k = c.are_at.ensures.1 c.if-are_at.true in
    record { same = c.weld_last-c.ensures.same; numbered = c.weld_last-c.ensures.last p.a p.b p.d k.0 k.1 k.2 }

pub returns-then-not-are_finite : goal.returns-then-not-are_finite
returns-then-not-are_finite c =
    let s = c in
    let w = s.args.w.now in
    let p = s.args.p in
    record {
      same = record { vertices = refl; triangles = refl; work = refl };
      numbered = rw c.stop.ensures (numbered_stopped _ p (held_by w) (held _ w.vertices.now w.triangles.now w.work.now) s.args.n refl
          (quad_stops w.st w.vertices.now w.triangles.now w.work.now p.a p.b p.c p.d s.requires (sym c.are_finite.ensures ∙ c.if-not-are_finite.true)));
    }

pub returns : goal.returns
returns c =
    let p = c.args.p in
    let a = v_finite p.a in
    let b = v_finite p.b in
    let g = v_finite p.c in
    let d = v_finite p.d in
    let f = sym c.are_finite.ensures ∙ c.if-not-are_finite.false in
    record {
      same = c.weld_both.ensures.same;
      numbered = quad_numbered p _ _ _ _ (record { a = all_first a b g d f; b = all_second a b g d f; c = all_third a b g d f; d = all_last a b g d f })
          (record { a = c.plus_zero.ensures.0; b = c.plus_zero-2.ensures.0; c = c.plus_zero-3.ensures.0; d = c.plus_zero-4.ensures.0 })
          c.weld_both.ensures.corners;
    }
