-- `weld::foresight::from_last` meets its contract: a point that is not among those of the rows is new. Assumes nothing.
use mathlib.Core.Path.{sym, ◌∙◌, subst}
use mathlib.Core.Bool.{true}
use native.Mathlib.Omega.{arith}
use Rattle.std.specs.Prelude.{Some}
use Rattle.weld_order.specs.declared.Row.{Row}
use Rattle.weld_vertex.specs.Points.{Clean}
use Rattle.weld_order.specs.Rows.{Follows}
use Rattle.weld.specs.Rep.{row_of}
use Rattle.weld.specs.States.{Foresees}
use Rattle.weld.proofs.InRows.{answer_ordered, next_seen}
use Rattle.weld.proofs.foresight.from_last.Goals as goal

pub returns-then-is_among : goal.returns-then-is_among
returns-then-is_among c =
    let s = c in
    let w = s.args.w.now in
    let v = c.vertex-last in
    record {
      answer = answer_ordered w s.args.vertices.now s.args.p true s.requires.3 s.requires.4 v.result v.ensures (sym c.is_among.ensures ∙ c.if-is_among.true);
      shows = s.requires.3;
    }

pub next_row-requires : goal.next_row-requires
next_row-requires c =
    let s = c in
    (subst Clean (sym c.vertex-last.ensures) (s.requires.0.clean _ (omega (arith, s.requires.3))), s.requires.2, sym c.is_among.ensures ∙ c.if-is_among.false)

pub returns : goal.returns
returns c =
    let s = c in
    let w = s.args.w.now in
    let v = c.vertex-last in
    let r = c.next_row in
    subst (λ (x : Row). Foresees w s.args.vertices.now s.args.p (Some x)) (sym r.ensures.0)
    (next_seen w s.args.vertices.now s.args.p s.requires.0 s.requires.1 s.requires.2 s.requires.4 v.result v.ensures
    (sym c.is_among.ensures ∙ c.if-is_among.false) s.requires.3
    (subst (Follows (row_of w) v.result s.args.p) r.ensures.0 r.ensures.1))
