-- `weld::foresight::foresee` meets its contract: a case for each way through. Assumes nothing.
use native.Mathlib.Omega.{arith}
use mathlib.Core.Path.{◌≡◌, sym, subst}
use mathlib.Core.Bool.{true}
use Prim.Native.Nat.{◌<◌}
use Rattle.std.specs.Prelude.{Some}
use Rattle.weld_order.specs.declared.Row.{Row}
use Rattle.weld_order.specs.Rows.{among}
use Rattle.weld.specs.States.{Foresees}
use Rattle.weld.proofs.InRows.{answer_loose, first_seen}
use Rattle.weld.proofs.foresight.foresee.Goals as goal

pub returns-then-w : goal.returns-then-w
returns-then-w c =
    let s = c in
    let w = s.args.w.now in
    let p = s.args.p in
    let r = c.first_row in
    subst (λ (x : Row). Foresees w s.args.vertices.now p (Some x)) (sym r.ensures.0)
    (first_seen w s.args.vertices.now p (omega arith) (subst (λ (x : Row). among x p p ≡ true) r.ensures.0 r.ensures.1))

pub returns : goal.returns
returns c =
    let s = c in
    let w = s.args.w.now in
    let l : w.base < w.count = omega (arith, s.requires.0.based, c.if-w.false) in
    record { answer = answer_loose w s.args.vertices.now s.args.p l c.if-w-2.false; shows = l }
