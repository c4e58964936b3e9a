-- `fixture_draw::all::draw_all` meets its contract. Assumes nothing.
use mathlib.Core.Path.{sym, subst, ◌∙◌}
use native.Mathlib.Omega.{arith}
use lib.ListN.{length}
use Rattle.refusal.specs.Laws.{passed_on}
use Rattle.fixture_next.specs.Start.{ready_start}
use Rattle.fixture_draw.specs.declared.Walk.{Walk}
use Rattle.fixture_draw.specs.Drawing.{Drawing}
use Rattle.fixture_draw.proofs.Walks.{drawn_is, length_is, begun, ended}
use Rattle.fixture_draw.proofs.all.draw_all.Goals as goal

pub loop-w-init : goal.loop-w-init
loop-w-init c =
    let s = c in
    let a = s.args in
    subst (λ (r : Walk). Drawing a.file.now r (length a.out.now) a.out.now) (sym c.begun-w.ensures)
    (begun a.file.now a.out.now s.requires (ready_start a.file.now s.requires.sound))

pub draw_next-requires : goal.draw_next-requires
draw_next-requires c =
    let l = c.loop-w in
    record {
      drawing = length_is _ _ _ _ _ (sym l.invariant.laid.bytes) l.invariant;
      before = omega arith;
    }

pub returns-in_err-w : goal.returns-in_err-w
returns-in_err-w c =
    let r = c.in_err-w.ensures in
    drawn_is _ _ _ _ _ (passed_on c.from_residual.result c.in_err-w.field-0.0 c.from_residual.ensures.1)
    (record { refusal = r.refusal; bytes = r.bytes ∙ c.loop-w.invariant.laid.bytes })

pub loop-w-smaller : goal.loop-w-smaller
loop-w-smaller c =
    let e = c.in_ok-w.ensures in
    omega (arith, e.onward, e.drawing.within)

pub loop-w-preserved : goal.loop-w-preserved
loop-w-preserved c =
    length_is _ _ _ _ _ c.loop-w.invariant.laid.bytes c.in_ok-w.ensures.drawing

pub shape_of-out : goal.shape_of-out
shape_of-out c = c.loop-w.invariant.laid.bytes

pub returns : goal.returns
returns c = ended _ _ _ _ c.loop-w.invariant (omega arith)
