-- `fixture_field::check::check_fields` meets its contract. Assumes nothing.
use borrow.Author.Rules.{rules}
use borrow.Author.Tests.{not-true, not-false}
use mathlib.Core.Path.{refl, sym, ap, ◌∙◌}
use Rattle.std.specs.Prelude.{None}
use Prim.Native.Nat.{◌-◌}
use lib.ListN.{length}
use native.Mathlib.Omega.{arith}
use Rattle.refusal.specs.Answer.{answer_of}
use Rattle.refusal.specs.Laws.{passed_on}
use Rattle.fixture_field.proofs.Cut.{fits}
use Rattle.fixture_field.proofs.Walk.{Walking, start, too_long, never_accepted, step, refused, end}
use Rattle.fixture_field.proofs.check.check_fields.Goals as goal

pub returns-then-file-gt65535 : goal.returns-then-file-gt65535
returns-then-file-gt65535 c = too_long c.args.file.now (omega arith)

pub loop-at-init : goal.loop-at-init
loop-at-init c = start c.args.file.now (omega arith)

pub returns-in_err-field_refusal : goal.returns-in_err-field_refusal
returns-in_err-field_refusal c =
    let l = c in
    let passed = ap answer_of (passed_on c.from_residual.result c.in_err-field_refusal.field-0.0 c.from_residual.ensures.1) in
    passed ∙ refused l.args.file.now l.loop-at.at l.loop-at.solid l.loop-at.invariant (omega arith) _ c.in_err-field_refusal.ensures (never_accepted c.in_err-field_refusal.field-0.0)

pub size_of-requires : goal.size_of-requires
size_of-requires c =
    omega (arith, fits _ _ (sym c.in_ok-field_refusal.ensures))

pub loop-at-preserved : goal.loop-at-preserved
loop-at-preserved c =
    let l = c in
    step l.args.file.now l.loop-at.at l.loop-at.solid l.loop-at.invariant (omega arith) None c.in_ok-field_refusal.ensures
    c.size_of.result c.is_solid-solid.result c.size_of.ensures.0 c.is_solid-solid.ensures refl

pub returns-then-solid : goal.returns-then-solid
returns-then-solid c =
    let l = c in
    sym (end l.args.file.now l.loop-at.at l.loop-at.solid l.loop-at.invariant (omega arith) ∙ rw c.if-solid.true)

pub returns-else-solid : goal.returns-else-solid
returns-else-solid c =
    let l = c in
    sym (end l.args.file.now l.loop-at.at l.loop-at.solid l.loop-at.invariant (omega arith) ∙ rw c.if-solid.false)
