-- `figures_text::floats::put_by_bits` meets its contract. Assumes nothing.
use mathlib.Core.Path.{sym, ◌∙◌}
use native.Mathlib.Omega.{arith}
use Rattle.slice_text.specs.LineLaws.{then}
use Rattle.figures_text.proofs.Cases.{power_text, inf_text, nan_text, bits_text, small_power}
use borrow.Author.Rules.{rules}
use Rattle.figures_text.proofs.floats.put_by_bits.Goals as goal

pub overflow_sub-b : goal.overflow_sub-b
overflow_sub-b c =
    let p1 = c in
    let p2 = p1 in
    omega (arith, small_power _ (sym p2.is_small_power.ensures ∙ p1.if-is_small_power.true))

pub returns-then-is_small_power : goal.returns-then-is_small_power
returns-then-is_small_power c =
    let p1 = c in
    let p2 = p1 in
    let p3 = p2 in
    let p4 = p3 in
    power_text _ (sym p4.is_small_power.ensures ∙ p3.if-is_small_power.true) (then p2.put-to.ensures p1.put_decimal.ensures)

pub returns-then-b-eq9218868437227405312 : goal.returns-then-b-eq9218868437227405312
returns-then-b-eq9218868437227405312 c =
    let p1 = c in
    let p2 = p1 in
    let p3 = p2 in
    let p4 = p3 in
    inf_text _ (sym p4.is_small_power.ensures ∙ p3.if-is_small_power.false) p2.if-b-eq9218868437227405312.true p1.put.ensures

pub returns-then-b-gt9218868437227405312 : goal.returns-then-b-gt9218868437227405312
returns-then-b-gt9218868437227405312 c =
    let p1 = c in
    let p2 = p1 in
    let p3 = p2 in
    let p4 = p3 in
    let p5 = p4 in
    nan_text _ (sym p5.is_small_power.ensures ∙ p4.if-is_small_power.false) p3.if-b-eq9218868437227405312.false p2.if-b-gt9218868437227405312.true p1.put-then-b-gt9218868437227405312.ensures

pub returns : goal.returns
returns c =
    let p1 = c in
    let p2 = p1 in
    let p3 = p2 in
    let p4 = p3 in
    let p5 = p4 in
    bits_text _ (sym p5.is_small_power.ensures ∙ p4.if-is_small_power.false) p3.if-b-eq9218868437227405312.false p2.if-b-gt9218868437227405312.false p1.put_hex.ensures
