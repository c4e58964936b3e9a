-- `fixture_layout::layout_of` meets its contract. Assumes nothing.
use borrow.Author.Rules.{rules}
use mathlib.Core.Path.{ap, ◌∙◌}
use Prim.Native.Nat.{ℕ}
use borrow.Author.Tests.{ne_eqb}
use Rattle.slice_law.specs.Arms.{of_kind}
use Rattle.fixture_spec.specs.Fields.{layout, layout_of}
use Rattle.fixture_layout.proofs.layout_of.Goals as goal

pub returns-in-1 : goal.returns-in-1
unfolding layout_of
returns-in-1 c = of_kind (λ (k : ℕ). layout_of k c.args.kind) 1 c.in-1.is c.layout.ensures

pub returns-in-5 : goal.returns-in-5
unfolding layout_of
returns-in-5 c =
    of_kind (λ (k : ℕ). layout_of k c.args.kind) 5 c.in-5.is
    (c.layout-in-5.ensures ∙ ap (λ (n : ℕ). layout 1 n 0) c.op_floats.ensures)

pub returns-in-16 : goal.returns-in-16
unfolding layout_of
returns-in-16 c = of_kind (λ (k : ℕ). layout_of k c.args.kind) 16 c.in-16.is c.layout-in-16.ensures

pub returns-in-17 : goal.returns-in-17
unfolding layout_of
returns-in-17 c = of_kind (λ (k : ℕ). layout_of k c.args.kind) 17 c.in-17.is c.layout-in-17.ensures

pub returns-in-18 : goal.returns-in-18
unfolding layout_of
returns-in-18 c = of_kind (λ (k : ℕ). layout_of k c.args.kind) 18 c.in-18.is c.layout-in-18.ensures

pub returns-in-19 : goal.returns-in-19
unfolding layout_of
returns-in-19 c = of_kind (λ (k : ℕ). layout_of k c.args.kind) 19 c.in-19.is c.layout-in-19.ensures

pub returns-in-20 : goal.returns-in-20
unfolding layout_of
returns-in-20 c = of_kind (λ (k : ℕ). layout_of k c.args.kind) 20 c.in-20.is c.layout-in-20.ensures

pub returns-in-21 : goal.returns-in-21
unfolding layout_of
returns-in-21 c = of_kind (λ (k : ℕ). layout_of k c.args.kind) 21 c.in-21.is c.layout-in-21.ensures

pub returns-in-22 : goal.returns-in-22
unfolding layout_of
returns-in-22 c = of_kind (λ (k : ℕ). layout_of k c.args.kind) 22 c.in-22.is c.layout-in-22.ensures

pub returns-in-23 : goal.returns-in-23
unfolding layout_of
returns-in-23 c = of_kind (λ (k : ℕ). layout_of k c.args.kind) 23 c.in-23.is c.layout-in-23.ensures

pub returns-in-24 : goal.returns-in-24
unfolding layout_of
returns-in-24 c = of_kind (λ (k : ℕ). layout_of k c.args.kind) 24 c.in-24.is c.layout-in-24.ensures

pub returns-in-25 : goal.returns-in-25
unfolding layout_of
returns-in-25 c = of_kind (λ (k : ℕ). layout_of k c.args.kind) 25 c.in-25.is c.layout-in-25.ensures

pub returns-in_default : goal.returns-in_default
unfolding layout_of
returns-in_default c =
    let n = c.in_default.in_default-own.rest in
    let k = c.args.tag in
    simp (
      ne_eqb k 1 n.0.0.0.0.0.0.0.0.0.0.0.1,
      ne_eqb k 5 n.0.0.0.0.0.0.0.0.0.0.1,
      ne_eqb k 16 n.0.0.0.0.0.0.0.0.0.1,
      ne_eqb k 17 n.0.0.0.0.0.0.0.0.1,
      ne_eqb k 18 n.0.0.0.0.0.0.0.1,
      ne_eqb k 19 n.0.0.0.0.0.0.1,
      ne_eqb k 20 n.0.0.0.0.0.1,
      ne_eqb k 21 n.0.0.0.0.1,
      ne_eqb k 22 n.0.0.0.1,
      ne_eqb k 23 n.0.0.1,
      ne_eqb k 24 n.0.1,
      ne_eqb k 25 n.1,
    ) c.layout-in_default.ensures
