-- `shape_fields::with_points` meets its contract. Assumes nothing.
use borrow.Author.Rules.{rules}
use Prim.Native.Nat.{ℕ}
use Rattle.shape.specs.declared.Shape.TheVariants.{Box, Sphere, SphericalShell, Cylinder, CylindricalShell}
use Rattle.slice_law.specs.Arms.{of_kind}
use Rattle.shape_fields.specs.Fields.{number, pointed}
use Rattle.shape_fields.proofs.Others.{other_pointed}
use Rattle.shape_fields.proofs.with_points.Goals as goal

pub first_point-p-requires : goal.first_point-p-requires
first_point-p-requires c = tt

pub second_point-q-requires : goal.second_point-q-requires
second_point-q-requires c = tt

pub returns-in-0 : goal.returns-in-0
unfolding pointed
returns-in-0 c =
    let n = c.args.n.now in
    of_kind (λ (k : ℕ). pointed k n) 0 c.in-0.is
    (λ i. Box (c.first_point-p.ensures i) (c.second_point-q.ensures i))

pub returns-in-2 : goal.returns-in-2
unfolding pointed
returns-in-2 c =
    let n = c.args.n.now in
    of_kind (λ (k : ℕ). pointed k n) 2 c.in-2.is
    (λ i. Sphere (c.first_point-p.ensures i) (number n 3))

pub returns-in-3 : goal.returns-in-3
unfolding pointed
returns-in-3 c =
    let n = c.args.n.now in
    of_kind (λ (k : ℕ). pointed k n) 3 c.in-3.is
    (λ i. SphericalShell (c.first_point-p.ensures i) (number n 3) (number n 4))

pub returns-in-4 : goal.returns-in-4
unfolding pointed
returns-in-4 c =
    let n = c.args.n.now in
    of_kind (λ (k : ℕ). pointed k n) 4 c.in-4.is
    (λ i. Cylinder (c.first_point-p.ensures i) (c.second_point-q.ensures i) (number n 6))

pub returns-in_default : goal.returns-in_default
returns-in_default c =
    let n = c.args.n.now in
    other_pointed n c.in_default.in_default-own.rest (λ i. CylindricalShell (c.first_point-p.ensures i) (c.second_point-q.ensures i) (number n 6) (number n 7))
