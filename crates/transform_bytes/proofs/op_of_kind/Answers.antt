-- `transform_bytes::op_of_kind` meets its contract. Assumes nothing.
use borrow.Author.Rules.{rules}
use native.Mathlib.Omega.{arith}
use mathlib.Core.Path.{refl}
use Rattle.transform.specs.declared.TransformOp.TheVariants.{Translate, RotateOrigin, RotateX, RotateY, RotateZ, Scale, Scale3}
use Rattle.transform_bytes.specs.Layout.{op_floats, op_of_kind}
use Rattle.transform_bytes.proofs.Operations.{kind_floats, other_floats, of_op_kind, other_kind}
use Rattle.transform_bytes.proofs.op_of_kind.Goals as goal

pub vec_at-requires : goal.vec_at-requires
unfolding op_floats
vec_at-requires c = omega (arith, kind_floats 1 3 c.in-1.is refl)

pub vec_at-requires-in-2 : goal.vec_at-requires-in-2
unfolding op_floats
vec_at-requires-in-2 c = omega (arith, kind_floats 2 4 c.in-2.is refl)

pub float_at-requires : goal.float_at-requires
unfolding op_floats
float_at-requires c = omega (arith, kind_floats 2 4 c.in-2.is refl)

pub float_at-requires-in-3 : goal.float_at-requires-in-3
unfolding op_floats
float_at-requires-in-3 c = omega (arith, kind_floats 3 1 c.in-3.is refl)

pub float_at-requires-in-4 : goal.float_at-requires-in-4
unfolding op_floats
float_at-requires-in-4 c = omega (arith, kind_floats 4 1 c.in-4.is refl)

pub float_at-requires-in-5 : goal.float_at-requires-in-5
unfolding op_floats
float_at-requires-in-5 c = omega (arith, kind_floats 5 1 c.in-5.is refl)

pub float_at-requires-in-6 : goal.float_at-requires-in-6
unfolding op_floats
float_at-requires-in-6 c = omega (arith, kind_floats 6 1 c.in-6.is refl)

pub vec_at-requires-in-7 : goal.vec_at-requires-in-7
unfolding op_floats
vec_at-requires-in-7 c = omega (arith, kind_floats 7 3 c.in-7.is refl)

pub matrix_at-requires : goal.matrix_at-requires
matrix_at-requires c = omega (arith, other_floats c.in_default.in_default-own.rest)

pub returns-in-1 : goal.returns-in-1
unfolding op_of_kind
returns-in-1 c =
    let s = c.args in
    of_op_kind s.b.now s.n 1 c.in-1.is (λ i. Translate (c.vec_at.ensures i))

pub returns-in-2 : goal.returns-in-2
unfolding op_of_kind
returns-in-2 c =
    let s = c.args in
    of_op_kind s.b.now s.n 2 c.in-2.is (λ i. RotateOrigin (c.vec_at-in-2.ensures i) (c.float_at.ensures i))

pub returns-in-3 : goal.returns-in-3
unfolding op_of_kind
returns-in-3 c =
    let s = c.args in
    of_op_kind s.b.now s.n 3 c.in-3.is (λ i. RotateX (c.float_at-in-3.ensures i))

pub returns-in-4 : goal.returns-in-4
unfolding op_of_kind
returns-in-4 c =
    let s = c.args in
    of_op_kind s.b.now s.n 4 c.in-4.is (λ i. RotateY (c.float_at-in-4.ensures i))

pub returns-in-5 : goal.returns-in-5
unfolding op_of_kind
returns-in-5 c =
    let s = c.args in
    of_op_kind s.b.now s.n 5 c.in-5.is (λ i. RotateZ (c.float_at-in-5.ensures i))

pub returns-in-6 : goal.returns-in-6
unfolding op_of_kind
returns-in-6 c =
    let s = c.args in
    of_op_kind s.b.now s.n 6 c.in-6.is (λ i. Scale (c.float_at-in-6.ensures i))

pub returns-in-7 : goal.returns-in-7
unfolding op_of_kind
returns-in-7 c =
    let s = c.args in
    of_op_kind s.b.now s.n 7 c.in-7.is (λ i. Scale3 (c.vec_at-in-7.ensures i))

pub returns-in_default : goal.returns-in_default
returns-in_default c =
    let s = c.args in
    other_kind s.b.now s.n c.in_default.in_default-own.rest c.matrix_at.ensures
