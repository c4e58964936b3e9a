-- `transform_bytes::op_floats` meets its contract. Assumes nothing.
use mathlib.Core.Path.{refl}
use Rattle.slice_law.specs.Arms.{of_kind}
use Rattle.transform_bytes.specs.Layout.{op_floats}
use Rattle.transform_bytes.proofs.Operations.{other_floats}
use Rattle.transform_bytes.proofs.op_floats.Goals as goal

pub returns-in-1 : goal.returns-in-1
unfolding op_floats
returns-in-1 c = of_kind op_floats 1 c.in-1.is refl

pub returns-in-2 : goal.returns-in-2
unfolding op_floats
returns-in-2 c = of_kind op_floats 2 c.in-2.is refl

pub returns-in-3 : goal.returns-in-3
unfolding op_floats
returns-in-3 c = of_kind op_floats 3 c.in-3.is refl

pub returns-in-4 : goal.returns-in-4
unfolding op_floats
returns-in-4 c = of_kind op_floats 4 c.in-4.is refl

pub returns-in-5 : goal.returns-in-5
unfolding op_floats
returns-in-5 c = of_kind op_floats 5 c.in-5.is refl

pub returns-in-6 : goal.returns-in-6
unfolding op_floats
returns-in-6 c = of_kind op_floats 6 c.in-6.is refl

pub returns-in-7 : goal.returns-in-7
unfolding op_floats
returns-in-7 c = of_kind op_floats 7 c.in-7.is refl

pub returns-in_default : goal.returns-in_default
returns-in_default c = other_floats c.in_default.in_default-own.rest
