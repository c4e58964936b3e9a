-- `fixture_solid::read::read_op` meets its contract. Assumes nothing.
use native.Mathlib.Omega.{arith}
use Rattle.fixture_spec.specs.Fields.{layout_of, fixed_bytes}
use Rattle.fixture_spec.specs.Solids.{op_of}
use Rattle.fixture_solid.proofs.read.read_op.Goals as goal

pub bounds-p-0 : goal.bounds-p-0
unfolding layout_of fixed_bytes
bounds-p-0 c = omega (arith, c.requires)

pub op_of_kind-requires : goal.op_of_kind-requires
unfolding layout_of fixed_bytes
op_of_kind-requires c = omega (arith, c.requires)

pub returns : goal.returns
unfolding op_of
returns c = c.op_of_kind.ensures
