-- `fixture_layout::fixed_bytes` meets its contract. Assumes nothing.
use borrow.Author.Rules.{rules}
use native.Mathlib.Omega.{arith}
use Rattle.fixture_spec.specs.Fields.{fixed_bytes}
use Rattle.fixture_layout.proofs.fixed_bytes.Goals as goal

pub returns : goal.returns
unfolding fixed_bytes
returns c = omega arith
