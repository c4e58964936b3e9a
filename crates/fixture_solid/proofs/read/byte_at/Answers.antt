-- `fixture_solid::read::byte_at` meets its contract. Assumes nothing.
use native.Mathlib.Omega.{arith}
use mathlib.Core.Path.{sym}
use lib.ListN.{get_or-eq_default}
use Rattle.fixture_solid.proofs.read.byte_at.Goals as goal

pub returns-else-i-p : goal.returns-else-i-p
returns-else-i-p c = sym (get_or-eq_default c.args.p.now 0 (omega arith))
