-- `fixture_payload::payload_first` meets its contract. Assumes nothing.
use borrow.Author.Rules.{rules}
use Rattle.fixture_spec.specs.Fields.{payload_of}
use Prim.Native.Nat.{◌≤◌}
use lib.ListN.{length}
use native.Mathlib.Omega.{arith}
use Rattle.fixture_payload.proofs.Lengths.{payload_length, payload_first}
use mathlib.Core.Path.{sym}
use lib.ListN.{get_or-eq_default}
use Rattle.fixture_payload.proofs.payload_first.Goals as goal

pub bounds-after-2 : goal.bounds-after-2
bounds-after-2 c = omega (arith, payload_length c.args.after.now)

pub returns-then-payload_len-eq0 : goal.returns-then-payload_len-eq0
returns-then-payload_len-eq0 c = let p = payload_of c.args.after.now in let e : length p ≤ 0 = omega arith in sym (get_or-eq_default p 0 e)

pub returns-else-payload_len-eq0 : goal.returns-else-payload_len-eq0
returns-else-payload_len-eq0 c = sym (payload_first c.args.after.now (omega arith))
