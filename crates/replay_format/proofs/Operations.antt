-- The operations of cases are those of transform_bytes. Assumes nothing.
use mathlib.Core.Path.{◌≡◌, refl}
use mathlib.Core.List.{List}
use native.Mathlib.Omega.{arith}
use Prim.Native.Nat.{ℕ, ◌+◌, ◌*◌, ◌≤◌}
use Rattle.replay_format.specs.Layout.{op_of_kind}
use Rattle.transform_bytes.specs.Layout as Bytes
use Rattle.transform_bytes.specs.Most.{most_floats}

pub same_operation : (k : ℕ) (b : List ℕ) (n : ℕ) → Bytes.op_of_kind k b n ≡ op_of_kind k b n
unfolding op_of_kind Bytes.op_of_kind
same_operation k b n = refl

-- 128 bytes have the floats of any kind
pub room : (k n l : ℕ) → n + 128 ≤ l → n + 8 * Bytes.op_floats k ≤ l
room k n l h = omega (arith, h, most_floats k)
