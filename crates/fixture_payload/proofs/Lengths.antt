-- The length of a payload, and its first byte. Assumes nothing.
use mathlib.Core.Path.{◌≡◌, ◌∙◌}
use mathlib.Core.List.{List}
use Prim.Native.Nat.{ℕ, ◌-◌, ◌<◌, min}
use native.Mathlib.Omega.{arith}
use lib.ListN.{length, get_or, drop, length-take, length-drop}
use lib.Seq.{get_or-take, get_or-drop}
use Rattle.fixture_spec.specs.Fields.{size_of, payload_of}

pub payload_length : (after : List ℕ) → length (payload_of after) ≡ min (size_of after) (length after - 2)
unfolding payload_of
payload_length after = simp (length-take, length-drop)

pub payload_first : (after : List ℕ) → 0 < length (payload_of after) → get_or (payload_of after) 0 0 ≡ get_or after 2 0
unfolding payload_of
payload_first after h = get_or-take (size_of after) (drop 2 after) 0 0 (omega (arith, payload_length after)) ∙ get_or-drop 2 after 0 0
