-- The payload of the field at a place of a file, as a part of the file's bytes. Assumes nothing.
use mathlib.Core.Path.{◌≡◌, sym, ap, ◌∙◌}
use mathlib.Core.List.{List}
use Prim.Native.Nat.{ℕ, ◌+◌, ◌-◌, ◌≤◌}
use native.Mathlib.Omega.{arith}
use lib.ListN.{length, take, drop, length-drop}
use lib.Seq.{take_all, drop-drop}
use Rattle.fixture_spec.specs.Fields.{size_of, payload_of}
use Rattle.fixture_payload.proofs.Lengths.{payload_length}

-- the bytes from a place on, as code lends them
abbrev pub part : List ℕ → ℕ → List ℕ
part file b = take (length file - b) (drop b file)

pub part_is : (file : List ℕ) (b : ℕ) → part file b ≡ drop b file
part_is file b = take_all (length file - b) (drop b file) (simp length-drop (omega arith))

-- its payload, as code lends it
pub payload_is : (file : List ℕ) (at n : ℕ) → n ≡ size_of (drop (at + 1) file)
    → take (at + 3 + n - (at + 3)) (drop (at + 3) file) ≡ payload_of (drop (at + 1) file)
unfolding payload_of
payload_is file at n e =
    let long : at + 3 + n - (at + 3) ≡ n = omega arith in
    let start : at + 1 + 2 ≡ at + 3 = omega arith in
    ap (λ (k : ℕ). take k (drop (at + 3) file)) (long ∙ e)
    ∙ ap (take (size_of (drop (at + 1) file))) (ap (λ (k : ℕ). drop k file) (sym start) ∙ sym (drop-drop 2 (at + 1) file))

-- its length, where the file has all of it
pub whole_length : (file : List ℕ) (at : ℕ) → at + 3 + size_of (drop (at + 1) file) ≤ length file
    → length (payload_of (drop (at + 1) file)) ≡ size_of (drop (at + 1) file)
whole_length file at h = omega (arith, payload_length (drop (at + 1) file), length-drop (at + 1) file)
