-- `fixture_payload::payload_at` meets its contract. Assumes nothing.
use borrow.Author.Rules.{rules}
use mathlib.Core.Path.{◌≡◌, ap, ◌∙◌}
use Prim.Native.Nat.{◌+◌}
use native.Mathlib.Omega.{arith}
use lib.ListN.{length, drop}
use Rattle.fixture_spec.specs.Fields.{size_of}
use Rattle.fixture_payload.proofs.Part.{part_is, payload_is, whole_length}
use Rattle.fixture_payload.proofs.payload_at.Goals as goal

pub slice_bounds-result-end : goal.slice_bounds-result-end
slice_bounds-result-end c =
    let s = c.args in
    omega (arith, ap size_of (part_is s.file.now (s.at + 1)))

pub returns : goal.returns
returns c =
    let d = c in
    let file = d.args.file.now in
    let at = d.args.at in
    let e : c.size_of.result ≡ size_of (drop (at + 1) file) = c.size_of.ensures.0 ∙ ap size_of (part_is file (at + 1)) in
    (payload_is file at c.size_of.result e, ap length (payload_is file at c.size_of.result e) ∙ whole_length file at d.requires)
