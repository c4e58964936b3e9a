-- `slice_bytes::bytes::put_long` meets its contract. Assumes nothing.
use mathlib.Core.Path.{ap, ◌∙◌}
use mathlib.Core.List.{List}
use Prim.Native.Nat.{ℕ, ◌+◌, ◌/◌}
use Rattle.slice_bytes.specs.Bytes.{with_word, with_long}
use borrow.Author.Rules.{rules}
use Rattle.slice_bytes.proofs.bytes.put_long.Goals as goal

pub returns : goal.returns
unfolding with_long
returns c =
    let d = c in
    let p = d in
    let a = p.args in
    d.put_low-2.ensures ∙ ap (λ (l : List ℕ). with_word l (a.at + 4) (a.w / 4294967296)) p.put_low.ensures
