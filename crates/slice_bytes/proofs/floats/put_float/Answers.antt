-- `slice_bytes::floats::put_float` meets its contract. Assumes nothing.
use mathlib.Core.Path.{ap, ◌∙◌}
use Rattle.slice_bytes.specs.Bytes.{with_long}
use borrow.Author.Rules.{rules}
use Rattle.slice_bytes.proofs.floats.put_float.Goals as goal

pub returns : goal.returns
returns c =
    let d = c in
    let a = d.args in
    d.put_long.ensures ∙ ap (with_long a.b.now a.at) d.bits_of.ensures
