-- `replay_head::case::case_of` meets its contract. Assumes nothing.
use mathlib.Core.Path.{◌∙◌, ap}
use Rattle.replay_format.specs.declared.head.Head.{Head}
use Rattle.replay_head.specs.Shapes.{shape_in}
use borrow.Author.Rules.{rules}
use Rattle.replay_head.proofs.case.case_of.Goals as goal

pub returns : goal.returns
returns c =
    let b = c.args.b.now in
    let e = c.head_of-h.ensures in
    let s = c.shape_of.ensures ∙ ap (λ (h : Head). shape_in h b) e in
    (λ i. record { head = e i; shape = s i })
