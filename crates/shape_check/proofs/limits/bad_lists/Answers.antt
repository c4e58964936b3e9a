-- `shape_check::limits::bad_lists` meets its contract. Assumes nothing.
use borrow.Author.Rules.{rules}
use mathlib.Core.Path.{ap, ◌∙◌}
use mathlib.Core.Bool.{Bool, ◌||◌}
use Rattle.transform.specs.Checks.{too_many_ops}
use Rattle.shape.specs.declared.Items.{Items}
use Rattle.shape.specs.Drawing.{bad_list}
use Rattle.shape_check.proofs.limits.bad_lists.Goals as goal

pub too_many_ops-requires : goal.too_many_ops-requires
too_many_ops-requires c = tt

pub returns : goal.returns
returns c =
    let args = c.args in
    ap (λ (t : Bool). c.bad_list.result || t) c.too_many_ops.ensures
    ∙ ap (λ (t : Bool). t || too_many_ops args.op_count)
    (c.bad_list.ensures ∙ ap (λ (k : Items). bad_list k args.n) c.items_of.ensures)
