-- `transform::fold` meets its contract. Assumes nothing.
use Rattle.std.proofs.Common.{rules, ◌≡◌, ◌+◌, subst, take}
use Rattle.transform.specs.Ops.{fold_from, folded}
use Rattle.transform.proofs.OpsLawsHeld.{folded_one_more}
use Rattle.transform.proofs.fold.Goals as goal

pub loop-op-init : goal.loop-op-init
unfolding folded fold_from
loop-op-init c = search rules

pub loop-op-preserved : goal.loop-op-preserved
loop-op-preserved c =
    let degrees = c.args.o.now.degrees in
    let l = c.loop-op in
    let ops = c.applied-op-items in
    subst (λ s. l.acc ≡ folded degrees (take l.op-index s) → c.product-acc.result ≡ folded degrees (take (l.op-index + 1) s)) ops.ensures
    (λ a. folded_one_more ops.result.now l.op-index _ (search rules) degrees a c.op_matrix.ensures c.product-acc.ensures)
    l.invariant
