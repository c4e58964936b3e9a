-- `ieee_whole::minus_as_float` meets its contract. Assumes nothing.
use Rattle.std.proofs.Common.{T, ℤ, sym, ap, subst}
use lib.Ieee.{binary64, of_int, in_float}
use Rattle.ieee_whole.proofs.Signed.{sub_fits, minus_back, minus_in_float}
use Rattle.ieee_whole.proofs.minus_as_float.Goals as goal

pub overflow_sub-result : goal.overflow_sub-result
overflow_sub-result c = sub_fits c.args.n c.requires

pub int_to_float-result : goal.int_to_float-result
int_to_float-result c =
    let n = c.args.n in
    subst (λ (z : ℤ). T (in_float binary64 z)) (sym (minus_back n c.requires)) (minus_in_float n c.requires)

pub returns : goal.returns
returns c = ap (λ (z : ℤ). of_int binary64 z) (minus_back c.args.n c.requires)
