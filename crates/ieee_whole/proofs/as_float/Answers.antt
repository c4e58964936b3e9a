-- `ieee_whole::as_float` meets its contract. Assumes nothing.
use Rattle.std.proofs.Common.{T, ℤ, sym, ap, subst}
use lib.Ieee.{binary64, of_int, in_float}
use Rattle.ieee_whole.proofs.Signed.{read, in_float_lem}
use Rattle.ieee_whole.proofs.as_float.Goals as goal

pub int_to_float-result : goal.int_to_float-result
int_to_float-result c =
    let n = c.args.n in
    subst (λ (z : ℤ). T (in_float binary64 z)) (sym (read n c.requires)) (in_float_lem n c.requires)

pub returns : goal.returns
returns c = ap (λ (z : ℤ). of_int binary64 z) (read c.args.n c.requires)
