-- `ieee_whole::minus_mod_4` meets its contract. Assumes nothing.
use Rattle.std.proofs.Common.{sym}
use Rattle.ieee_whole.specs.WholeLaws.{mod4_neg}
use Rattle.ieee_whole.proofs.minus_mod_4.Goals as goal

pub returns : goal.returns
returns c = sym (mod4_neg c.args.n)
