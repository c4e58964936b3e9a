-- `c_numbers::sizturga_sin` meets its contract, by that of `trig::sin_cos`. Assumes nothing.
use mathlib.Core.Path.{ap}
use borrow.Author.Rules.{rules}
use Rattle.trig_spec.specs.declared.SinCos.{SinCos}
use Rattle.c_numbers.proofs.sizturga_sin.Goals as goal

pub returns : goal.returns
returns c = ap (λ (p : SinCos). p.sin) c.sin_cos-p.ensures.value
