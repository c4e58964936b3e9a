-- `c_numbers::sizturga_cos` meets its contract, by that of `trig::sin_cos`. Assumes nothing.
use mathlib.Core.Path.{ap}
use borrow.Author.Rules.{rules}
use Rattle.trig_spec.specs.declared.SinCos.{SinCos}
use Rattle.c_numbers.proofs.sizturga_cos.Goals as goal

pub returns : goal.returns
returns c = ap (λ (p : SinCos). p.cos) c.sin_cos-q.ensures.value
