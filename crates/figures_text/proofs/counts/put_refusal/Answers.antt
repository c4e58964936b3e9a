-- `figures_text::counts::put_refusal` meets its contract. Assumes nothing.
use Rattle.slice_text.specs.LineLaws.{then}
use Rattle.figures_text.proofs.counts.put_refusal.Goals as goal

pub returns : goal.returns
returns c = then c.put-to.ensures c.put_decimal.ensures
