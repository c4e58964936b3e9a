-- `figures_text::counts::put_counts` meets its contract. Assumes nothing.
use Rattle.slice_text.specs.LineLaws.{then}
use Rattle.figures_text.proofs.Cases.{refused_counts, counts_text}
use Rattle.figures_text.proofs.counts.put_counts.Goals as goal

pub returns-then-refused-gt0 : goal.returns-then-refused-gt0
returns-then-refused-gt0 c = refused_counts _ _ c.if-refused-gt0.true c.put_refusal.ensures

pub returns : goal.returns
returns c =
    counts_text _ _ c.if-refused-gt0.false
    (then c.put_count-after_count.ensures (then c.put-after_word.ensures (then c.put_count-to.ensures c.put.ensures)))
