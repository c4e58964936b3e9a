-- `fixture_output::clear` meets its contract. Assumes nothing.
use mathlib.Core.Path.{◌∙◌}
use Rattle.slice.specs.ClearedLaws.{cleared_all}
use Rattle.fixture_output.proofs.clear.Goals as goal

pub returns : goal.returns
returns c = c.clear_from.ensures ∙ cleared_all 0 c.args.out.now
