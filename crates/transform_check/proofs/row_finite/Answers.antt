-- `transform_check::row_finite` meets its contract. Assumes nothing.
use mathlib.Core.Bool.{◌&&◌}
use borrow.Author.Rules.{rules}
use Rattle.transform.specs.Checks.{row_finite}
use Rattle.transform_check.proofs.row_finite.Goals as goal

pub returns : goal.returns
unfolding row_finite
returns c i = c.is_finite.ensures i && c.is_finite-2.ensures i && c.is_finite-3.ensures i && c.is_finite-4.ensures i
