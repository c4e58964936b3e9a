-- `weld_from_soup::is_broken` meets its contract. Assumes nothing.
use mathlib.Core.Path.{refl}
use borrow.Author.Rules.{rules}
use Rattle.weld_from_soup.specs.Soups.{broken_soup}
use Rattle.weld_from_soup.proofs.is_broken.Goals as goal

pub returns : goal.returns
unfolding broken_soup
returns c = refl
