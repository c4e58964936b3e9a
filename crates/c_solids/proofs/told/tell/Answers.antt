-- `c_solids::told::tell` meets its contract. Assumes nothing.
use mathlib.Core.Path.{◌∙◌}
use Rattle.c_solids.proofs.Telling.{told, kept_or}
use borrow.Author.Rules.{rules}
use Rattle.c_solids.proofs.told.tell.Goals as goal

pub returns : goal.returns
returns c = record { number = c.number.ensures; mesh = told _ _ c.put_box.ensures ∙ c.unwrap_or-after.ensures ∙ kept_or c.args.made c.args.m }
