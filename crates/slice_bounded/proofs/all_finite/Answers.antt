-- `slice_bounded::all_finite` meets its contract: by the bounds, or by the loop. Assumes nothing.
use mathlib.Core.Path.{sym}
use lib.ListN.{take}
use Rattle.slice_bounded.specs.Laws.{every_finite}
use borrow.Author.Rules.{rules}
use Rattle.slice_bounded.proofs.all_finite.Goals as goal

pub returns-then-small : goal.returns-then-small
returns-then-small c =
    let a = c.args in
    sym (every_finite (take a.count a.floats.now) (c.requires.bounded c.if-small.true))

pub all_finite-requires : goal.all_finite-requires
all_finite-requires c = c.requires.there
