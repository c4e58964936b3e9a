-- `surface_box::faces::line_of` meets its contract. Assumes nothing.
use borrow.Author.Rules.{rules}
use Rattle.surface_box.proofs.faces.line_of.Goals as goal

pub returns : goal.returns
returns c i =
    record { lo = c.axis.ensures i; hi = c.axis-2.ensures i; n = c.cuts.ensures i; periodic = c.wraps.ensures i }
