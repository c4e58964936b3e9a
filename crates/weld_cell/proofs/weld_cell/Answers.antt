-- `weld_cell::weld_cell` meets its contract. Assumes nothing.
use borrow.Author.Rules.{rules}
use Rattle.weld_cell.proofs.Turned.{cell_flipped, cell_straight}
use Rattle.weld_cell.proofs.weld_cell.Goals as goal

pub returns-then-flip : goal.returns-then-flip
returns-then-flip c =
    let r = c.weld_quad-r in
    record { same = r.ensures.same; numbered = cell_flipped c.args.p _ _ r.result c.args.flip c.if-flip.true r.ensures.numbered }

pub returns : goal.returns
returns c =
    let r = c.weld_quad in
    record { same = r.ensures.same; numbered = cell_straight c.args.p _ _ r.result c.args.flip c.if-flip.false r.ensures.numbered }
