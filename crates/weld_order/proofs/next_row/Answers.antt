-- `weld_order::next_row` meets its contract: a case for each way through. Assumes nothing.
use mathlib.Core.Bool.{true, false}
use Rattle.weld_order.proofs.Following.{row_lower, row_level, lower, leftmost, across}
use Rattle.weld_order.proofs.next_row.Goals as goal

pub returns-then-row-p : goal.returns-then-row-p
returns-then-row-p c =
    let s = c in
    let e = c.if-last-p.true in
    let a = s.args in
    (row_level a.row a.last a.p true e c.if-row-p.true, leftmost a.row a.last a.p s.requires.0 s.requires.1 s.requires.2 e c.if-row-p.true)

pub returns-then-last-p : goal.returns-then-last-p
returns-then-last-p c =
    let s = c in
    let e = c.if-last-p.true in
    let a = s.args in
    (row_level a.row a.last a.p false e c.if-row-p.false, across a.row a.last a.p s.requires.0 s.requires.1 s.requires.2 e)

pub returns : goal.returns
returns c =
    let s = c in
    let a = s.args in
    (row_lower a.row a.last a.p c.if-last-p.false, lower a.row a.last a.p s.requires.0 s.requires.1 s.requires.2 c.if-last-p.false)
