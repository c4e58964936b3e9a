-- `weld_order::is_beside` meets its contract: a case for each way through. Assumes nothing.
use Rattle.weld_order.proofs.Among.{rising_near, rising_far, falling_right, falling_left}
use Rattle.weld_order.proofs.is_beside.Goals as goal

pub returns-then-row-p : goal.returns-then-row-p
returns-then-row-p c = let a = c.args in rising_near a.row a.last a.p c.if-rising.true c.if-row-p.true

pub returns-then-rising : goal.returns-then-rising
returns-then-rising c = let a = c.args in rising_far a.row a.last a.p c.if-rising.true c.if-row-p.false

pub returns-then-last-p : goal.returns-then-last-p
returns-then-last-p c = let a = c.args in falling_right a.row a.last a.p c.if-rising.false c.if-last-p.true

pub returns : goal.returns
returns c = let a = c.args in falling_left a.row a.last a.p c.if-rising.false c.if-last-p.false
