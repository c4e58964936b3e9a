-- `shape_angles::list_within` meets its contract. Assumes nothing.
use borrow.Author.Rules.{rules}
use Rattle.shape_angles.proofs.Cases.{cylindrical_list, cartesian_list, no_angle_list}
use Rattle.shape_angles.proofs.list_within.Goals as goal

pub returns-then-cyl : goal.returns-then-cyl
returns-then-cyl c = let args = c.args in cylindrical_list args.cyl args.items args.list.now c.in-Points.in-Points-own.keys1 c.if-cyl.true c.points_within.ensures

pub returns-else-cyl : goal.returns-else-cyl
returns-else-cyl c = let args = c.args in cartesian_list args.cyl args.items args.list.now c.if-cyl.false

pub returns-in_default : goal.returns-in_default
returns-in_default c = let args = c.args in no_angle_list args.cyl args.items args.list.now c.in_default.in_default-own.keys2
