-- `transform_angles::op_angle_within` meets its contract. Assumes nothing.
use borrow.Author.Rules.{rules}
use mathlib.Core.Path.{sym, ap, ◌∙◌}
use Rattle.transform.specs.Angle.{within1000}
use Rattle.transform.specs.Checks.{op_angle_within}
use Rattle.transform_angles.proofs.op_angle_within.Goals as goal

pub returns-in-Translate : goal.returns-in-Translate
unfolding op_angle_within
returns-in-Translate c = sym (ap (op_angle_within c.args.degrees) c.in-Translate.is)

pub returns-in-RotateOrigin : goal.returns-in-RotateOrigin
unfolding op_angle_within
returns-in-RotateOrigin c =
    c.within_1000.ensures
    ∙ ap within1000 c.angle_radians.ensures
    ∙ sym (ap (op_angle_within c.args.degrees) c.in-RotateOrigin.is)

pub returns-in-RotateX : goal.returns-in-RotateX
unfolding op_angle_within
returns-in-RotateX c =
    c.within_1000-in-RotateX.ensures
    ∙ ap within1000 c.angle_radians-in-RotateX.ensures
    ∙ sym (ap (op_angle_within c.args.degrees) c.in-RotateX.is)

pub returns-in-RotateY : goal.returns-in-RotateY
unfolding op_angle_within
returns-in-RotateY c =
    c.within_1000-in-RotateY.ensures
    ∙ ap within1000 c.angle_radians-in-RotateY.ensures
    ∙ sym (ap (op_angle_within c.args.degrees) c.in-RotateY.is)

pub returns-in-RotateZ : goal.returns-in-RotateZ
unfolding op_angle_within
returns-in-RotateZ c =
    c.within_1000-in-RotateZ.ensures
    ∙ ap within1000 c.angle_radians-in-RotateZ.ensures
    ∙ sym (ap (op_angle_within c.args.degrees) c.in-RotateZ.is)

pub returns-in-Scale : goal.returns-in-Scale
unfolding op_angle_within
returns-in-Scale c = sym (ap (op_angle_within c.args.degrees) c.in-Scale.is)

pub returns-in-Scale3 : goal.returns-in-Scale3
unfolding op_angle_within
returns-in-Scale3 c = sym (ap (op_angle_within c.args.degrees) c.in-Scale3.is)

pub returns-in-Matrix : goal.returns-in-Matrix
unfolding op_angle_within
returns-in-Matrix c = sym (ap (op_angle_within c.args.degrees) c.in-Matrix.is)
