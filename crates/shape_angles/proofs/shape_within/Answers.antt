-- `shape_angles::shape_within` meets its contract. Assumes nothing.
use borrow.Author.Rules.{rules}
use mathlib.Core.Path.{sym, ap, ap₂, ◌∙◌}
use mathlib.Core.Bool.{◌&&◌}
use Rattle.shape.specs.Drawing.{shape_within}
use Rattle.shape_angles.proofs.Cases.{no_angle_shape}
use Rattle.shape_angles.proofs.shape_within.Goals as goal

pub returns-in-Box : goal.returns-in-Box
unfolding shape_within
returns-in-Box c =
    ap₂ ◌&&◌ c.point_within.ensures c.point_within-in-Box.ensures
    ∙ sym (ap (shape_within c.args.cyl) c.in-Box.is)

pub returns-in-Sphere : goal.returns-in-Sphere
unfolding shape_within
returns-in-Sphere c = c.point_within-in-Sphere.ensures ∙ sym (ap (shape_within c.args.cyl) c.in-Sphere.is)

pub returns-in-SphericalShell : goal.returns-in-SphericalShell
unfolding shape_within
returns-in-SphericalShell c = c.point_within-in-SphericalShell.ensures ∙ sym (ap (shape_within c.args.cyl) c.in-SphericalShell.is)

pub returns-in-Cylinder : goal.returns-in-Cylinder
unfolding shape_within
returns-in-Cylinder c =
    ap₂ ◌&&◌ c.point_within-in-Cylinder.ensures c.point_within-in-Cylinder-2.ensures
    ∙ sym (ap (shape_within c.args.cyl) c.in-Cylinder.is)

pub returns-in-CylindricalShell : goal.returns-in-CylindricalShell
unfolding shape_within
returns-in-CylindricalShell c =
    ap₂ ◌&&◌ c.point_within-in-CylindricalShell.ensures c.point_within-in-CylindricalShell-2.ensures
    ∙ sym (ap (shape_within c.args.cyl) c.in-CylindricalShell.is)

pub returns-in-RotPoly : goal.returns-in-RotPoly
unfolding shape_within
returns-in-RotPoly c =
    ap₂ ◌&&◌ c.within_1000.ensures c.within_1000-in-RotPoly.ensures
    ∙ sym (ap (shape_within c.args.cyl) c.in-RotPoly.is)

pub returns-in_default : goal.returns-in_default
returns-in_default c = no_angle_shape _ _ c.in_default.in_default-own.keys7
