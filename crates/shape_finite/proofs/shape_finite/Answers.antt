-- `shape_finite::shape_finite` meets its contract. Assumes nothing.
use borrow.Author.Rules.{rules}
use mathlib.Core.Path.{sym, ap, ap₂, ◌∙◌}
use mathlib.Core.Bool.{◌&&◌}
use Rattle.shape.specs.Drawing.{shape_finite}
use Rattle.shape_finite.proofs.shape_finite.Goals as goal

pub returns-in-Box : goal.returns-in-Box
unfolding shape_finite
returns-in-Box c =
    ap₂ ◌&&◌ c.is_finite.ensures c.is_finite-in-Box.ensures
    ∙ sym (ap shape_finite c.in-Box.is)

pub returns-in-MultiBox : goal.returns-in-MultiBox
unfolding shape_finite
returns-in-MultiBox c = sym (ap shape_finite c.in-MultiBox.is)

pub returns-in-Sphere : goal.returns-in-Sphere
unfolding shape_finite
returns-in-Sphere c =
    ap₂ ◌&&◌ c.is_finite-in-Sphere.ensures c.is_finite-in-Sphere-2.ensures
    ∙ sym (ap shape_finite c.in-Sphere.is)

pub returns-in-SphericalShell : goal.returns-in-SphericalShell
unfolding shape_finite
returns-in-SphericalShell c =
    ap₂ ◌&&◌ (ap₂ ◌&&◌ c.is_finite-in-SphericalShell.ensures c.is_finite-in-SphericalShell-2.ensures) c.is_finite-in-SphericalShell-3.ensures
    ∙ sym (ap shape_finite c.in-SphericalShell.is)

pub returns-in-Cylinder : goal.returns-in-Cylinder
unfolding shape_finite
returns-in-Cylinder c =
    ap₂ ◌&&◌ (ap₂ ◌&&◌ c.is_finite-in-Cylinder.ensures c.is_finite-in-Cylinder-2.ensures) c.is_finite-in-Cylinder-3.ensures
    ∙ sym (ap shape_finite c.in-Cylinder.is)

pub returns-in-CylindricalShell : goal.returns-in-CylindricalShell
unfolding shape_finite
returns-in-CylindricalShell c =
    ap₂ ◌&&◌ (ap₂ ◌&&◌ (ap₂ ◌&&◌ c.is_finite-in-CylindricalShell.ensures c.is_finite-in-CylindricalShell-2.ensures) c.is_finite-in-CylindricalShell-3.ensures) c.is_finite-in-CylindricalShell-4.ensures
    ∙ sym (ap shape_finite c.in-CylindricalShell.is)

pub returns-in-Polygon : goal.returns-in-Polygon
unfolding shape_finite
returns-in-Polygon c = c.is_finite-in-Polygon.ensures ∙ sym (ap shape_finite c.in-Polygon.is)

pub returns-in-LinPoly : goal.returns-in-LinPoly
unfolding shape_finite
returns-in-LinPoly c =
    ap₂ ◌&&◌ c.is_finite-in-LinPoly.ensures c.is_finite-in-LinPoly-2.ensures
    ∙ sym (ap shape_finite c.in-LinPoly.is)

pub returns-in-RotPoly : goal.returns-in-RotPoly
unfolding shape_finite
returns-in-RotPoly c =
    ap₂ ◌&&◌ (ap₂ ◌&&◌ c.is_finite-in-RotPoly.ensures c.is_finite-in-RotPoly-2.ensures) c.is_finite-in-RotPoly-3.ensures
    ∙ sym (ap shape_finite c.in-RotPoly.is)

pub returns-in-Wire : goal.returns-in-Wire
unfolding shape_finite
returns-in-Wire c = c.is_finite-in-Wire.ensures ∙ sym (ap shape_finite c.in-Wire.is)
