-- A shape by the number of its kind, its directions and its numbers in the Rust's field order (tests/README.md, "A case"). Definitions only.
use Rattle.std.specs.Prelude.{cond, List, ℕ, ◌+◌, eqb, get_or, Float}
use Rattle.std.specs.Float.{nan}
use Rattle.math.specs.declared.Vec3.{Vec3}
use Rattle.shape.specs.declared.Shape.{Shape}
use Rattle.shape.specs.declared.Shape.TheVariants.{Box, MultiBox, Sphere, SphericalShell, Cylinder, CylindricalShell, Polygon, LinPoly, RotPoly, Wire}

-- number i of a list
abbrev pub number : List Float → ℕ → Float
number n i = get_or n i nan

-- the point of three numbers from number i on
abbrev pub point_at : List Float → ℕ → Vec3
point_at n i = record { x = number n i; y = number n (i + 1); z = number n (i + 2) }

-- the kinds whose numbers begin with a point; any other kind counts as 5
unfoldable pub pointed : ℕ → List Float → Shape
pointed k n =
    cond (eqb k 0) (Box (point_at n 0) (point_at n 3))
    (cond (eqb k 2) (Sphere (point_at n 0) (number n 3))
    (cond (eqb k 3) (SphericalShell (point_at n 0) (number n 3) (number n 4))
    (cond (eqb k 4) (Cylinder (point_at n 0) (point_at n 3) (number n 6))
    (CylindricalShell (point_at n 0) (point_at n 3) (number n 6) (number n 7)))))

-- a shape by its kind, 0 to 9 in the order of `Shape`, its norm_dir, its rot_axis_dir and its numbers
unfoldable pub shape_of : ℕ → ℕ → ℕ → List Float → Shape
shape_of k normal axis n =
    cond (eqb k 1) MultiBox
    (cond (eqb k 6) (Polygon normal (number n 0))
    (cond (eqb k 7) (LinPoly normal (number n 0) (number n 1))
    (cond (eqb k 8) (RotPoly normal (number n 0) axis (number n 1) (number n 2))
    (cond (eqb k 9) (Wire (number n 0))
    (pointed k n)))))
