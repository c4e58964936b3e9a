-- The shape of the kinds that no arm names. Assumes nothing.
use mathlib.Core.Path.{◌≡◌}
use mathlib.Core.List.{List}
use Prim.Native.Nat.{ℕ}
use lib.Ieee.{Float}
use borrow.Author.Tests.{ne_eqb}
use Rattle.slice_law.specs.Arms.{Not}
use Rattle.shape.specs.declared.Shape.{Shape}
use Rattle.shape.specs.declared.Shape.TheVariants.{CylindricalShell}
use Rattle.shape_fields.specs.Fields.{number, point_at, pointed, shape_of}

pub other_pointed : (n : List Float) {k : ℕ} {r : Shape} → (((Unit {0} × Not k 0) × Not k 2) × Not k 3) × Not k 4
    → r ≡ CylindricalShell (point_at n 0) (point_at n 3) (number n 6) (number n 7) → r ≡ pointed k n
unfolding pointed
other_pointed n {k} h e = simp (ne_eqb k 0 h.0.0.0.1, ne_eqb k 2 h.0.0.1, ne_eqb k 3 h.0.1, ne_eqb k 4 h.1) e

pub other_shape : (normal axis : ℕ) (n : List Float) {k : ℕ} {r : Shape} → ((((Unit {0} × Not k 1) × Not k 6) × Not k 7) × Not k 8) × Not k 9
    → r ≡ pointed k n → r ≡ shape_of k normal axis n
unfolding shape_of
other_shape normal axis n {k} h e =
    simp (ne_eqb k 1 h.0.0.0.0.1, ne_eqb k 6 h.0.0.0.1, ne_eqb k 7 h.0.0.1, ne_eqb k 8 h.0.1, ne_eqb k 9 h.1) e
