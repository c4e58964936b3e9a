-- The `_` arms of a match on a shape: what is known there is that the shape's tag is one of a list of keys. Assumes nothing.
use mathlib.Core.Path.{◌≡◌, refl, sym, ◌∙◌, ap}
use mathlib.Core.Bool.{false}
use mathlib.Core.Logic.{inl, inr}
use mathlib.Core.List.{List, [], ◌∷◌}
use Prim.Native.Nat.{ℕ}
use lib.ListN.{get_or}
use types.Run.{OneOf, miss}
use denote.Enum.Declared.{tag_of}
use denote.Enum.Bare.{sameb}
use Rattle.shape.specs.contracts.CoordSystem as ofCoordSystem
use Rattle.shape.specs.contracts.Shape as ofShape
use Rattle.shape.specs.declared.Shape.{Shape}
use Rattle.shape.specs.declared.Shape.TheVariants.{Box, MultiBox, Sphere, SphericalShell, Cylinder, CylindricalShell, Polygon, LinPoly, RotPoly, Wire}
use Rattle.shape.specs.declared.Items.{Items}
use Rattle.shape.specs.declared.Items.TheVariants.{NoItems, Corners, Points, Boxes}
use Rattle.shape.specs.declared.CoordSystem.{CoordSystem}
use Rattle.shape.specs.declared.CoordSystem.TheVariants.{Cartesian, Cylindrical}
use Rattle.std.specs.Prelude.{Option, Some, None, unwrap_or}
use Rattle.shape.specs.Rotated.{is_rot_poly}
use Rattle.shape.specs.Drawing.{cylindrical, effective_cs, shape_cs, items_of}

-- the place of a shape's case in the enum
abbrev pub tag : Shape → ℕ
tag s = tag_of ofShape.the_type s

-- no rotated outline
pub not_rotated : (s : Shape) → OneOf (0 ∷ 1 ∷ 2 ∷ 3 ∷ 4 ∷ 5 ∷ 6 ∷ 7 ∷ 9 ∷ []) (tag s) → false ≡ is_rot_poly s
unfolding is_rot_poly
not_rotated (Box start stop) k = refl
not_rotated MultiBox k = refl
not_rotated (Sphere center radius) k = refl
not_rotated (SphericalShell center radius width) k = refl
not_rotated (Cylinder start stop radius) k = refl
not_rotated (CylindricalShell start stop radius width) k = refl
not_rotated (Polygon normal elevation) k = refl
not_rotated (LinPoly normal elevation length) k = refl
not_rotated (RotPoly normal elevation axis start stop) k = absurd (miss (0 ∷ 1 ∷ 2 ∷ 3 ∷ 4 ∷ 5 ∷ 6 ∷ 7 ∷ 9 ∷ []) 8 tt k)
not_rotated (Wire radius) k = refl

-- any shape but a multi-box: its effective system
pub own_system : (s : Shape) (own : Option CoordSystem) (default : CoordSystem) → OneOf (0 ∷ 2 ∷ 3 ∷ 4 ∷ 5 ∷ 6 ∷ 7 ∷ 8 ∷ 9 ∷ []) (tag s) → effective_cs own default ≡ shape_cs s own default
unfolding shape_cs
own_system (Box start stop) own default k = refl
own_system MultiBox own default k = absurd (miss (0 ∷ 2 ∷ 3 ∷ 4 ∷ 5 ∷ 6 ∷ 7 ∷ 8 ∷ 9 ∷ []) 1 tt k)
own_system (Sphere center radius) own default k = refl
own_system (SphericalShell center radius width) own default k = refl
own_system (Cylinder start stop radius) own default k = refl
own_system (CylindricalShell start stop radius width) own default k = refl
own_system (Polygon normal elevation) own default k = refl
own_system (LinPoly normal elevation length) own default k = refl
own_system (RotPoly normal elevation axis start stop) own default k = refl
own_system (Wire radius) own default k = refl

-- a primitive's own system, or the default
pub own_or_default : (own : Option CoordSystem) (default : CoordSystem) → unwrap_or own default ≡ effective_cs own default
unfolding effective_cs
own_or_default None default = refl
own_or_default (Some cs) default = refl

-- the test for the cylindrical system, as the derived `==` makes it
pub same_as_cylindrical : (cs : CoordSystem) → sameb ofCoordSystem.the_type cs Cylindrical ≡ cylindrical cs
unfolding cylindrical
same_as_cylindrical Cartesian = refl
same_as_cylindrical Cylindrical = refl

-- ---- the lists, by the tag

abbrev items_at : ℕ → Items
items_at k = get_or (NoItems ∷ Boxes ∷ NoItems ∷ NoItems ∷ NoItems ∷ NoItems ∷ Corners ∷ Corners ∷ Corners ∷ Points ∷ []) k NoItems

items_at_lem : (s : Shape) → items_at (tag s) ≡ items_of s
unfolding items_of
items_at_lem (Box start stop) = refl
items_at_lem MultiBox = refl
items_at_lem (Sphere center radius) = refl
items_at_lem (SphericalShell center radius width) = refl
items_at_lem (Cylinder start stop radius) = refl
items_at_lem (CylindricalShell start stop radius width) = refl
items_at_lem (Polygon normal elevation) = refl
items_at_lem (LinPoly normal elevation length) = refl
items_at_lem (RotPoly normal elevation axis start stop) = refl
items_at_lem (Wire radius) = refl

-- an outline has corners
pub corners_of : (s : Shape) → OneOf (6 ∷ 7 ∷ 8 ∷ []) (tag s) → Corners ≡ items_of s
corners_of s (inl e) = sym (ap items_at e) ∙ items_at_lem s
corners_of s (inr (inl e)) = sym (ap items_at e) ∙ items_at_lem s
corners_of s (inr (inr e)) = sym (ap items_at e) ∙ items_at_lem s

-- a box, a sphere, a cylinder and the shells have no list
pub no_items_of : (s : Shape) → OneOf (0 ∷ 2 ∷ 3 ∷ 4 ∷ 5 ∷ []) (tag s) → NoItems ≡ items_of s
no_items_of s (inl e) = sym (ap items_at e) ∙ items_at_lem s
no_items_of s (inr (inl e)) = sym (ap items_at e) ∙ items_at_lem s
no_items_of s (inr (inr (inl e))) = sym (ap items_at e) ∙ items_at_lem s
no_items_of s (inr (inr (inr (inl e)))) = sym (ap items_at e) ∙ items_at_lem s
no_items_of s (inr (inr (inr (inr e)))) = sym (ap items_at e) ∙ items_at_lem s
