-- The cases of the match of `tessellate`, from the soups that were welded. Assumes nothing.
use mathlib.Core.Path.{◌≡◌, refl, sym, ap, ◌∙◌, subst}
use mathlib.Core.Bool.{Bool, true, false, cond, not, ◌&&◌}
use mathlib.Core.List.{List, [], ◌∷◌}
use Prim.Native.Nat.{ℕ, ◌+◌, ◌≤◌, ◌<◌, min}
use native.Mathlib.Omega.{arith}
use types.Run.{OneOf, miss}
use denote.Enum.Declared.{tag_of}
use borrow.Author.Tests.{lt-ltb, le-ltb, eq-eqb, ne_eqb}
use lib.Dec.{ltb, eqb}
use lib.Ieee.{Float, binary64, add}
use Rattle.weld.specs.declared.Welding.{Welding}
use Rattle.weld.specs.Rep.{Ready}
use Rattle.weld.specs.Welding.{held_by, Welds, WeldsParts, NewPart, welds_none, welds_as, welds_parts_one}
use Rattle.math.specs.declared.Vec3.{Vec3}
use Rattle.solid_spec.specs.Coords.{to_cartesian}
use Rattle.solid_spec.specs.Sphere.{sphere, sphere_soup}
use Rattle.solid_spec.specs.Cylinder.{cylinder}
use Rattle.solid_spec.specs.Polygons.{low_end, high_end, extruded_polygon, polygon_soup, lin_poly_soup, rotpoly, rot_poly_soup, swaps, radial_axis}
use Rattle.outline.specs.declared.Axes.{Axes}
use Rattle.outline.specs.Axes.{plane_axes}
use Rattle.shape.specs.declared.Shape.{Shape}
use Rattle.shape.specs.declared.Shape.TheVariants.{Box, MultiBox, Sphere, SphericalShell, Cylinder, CylindricalShell, Polygon, LinPoly, RotPoly, Wire}
use Rattle.shape.specs.contracts.Shape as ofShape
use Rattle.shape.specs.declared.TessellationOptions.{TessellationOptions}
use Rattle.solid_spec.specs.Solid.{parts_of}
use Rattle.solid.specs.Limits.{Listed}
use Rattle.solid.specs.Soups.{solid_soup, tube_soup, outline_soup}

pub sphere_soup_lem : (cylindrical : Bool) (center c : Vec3) (radius : Float) (segments rings : ℕ) (h k : Welding) → c ≡ to_cartesian cylindrical center
    → Welds (sphere c radius segments rings false) h k → Welds (sphere_soup cylindrical center radius segments rings) h k
unfolding sphere_soup
sphere_soup_lem cylindrical center c radius segments rings h k e R = welds_as (ap (λ (v : Vec3). sphere v radius segments rings false) e) R

pub between_runs : (cylindrical : Bool) (start stop a b : Vec3) (inner outer : Float) (segments : ℕ) (h k : Welding) → a ≡ to_cartesian cylindrical start → b ≡ to_cartesian cylindrical stop
    → Welds (cylinder a b inner outer segments) h k → Welds (cylinder (to_cartesian cylindrical start) (to_cartesian cylindrical stop) inner outer segments) h k
between_runs cylindrical start stop a b inner outer segments h k e f R =
    welds_as (ap (λ (v : Vec3). cylinder v b inner outer segments) e ∙ ap (λ (v : Vec3). cylinder (to_cartesian cylindrical start) v inner outer segments) f) R

pub polygon_soup_lem : (normal n : ℕ) (v : List Float) (elevation : Float) (h k : Welding) → n ≡ min normal 2 → Welds (extruded_polygon n v elevation elevation) h k → Welds (polygon_soup
    normal v elevation) h k
unfolding polygon_soup
polygon_soup_lem normal n v elevation h k e R = welds_as (ap (λ (i : ℕ). extruded_polygon i v elevation elevation) e) R

pub lin_soup : (normal n : ℕ) (v : List Float) (elevation length lo hi : Float) (h k : Welding) → n ≡ min normal 2 → lo ≡ low_end elevation length → hi ≡ high_end elevation length
    → Welds (extruded_polygon n v lo hi) h k → Welds (lin_poly_soup normal v elevation length) h k
unfolding lin_poly_soup
lin_soup normal n v elevation length lo hi h k e a b R =
    welds_as
    (ap (λ (i : ℕ). extruded_polygon i v lo hi) e ∙ ap (λ (x : Float). extruded_polygon (min normal 2) v x hi) a
    ∙ ap (λ (x : Float). extruded_polygon (min normal 2) v (low_end elevation length) x) b) R

module _ (normal a : ℕ) (v : List Float) (start stop : Float) (segments : ℕ) where
  rot_is : (x y z : Bool) → ltb normal 3 ≡ x → ltb a 3 ≡ y → eqb normal a ≡ z
      → cond (x && y && not z) (rotpoly a normal v start stop segments) [] ≡ rot_poly_soup normal a v start stop segments
  unfolding rot_poly_soup
  rot_is x y z p q r =
      ap (λ (b : Bool). cond (b && y && not z) (rotpoly a normal v start stop segments) []) (sym p)
      ∙ ap (λ (b : Bool). cond (ltb normal 3 && b && not z) (rotpoly a normal v start stop segments) []) (sym q)
      ∙ ap (λ (b : Bool). cond (ltb normal 3 && ltb a 3 && not b) (rotpoly a normal v start stop segments) []) (sym r)

  pub rot_runs : (h k : Welding) → normal < 3 → a < 3 → (normal ≡ a → ⊥) → Welds (rotpoly a normal v start stop segments) h k → Welds (rot_poly_soup normal a v start stop segments) h k
  rot_runs h k p q r R = welds_as (rot_is true true false (lt-ltb normal 3 p) (lt-ltb a 3 q) (ne_eqb normal a r)) R

  pub rot_same : (h : Welding) → Ready (held_by h) → normal ≡ a → Welds (rot_poly_soup normal a v start stop segments) h h
  rot_same h R e = welds_as (none (ltb normal 3) (ltb a 3) ∙ rot_is (ltb normal 3) (ltb a 3) true refl refl (eq-eqb normal a e)) (welds_none h R)
    where
      none : (x y : Bool) → [] ≡ cond (x && y && not true) (rotpoly a normal v start stop segments) []
      none true true = refl
      none true false = refl
      none false y = refl

  pub rot_axis : (h : Welding) → Ready (held_by h) → 3 ≤ a → Welds (rot_poly_soup normal a v start stop segments) h h
  rot_axis h R e = welds_as (none (ltb normal 3) ∙ rot_is (ltb normal 3) false (eqb normal a) refl (le-ltb a 3 e) refl) (welds_none h R)
    where
      none : (x : Bool) → [] ≡ cond (x && false && not (eqb normal a)) (rotpoly a normal v start stop segments) []
      none true = refl
      none false = refl

  pub rot_normal : (h : Welding) → Ready (held_by h) → 3 ≤ normal → Welds (rot_poly_soup normal a v start stop segments) h h
  rot_normal h R e = welds_as (rot_is false (ltb a 3) (eqb normal a) (le-ltb normal 3 e) refl refl) (welds_none h R)

-- a shape of which the case is known
pub shape_as : (cylindrical : Bool) (s t : Shape) (v : List Float) (o : TessellationOptions) (h k : Welding) → s ≡ t → WeldsParts (parts_of cylindrical t v o) h k
    → WeldsParts (parts_of cylindrical s v o) h k
shape_as cylindrical s t v o h k e R = subst (λ (x : Shape). WeldsParts (parts_of cylindrical x v o) h k) (sym e) R

pub solid_as : (cylindrical : Bool) (s t : Shape) (o : TessellationOptions) (h k : Welding) → s ≡ t → Welds (solid_soup cylindrical t o) h k → Welds (solid_soup cylindrical s o) h k
solid_as cylindrical s t o h k e R = subst (λ (x : Shape). Welds (solid_soup cylindrical x o) h k) (sym e) R

pub tube_as : (cylindrical : Bool) (s t : Shape) (n : ℕ) (h k : Welding) → s ≡ t → Welds (tube_soup cylindrical t n) h k → Welds (tube_soup cylindrical s n) h k
tube_as cylindrical s t n h k e R = subst (λ (x : Shape). Welds (tube_soup cylindrical x n) h k) (sym e) R

pub outline_as : (s t : Shape) (v : List Float) (n : ℕ) (h k : Welding) → s ≡ t → Welds (outline_soup t v n) h k → Welds (outline_soup s v n) h k
outline_as s t v n h k e R = subst (λ (x : Shape). Welds (outline_soup x v n) h k) (sym e) R

pub listed_as : (s t : Shape) (v : List Float) → s ≡ t → Listed s v → Listed t v
listed_as s t v e l = subst (λ (x : Shape). Listed x v) e l

-- a shape of which the case is one of several: the keys are the numbers of the variants
pub solid_none : (s : Shape) (cylindrical : Bool) (o : TessellationOptions) (h : Welding) → Ready (held_by h) → OneOf (1 ∷ 4 ∷ 5 ∷ 6 ∷ 7 ∷ 8 ∷ 9 ∷ []) (tag_of ofShape.the_type s) → Welds (solid_soup cylindrical s o) h h
solid_none (Box start stop) cylindrical o h R k = absurd (miss (1 ∷ 4 ∷ 5 ∷ 6 ∷ 7 ∷ 8 ∷ 9 ∷ []) 0 tt k)
solid_none MultiBox cylindrical o h R k = welds_none h R
solid_none (Sphere center radius) cylindrical o h R k = absurd (miss (1 ∷ 4 ∷ 5 ∷ 6 ∷ 7 ∷ 8 ∷ 9 ∷ []) 2 tt k)
solid_none (SphericalShell center radius width) cylindrical o h R k = absurd (miss (1 ∷ 4 ∷ 5 ∷ 6 ∷ 7 ∷ 8 ∷ 9 ∷ []) 3 tt k)
solid_none (Cylinder start stop radius) cylindrical o h R k = welds_none h R
solid_none (CylindricalShell start stop radius width) cylindrical o h R k = welds_none h R
solid_none (Polygon normal elevation) cylindrical o h R k = welds_none h R
solid_none (LinPoly normal elevation length) cylindrical o h R k = welds_none h R
solid_none (RotPoly normal elevation axis start stop) cylindrical o h R k = welds_none h R
solid_none (Wire radius) cylindrical o h R k = welds_none h R

pub tube_none : (s : Shape) (cylindrical : Bool) (n : ℕ) (h : Welding) → Ready (held_by h) → OneOf (0 ∷ 1 ∷ 2 ∷ 3 ∷ 6 ∷ 7 ∷ 8 ∷ 9 ∷ []) (tag_of ofShape.the_type s) → Welds (tube_soup cylindrical s n) h h
tube_none (Box start stop) cylindrical n h R k = welds_none h R
tube_none MultiBox cylindrical n h R k = welds_none h R
tube_none (Sphere center radius) cylindrical n h R k = welds_none h R
tube_none (SphericalShell center radius width) cylindrical n h R k = welds_none h R
tube_none (Cylinder start stop radius) cylindrical n h R k = absurd (miss (0 ∷ 1 ∷ 2 ∷ 3 ∷ 6 ∷ 7 ∷ 8 ∷ 9 ∷ []) 4 tt k)
tube_none (CylindricalShell start stop radius width) cylindrical n h R k = absurd (miss (0 ∷ 1 ∷ 2 ∷ 3 ∷ 6 ∷ 7 ∷ 8 ∷ 9 ∷ []) 5 tt k)
tube_none (Polygon normal elevation) cylindrical n h R k = welds_none h R
tube_none (LinPoly normal elevation length) cylindrical n h R k = welds_none h R
tube_none (RotPoly normal elevation axis start stop) cylindrical n h R k = welds_none h R
tube_none (Wire radius) cylindrical n h R k = welds_none h R

pub outline_none : (s : Shape) (v : List Float) (n : ℕ) (h : Welding) → Ready (held_by h) → OneOf (0 ∷ 1 ∷ 2 ∷ 3 ∷ 4 ∷ 5 ∷ 9 ∷ []) (tag_of ofShape.the_type s) → Welds (outline_soup s v n) h h
outline_none (Box start stop) v n h R k = welds_none h R
outline_none MultiBox v n h R k = welds_none h R
outline_none (Sphere center radius) v n h R k = welds_none h R
outline_none (SphericalShell center radius width) v n h R k = welds_none h R
outline_none (Cylinder start stop radius) v n h R k = welds_none h R
outline_none (CylindricalShell start stop radius width) v n h R k = welds_none h R
outline_none (Polygon normal elevation) v n h R k = absurd (miss (0 ∷ 1 ∷ 2 ∷ 3 ∷ 4 ∷ 5 ∷ 9 ∷ []) 6 tt k)
outline_none (LinPoly normal elevation length) v n h R k = absurd (miss (0 ∷ 1 ∷ 2 ∷ 3 ∷ 4 ∷ 5 ∷ 9 ∷ []) 7 tt k)
outline_none (RotPoly normal elevation axis start stop) v n h R k = absurd (miss (0 ∷ 1 ∷ 2 ∷ 3 ∷ 4 ∷ 5 ∷ 9 ∷ []) 8 tt k)
outline_none (Wire radius) v n h R k = welds_none h R

-- the one part of such a shape
pub solid_part : (s : Shape) (cylindrical : Bool) (v : List Float) (o : TessellationOptions) (h m r : Welding) → OneOf (0 ∷ 2 ∷ 3 ∷ []) (tag_of ofShape.the_type s)
    → Welds (solid_soup cylindrical s o) h m → NewPart m r → WeldsParts (parts_of cylindrical s v o) h r
unfolding parts_of
solid_part (Box start stop) cylindrical v o h m r k R P = welds_parts_one (solid_soup cylindrical (Box start stop) o) h m r R P
solid_part MultiBox cylindrical v o h m r k R P = absurd (miss (0 ∷ 2 ∷ 3 ∷ []) 1 tt k)
solid_part (Sphere center radius) cylindrical v o h m r k R P = welds_parts_one (solid_soup cylindrical (Sphere center radius) o) h m r R P
solid_part (SphericalShell center radius width) cylindrical v o h m r k R P = welds_parts_one (solid_soup cylindrical (SphericalShell center radius width) o) h m r R P
solid_part (Cylinder start stop radius) cylindrical v o h m r k R P = absurd (miss (0 ∷ 2 ∷ 3 ∷ []) 4 tt k)
solid_part (CylindricalShell start stop radius width) cylindrical v o h m r k R P = absurd (miss (0 ∷ 2 ∷ 3 ∷ []) 5 tt k)
solid_part (Polygon normal elevation) cylindrical v o h m r k R P = absurd (miss (0 ∷ 2 ∷ 3 ∷ []) 6 tt k)
solid_part (LinPoly normal elevation length) cylindrical v o h m r k R P = absurd (miss (0 ∷ 2 ∷ 3 ∷ []) 7 tt k)
solid_part (RotPoly normal elevation axis start stop) cylindrical v o h m r k R P = absurd (miss (0 ∷ 2 ∷ 3 ∷ []) 8 tt k)
solid_part (Wire radius) cylindrical v o h m r k R P = absurd (miss (0 ∷ 2 ∷ 3 ∷ []) 9 tt k)

pub tube_part : (s : Shape) (cylindrical : Bool) (v : List Float) (o : TessellationOptions) (h m r : Welding) → OneOf (4 ∷ 5 ∷ []) (tag_of ofShape.the_type s)
    → Welds (tube_soup cylindrical s o.segments) h m → NewPart m r → WeldsParts (parts_of cylindrical s v o) h r
unfolding parts_of
tube_part (Box start stop) cylindrical v o h m r k R P = absurd (miss (4 ∷ 5 ∷ []) 0 tt k)
tube_part MultiBox cylindrical v o h m r k R P = absurd (miss (4 ∷ 5 ∷ []) 1 tt k)
tube_part (Sphere center radius) cylindrical v o h m r k R P = absurd (miss (4 ∷ 5 ∷ []) 2 tt k)
tube_part (SphericalShell center radius width) cylindrical v o h m r k R P = absurd (miss (4 ∷ 5 ∷ []) 3 tt k)
tube_part (Cylinder start stop radius) cylindrical v o h m r k R P = welds_parts_one (tube_soup cylindrical (Cylinder start stop radius) o.segments) h m r R P
tube_part (CylindricalShell start stop radius width) cylindrical v o h m r k R P = welds_parts_one (tube_soup cylindrical (CylindricalShell start stop radius width) o.segments) h m r R P
tube_part (Polygon normal elevation) cylindrical v o h m r k R P = absurd (miss (4 ∷ 5 ∷ []) 6 tt k)
tube_part (LinPoly normal elevation length) cylindrical v o h m r k R P = absurd (miss (4 ∷ 5 ∷ []) 7 tt k)
tube_part (RotPoly normal elevation axis start stop) cylindrical v o h m r k R P = absurd (miss (4 ∷ 5 ∷ []) 8 tt k)
tube_part (Wire radius) cylindrical v o h m r k R P = absurd (miss (4 ∷ 5 ∷ []) 9 tt k)

pub outline_part : (s : Shape) (cylindrical : Bool) (v : List Float) (o : TessellationOptions) (h m r : Welding) → OneOf (6 ∷ 7 ∷ 8 ∷ []) (tag_of ofShape.the_type s)
    → Welds (outline_soup s v o.segments) h m → NewPart m r → WeldsParts (parts_of cylindrical s v o) h r
unfolding parts_of
outline_part (Box start stop) cylindrical v o h m r k R P = absurd (miss (6 ∷ 7 ∷ 8 ∷ []) 0 tt k)
outline_part MultiBox cylindrical v o h m r k R P = absurd (miss (6 ∷ 7 ∷ 8 ∷ []) 1 tt k)
outline_part (Sphere center radius) cylindrical v o h m r k R P = absurd (miss (6 ∷ 7 ∷ 8 ∷ []) 2 tt k)
outline_part (SphericalShell center radius width) cylindrical v o h m r k R P = absurd (miss (6 ∷ 7 ∷ 8 ∷ []) 3 tt k)
outline_part (Cylinder start stop radius) cylindrical v o h m r k R P = absurd (miss (6 ∷ 7 ∷ 8 ∷ []) 4 tt k)
outline_part (CylindricalShell start stop radius width) cylindrical v o h m r k R P = absurd (miss (6 ∷ 7 ∷ 8 ∷ []) 5 tt k)
outline_part (Polygon normal elevation) cylindrical v o h m r k R P = welds_parts_one (outline_soup (Polygon normal elevation) v o.segments) h m r R P
outline_part (LinPoly normal elevation length) cylindrical v o h m r k R P = welds_parts_one (outline_soup (LinPoly normal elevation length) v o.segments) h m r R P
outline_part (RotPoly normal elevation axis start stop) cylindrical v o h m r k R P = welds_parts_one (outline_soup (RotPoly normal elevation axis start stop) v o.segments) h m r R P
outline_part (Wire radius) cylindrical v o h m r k R P = absurd (miss (6 ∷ 7 ∷ 8 ∷ []) 9 tt k)
