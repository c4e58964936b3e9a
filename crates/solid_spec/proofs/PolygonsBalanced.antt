-- Extruded outlines of two different ends, and rotated outlines, with n - 2 cap triangles for n corners, are balanced; a rotated one of a full turn in any
-- case.
use mathlib.Core.Path.{◌≡◌, refl, sym, ap, ◌∙◌}
use mathlib.Core.List.{List, [], map}
use mathlib.Core.Bool.{Bool, true, false, cond, not, ◌&&◌}
use Prim.Native.Nat.{ℕ, suc, ◌-◌, ◌*◌, ◌/◌, ◌≤◌, min}
use native.Mathlib.Omega.{arith}
use lib.Dec.{ltb, eqb, nltb→le}
use lib.ListN.{length}
use lib.Ieee.{Float, binary64, sub, eq, ne, lt, of_bits}
use Rattle.ieee.specs.Number.{absolute}
use Rattle.mesh_balance_spec.specs.Soup.{Balanced, map_tri}
use Rattle.mesh_balance_spec.specs.Grid.{Bounds}
use Rattle.mesh_balance_spec.specs.Prism.{cycle}
use Rattle.outline.specs.Clean.{clean_polygon}
use Rattle.outline.specs.Area.{signed_area}
use Rattle.outline.specs.Ccw.{reversed, ccw_polygon}
use Rattle.outline.proofs.Copies.{length_reversed}
use Rattle.outline_triangulate.specs.Triangulate.{triangulate_polygon}
use Rattle.outline_caps_law.proofs.CapsLaws as Cap
use Rattle.mesh_spec.specs.Mesh.{plus_zero_v}
use Rattle.shape_arc.specs.Arc.{is_full}
use Rattle.solid_spec.specs.Outline.{extruded_from, rotated_from}
use Rattle.solid_spec.specs.Polygons.{cap_triangles, extruded_polygon, low_end, high_end, lin_poly_soup, radial_axis, rotpoly, rot_poly_soup, cap_numbers}
use Rattle.solid_spec.specs.Polygons.{radial_corners}
use Rattle.solid_spec.proofs.Closes.{Closes, nothing_closes}
use Rattle.solid_spec.proofs.OutlineBalanced.{extruded_from_closes, rotated_from_closes}

-- the number of corners
abbrev pub corners : List Float → ℕ
corners v = length v / 2

-- `ccw_polygon` keeps the number of corners that `clean_polygon` leaves
half : (n : ℕ) → 2 * (n / 2) / 2 ≡ n / 2
half n = omega arith

pub ccw_corners : (v : List Float) → corners (ccw_polygon v) ≡ corners (clean_polygon v)
unfolding ccw_polygon
ccw_corners v = go (lt (signed_area (clean_polygon v)) (of_bits binary64 0))
  where
    go : (b : Bool) → corners (cond b (reversed (clean_polygon v)) (clean_polygon v)) ≡ corners (clean_polygon v)
    go true = ap (λ (n : ℕ). n / 2) (length_reversed (clean_polygon v)) ∙ half (length (clean_polygon v))
    go false = refl

-- with n - 2 of them, the cap triangles have the outline as their boundary
caps_bound : (p : List Float) → 3 ≤ corners p → cap_numbers p ≡ 3 * (corners p - 2) → Bounds (cap_triangles p) (cycle (corners p - 1))
unfolding cap_triangles
caps_bound p h k =
    let e : corners p ≡ suc (corners p - 1) = omega arith in
    let n : corners p - 2 ≡ corners p - 1 - 1 = omega arith in
    Cap.caps p (corners p - 1) e (omega arith) (k ∙ ap (λ (x : ℕ). 3 * x) n)

ne_of : (x y : Float) → eq x y ≡ false → ne x y ≡ true
unfolding ne
ne_of x y h = ap not h

some_corners : (p : List Float) → 3 ≤ corners p → corners p ≡ suc (corners p - 1)
some_corners p h = omega arith

extruded_closes : (n : ℕ) (p : List Float) (lo hi : Float) → eq hi lo ≡ false → cap_numbers p ≡ 3 * (corners p - 2) → Closes (extruded_from n p (cap_triangles p) lo hi)
extruded_closes n p lo hi u k = go (ltb (corners p) 3) refl
  where
    many : 3 ≤ corners p → Closes (extruded_from n p (cap_triangles p) lo hi)
    many h = extruded_from_closes n (corners p - 1) p (cap_triangles p) lo hi (some_corners p h) (ne_of hi lo u) (caps_bound p h k)

    go : (t : Bool) → ltb (corners p) 3 ≡ t → Closes (extruded_from n p (cap_triangles p) lo hi)
    go true e = unfold extruded_from in rw e nothing_closes
    go false e = many (nltb→le (corners p) 3 (rw e tt))

rotated_closes : (a q : ℕ) (p : List Float) (start stop : Float) (segments : ℕ)
    → (is_full (absolute (sub binary64 stop start)) ≡ false → cap_numbers p ≡ 3 * (corners p - 2))
    → Closes (rotated_from a q p (cap_triangles p) start stop segments)
rotated_closes a q p start stop segments k = go (ltb (corners p) 3) refl
  where
    many : 3 ≤ corners p → Closes (rotated_from a q p (cap_triangles p) start stop segments)
    many h = rotated_from_closes a q (corners p - 1) p (cap_triangles p) (some_corners p h) start stop segments (λ f. caps_bound p h (k f))

    go : (t : Bool) → ltb (corners p) 3 ≡ t → Closes (rotated_from a q p (cap_triangles p) start stop segments)
    go true e = unfold rotated_from in rw e nothing_closes
    go false e = many (nltb→le (corners p) 3 (rw e tt))

-- `extruded_polygon` between ends that differ as floats, with n - 2 cap triangles for the n corners that `clean_polygon` leaves
pub extruded_polygon_balanced : (n : ℕ) (v : List Float) (lo hi : Float) → eq hi lo ≡ false
    → cap_numbers (ccw_polygon v) ≡ 3 * (corners (clean_polygon v) - 2)
    → Balanced (map (map_tri plus_zero_v) (extruded_polygon n v lo hi))
unfolding extruded_polygon
extruded_polygon_balanced n v lo hi u k = extruded_closes n (ccw_polygon v) lo hi u (k ∙ ap (λ (n : ℕ). 3 * (n - 2)) (sym (ccw_corners v)))

-- the solid LinPoly
pub lin_poly_soup_balanced : (n : ℕ) (v : List Float) (elevation length' : Float)
    → eq (high_end elevation length') (low_end elevation length') ≡ false
    → cap_numbers (ccw_polygon v) ≡ 3 * (corners (clean_polygon v) - 2)
    → Balanced (map (map_tri plus_zero_v) (lin_poly_soup n v elevation length'))
unfolding lin_poly_soup
lin_poly_soup_balanced n v e l = extruded_polygon_balanced (min n 2) v (low_end e l) (high_end e l)

-- the solid RotPoly: of a full turn, or with n - 2 cap triangles for the n corners that `clean_polygon` leaves of those in (radial, axial) coordinates
pub rot_poly_soup_balanced : (normal a : ℕ) (v : List Float) (start stop : Float) (segments : ℕ)
    → (is_full (absolute (sub binary64 stop start)) ≡ false
    → cap_numbers (ccw_polygon (radial_corners a normal v)) ≡ 3 * (corners (clean_polygon (radial_corners a normal v)) - 2))
    → Balanced (map (map_tri plus_zero_v) (rot_poly_soup normal a v start stop segments))
unfolding rot_poly_soup rotpoly
rot_poly_soup_balanced normal a v start stop segments k = go (ltb normal 3 && ltb a 3 && not (eqb normal a))
  where
    w : List Float
    w = radial_corners a normal v

    go : (t : Bool) → Closes (cond t (rotpoly a normal v start stop segments) [])
    go true = rotated_closes a (radial_axis a normal) (ccw_polygon w) start stop segments (λ f. k f ∙ ap (λ (n : ℕ). 3 * (n - 2)) (sym (ccw_corners w)))
    go false = nothing_closes
