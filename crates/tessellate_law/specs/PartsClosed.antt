-- The parts of each solid of demand 3 are balanced, so that its mesh is closed. Assumes nothing.
use Rattle.std.specs.Prelude.{◌≡◌, refl, ◌⊎◌, Bool, true, false, cond, ◌&&◌, List, [], ◌∷◌, ℕ, ◌+◌, ◌*◌, ◌/◌, ◌≤◌, ◌<◌, T, ltb, length, get_or, Float}
use Rattle.std.proofs.Common.{sym, ap, ◌∙◌, inl, inr, arith}
use Rattle.std.specs.Float.{nan, binary64}
use Rattle.std.specs.Float.Ieee.{sub}
use Rattle.std.specs.Float.Ieee.Fits.{and_l, and_r}
use Rattle.std.specs.Float.Ieee.Scale.{finite}
use Rattle.ieee.specs.Number.{absolute}
use Rattle.ieee.specs.Same.{true_T, T_true}
use Rattle.math.specs.declared.Vec3.{Vec3}
use Rattle.math.specs.Vec.{v_finite}
use Rattle.mesh_balance_spec.specs.Buffer.{tris}
use Rattle.outline.specs.Ccw.{ccw_polygon}
use Rattle.outline_triangle.specs.Triangle.{tolerance}
use Rattle.outline_triangulate.specs.Triangulate.{Clipping, start, passes, finished, triangulated, triangulate_polygon}
use Rattle.outline_caps_law.specs.Edges.{Thirds, none, more}
use Rattle.outline_caps_law.proofs.KeptLaws.{passes_kept, finished_kept}
use Rattle.mesh_spec.specs.Mesh.{from_soup, every_finite}
use Rattle.mesh_spec.specs.Closed.{Closed}
use Rattle.mesh_spec.proofs.WeldedLaws.{from_soup_closed}
use Rattle.solid_spec.specs.Grid.{Soup}
use Rattle.shape_arc.specs.Arc.{is_full}
use Rattle.mesh_spec.specs.Slices.{vertex_at}
use Rattle.solid_spec.specs.Polygons.{cap_triangles, radial_corners, cap_numbers}
use Rattle.solid_spec.proofs.Points.{finite_says}
use Rattle.solid_spec.proofs.BoxBalanced.{box_soup_balanced}
use Rattle.solid_spec.proofs.SphereBalanced.{sphere_soup_balanced, spherical_shell_soup_balanced}
use Rattle.solid_spec.proofs.CylinderBalanced.{cylinder_soup_balanced, cylindrical_shell_soup_balanced}
use Rattle.solid_spec.proofs.PolygonsBalanced.{lin_poly_soup_balanced, rot_poly_soup_balanced}
use Rattle.solid_spec.proofs.PartsBalanced.{vertex_at_fits, multi_box_parts_balanced, wire_parts_balanced}
use Rattle.shape.specs.declared.Shape.{Shape}
use Rattle.shape.specs.declared.Shape.TheVariants.{Box, MultiBox, Sphere, SphericalShell, Cylinder, CylindricalShell, Polygon, LinPoly, RotPoly, Wire}
use Rattle.shape.specs.declared.TessellationOptions.{TessellationOptions}
use Rattle.shape.specs.Drawing.{items_of, list_of, shape_finite}
use Rattle.shape.specs.DrawingLaws.{finite_at}
use Rattle.slice.specs.Every.{every}
use Rattle.mesh_spec.specs.Parts.{parts_finite}
use Rattle.solid_spec.specs.Solid.{parts_of}
use Rattle.tessellate_law.specs.Words.{FitsSolid, UnequalBounds, EachUnequal, FullTurn, Solid}
use Rattle.solid_spec.specs.Fits.{FiniteV, FitsV, UnequalEnds, FitsAll}
use Rattle.solid_spec.specs.BalancedParts.{EachPart, BalancedPart}

-- ---- the numbers of cap triangles

-- `triangulate_polygon` gives whole triangles
whole : (v : List Float) → Thirds (triangulate_polygon v).triangles
unfolding triangulate_polygon triangulated start
whole v = go (ltb n 3)
  where
    n : ℕ
    n = length v / 2

    s : Clipping
    s = passes (n * n) v (tolerance v) (start n)

    go : (b : Bool) → Thirds (cond b (record { idx = []; triangles = []; removed = 0 }) (finished v (tolerance v) s)).triangles
    go true = none
    go false = (finished_kept v (tolerance v) s).thirds ((passes_kept (n * n) v (tolerance v) (start n)).thirds none)

three_each : {l : List ℕ} → Thirds l → length l ≡ 3 * length (tris l)
three_each none = refl
three_each (more p) = omega (arith, three_each p)

counted : (p : List Float) (n : ℕ) → length (cap_triangles p) ≡ n → cap_numbers p ≡ 3 * n
unfolding cap_triangles
counted p n e = three_each (whole p) ∙ ap (λ (k : ℕ). 3 * k) e

-- ---- bounds

bounded : (a b : Vec3) → FitsV a → FitsV b → FiniteV a → FiniteV b → UnequalBounds a b → UnequalEnds a b
bounded a b fa fb na nb u =
    record { fits_a = fa; fits_b = fb; finite_a = na; finite_b = nb; unequal_x = u.x; unequal_y = u.y; unequal_z = u.z }

point_finite : (v : List Float) → every finite v ≡ true → (i : ℕ) → 3 * i + 2 < length v → FiniteV (vertex_at v i)
point_finite v h i l = record { x = at (3 * i) (omega arith); y = at (3 * i + 1) (omega arith); z = at (3 * i + 2) l }
  where
    at : (k : ℕ) → k < length v → T (finite (get_or v k nan))
    at k b = true_T (finite (get_or v k nan)) (finite_at v k b h)

boxes_bounded : (v : List Float) → FitsAll v → every finite v ≡ true → EachUnequal v → (i : ℕ) → i < length v / 6
    → UnequalEnds (vertex_at v (2 * i)) (vertex_at v (2 * i + 1))
boxes_bounded v f h u i l =
    bounded (vertex_at v (2 * i)) (vertex_at v (2 * i + 1)) (vertex_at_fits v f (2 * i)) (vertex_at_fits v f (2 * i + 1))
    (point_finite v h (2 * i) (omega arith)) (point_finite v h (2 * i + 1) (omega arith)) (u i l)

-- ---- the solids

-- a full turn needs no caps
turned_or : (start stop : Float) (A : Type 0) → FullTurn start stop ⊎ A → is_full (absolute (sub binary64 stop start)) ≡ false → A
turned_or start stop A (inl full) e = absurd (true_T false (sym e ∙ full))
turned_or start stop A (inr a) e = a

module _ (cylindrical : Bool) (v : List Float) (o : TessellationOptions) (few : o.segments ≤ 1024) where
  pub parts_balanced : (s : Shape) → FitsSolid s v → shape_finite s ≡ true → every finite (list_of (items_of s) v) ≡ true → Solid s v
      → EachPart BalancedPart (parts_of cylindrical s v o)
  unfolding parts_of shape_finite items_of list_of
  parts_balanced (Box a b) g n l u =
      let t = true_T (v_finite a && v_finite b) n in
      let h = bounded a b g.0 g.1 (finite_says a (and_l (v_finite a) (v_finite b) t)) (finite_says b (and_r (v_finite a) (v_finite b) t)) u in
      (box_soup_balanced cylindrical a b o.segments few h, tt)
  parts_balanced MultiBox g n l u = multi_box_parts_balanced cylindrical v o.segments few (boxes_bounded v g l u)
  parts_balanced (Sphere c r) g n l u = (sphere_soup_balanced cylindrical c r o.segments o.sphere_rings g, tt)
  parts_balanced (SphericalShell c r w) g n l u = (spherical_shell_soup_balanced cylindrical c r w o.segments o.sphere_rings g, tt)
  parts_balanced (Cylinder a b r) g n l u = (cylinder_soup_balanced cylindrical a b r o.segments few, tt)
  parts_balanced (CylindricalShell a b r w) g n l u = (cylindrical_shell_soup_balanced cylindrical a b r w o.segments few u, tt)
  parts_balanced (Polygon normal e) g n l u = absurd u
  parts_balanced (LinPoly normal e h) g n l u = (λ q. lin_poly_soup_balanced normal v e h u.0 (counted (ccw_polygon v) _ u.1), tt)
  parts_balanced (RotPoly normal e a s t) g n l u =
      (λ q. rot_poly_soup_balanced normal a v s t o.segments (λ part. counted (ccw_polygon (radial_corners a normal v)) _ (turned_or s t _ u part)), tt)
  parts_balanced (Wire r) g n l u = wire_parts_balanced cylindrical v r o.segments o.sphere_rings few g

-- each part gives a closed mesh
pub parts_closed : (ps : List Soup) → EachPart BalancedPart ps → parts_finite ps ≡ true → EachPart (λ s. Closed (from_soup s)) ps
unfolding parts_finite
parts_closed [] b e = tt
parts_closed (p ∷ ps) b e =
    let t = true_T (every_finite p && parts_finite ps) e in
    let h = T_true (every_finite p) (and_l (every_finite p) (parts_finite ps) t) in
    (from_soup_closed p (b.0 h) h, parts_closed ps b.1 (T_true (parts_finite ps) (and_r (every_finite p) (parts_finite ps) t)))
