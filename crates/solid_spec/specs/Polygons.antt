-- `extruded_polygon` and `rotpoly` of src/tessellate.rs from the lent corners on, and the soups of the cases Polygon, LinPoly and RotPoly of `tessellate`.
-- Definitions only.
use Rattle.std.specs.Prelude.{List, [], Bool, cond, not, ◌&&◌, ℕ, ◌-◌, min, eqb, ltb, length, Float}
use Rattle.std.specs.Float.{binary64}
use Rattle.std.specs.Float.Ieee.{add}
use Rattle.ieee.specs.Number.{minimum, maximum}
use Rattle.mesh_balance_spec.specs.Soup.{Tri}
use Rattle.mesh_balance_spec.specs.Buffer.{tris}
use Rattle.outline.specs.Axes.{plane_axes}
use Rattle.outline.specs.Ccw.{swapped, ccw_polygon}
use Rattle.outline_triangulate.specs.Triangulate.{triangulate_polygon}
use Rattle.solid_spec.specs.Grid.{Soup}
use Rattle.solid_spec.specs.Outline.{extruded_from, rotated_from}

-- the triangles of `triangulate_polygon`, each as three corner numbers
unfoldable pub cap_triangles : List Float → List (Tri ℕ)
cap_triangles p = tris (triangulate_polygon p).triangles

-- how many corner numbers the cap triangles have, three each. They are 3 * (n - 2) at most for n corners; below two corners n - 2 is 0: no caps
abbrev pub cap_numbers : List Float → ℕ
cap_numbers p = length (triangulate_polygon p).triangles

-- the ends of a LinPoly: `e.min(e + l)` and `e.max(e + l)`
abbrev pub low_end : Float → Float → Float
low_end e l = minimum e (add binary64 e l)

abbrev pub high_end : Float → Float → Float
high_end e l = maximum e (add binary64 e l)

-- the third axis of `rotpoly`, `3 - a - r.norm_dir`
abbrev pub radial_axis : ℕ → ℕ → ℕ
radial_axis a normal = 3 - a - normal

-- whether the corners of `rotpoly` are swapped: unless the plane's first axis is the radial one, `u == q`
unfoldable pub swaps : ℕ → ℕ → Bool
swaps a normal = not (eqb (plane_axes normal).u (radial_axis a normal))

-- the corners of a rotated outline in (radial, axial) coordinates, the `rh` of `rotpoly`
abbrev pub radial_corners : ℕ → ℕ → List Float → List Float
radial_corners a normal v = cond (swaps a normal) (swapped v) v

-- `extruded_polygon`
unfoldable pub extruded_polygon : ℕ → List Float → Float → Float → Soup
extruded_polygon n v lo hi =
    let p = ccw_polygon v in
    extruded_from n p (cap_triangles p) lo hi

-- the case Polygon of `tessellate`: a direction from 3 on is taken as 2
unfoldable pub polygon_soup : ℕ → List Float → Float → Soup
polygon_soup n v elevation = extruded_polygon (min n 2) v elevation elevation

-- the case LinPoly
unfoldable pub lin_poly_soup : ℕ → List Float → Float → Float → Soup
lin_poly_soup n v elevation length = extruded_polygon (min n 2) v (low_end elevation length) (high_end elevation length)

-- `rotpoly`
unfoldable pub rotpoly : ℕ → ℕ → List Float → Float → Float → ℕ → Soup
rotpoly a normal v start stop segments =
    let p = ccw_polygon (radial_corners a normal v) in
    rotated_from a (radial_axis a normal) p (cap_triangles p) start stop segments

-- the case RotPoly, before its mesh is flipped for a negative volume: nothing for a direction above 2 or for two equal ones
unfoldable pub rot_poly_soup : ℕ → ℕ → List Float → Float → Float → ℕ → Soup
rot_poly_soup normal a v start stop segments =
    cond (ltb normal 3 && ltb a 3 && not (eqb normal a)) (rotpoly a normal v start stop segments) []
