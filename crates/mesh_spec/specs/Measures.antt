-- `signed_volume`, `area` and `bounding_box` of `impl TriMesh` in src/tessellate.rs, docs/SCOPE.md's enclosed volume, and when two boxes are equal.
-- Sums start at +0.0. Definitions only.
use Rattle.std.specs.Prelude.{Bool, ◌&&◌, List, [], ◌∷◌, map, pos, get_or, Float}
use Rattle.std.specs.Float.{binary64}
use Rattle.std.specs.Float.Ieee.{add, div, of_bits, of_int}
use Rattle.ieee.specs.Number.{absolute}
use Rattle.math.specs.declared.Vec3.{Vec3}
use Rattle.math.specs.declared.BoundingBox.{BoundingBox}
use Rattle.math.specs.Vec.{zero_v, v_sub, dot, cross, norm}
use Rattle.math.specs.Box.{empty_box, include}
use Rattle.mesh_balance_spec.specs.Soup.{Tri, map_tri}
use Rattle.mesh_spec.specs.Mesh.{Mesh, plus_zero_v, same_point}

-- TriMesh::triangle_soup: `self.vertices[i]` for each number of each triangle
unfoldable pub triangle_soup : Mesh → List (Tri Vec3)
triangle_soup m = map (map_tri (λ i. get_or m.vertices i zero_v)) m.triangles

-- `.map(f).sum()`, from a start, first triangle first
unfoldable pub sum_of : (Tri Vec3 → Float) → Float → List (Tri Vec3) → Float
sum_of f s [] = s
sum_of f s (t ∷ ts) = sum_of f (add binary64 s (f t)) ts

-- `a.dot(b.cross(*c))`
unfoldable pub volume_term : Tri Vec3 → Float
volume_term t = dot t.0 (cross t.1 t.2)

-- `(*b - *a).cross(*c - *a).norm() / 2.0`
unfoldable pub area_term : Tri Vec3 → Float
area_term t = div binary64 (norm (cross (v_sub t.1 t.0) (v_sub t.2 t.0))) (of_int binary64 (pos 2))

-- TriMesh::signed_volume
unfoldable pub signed_volume : Mesh → Float
unfolding triangle_soup sum_of volume_term
signed_volume m = div binary64 (sum_of volume_term (of_bits binary64 0) (triangle_soup m)) (of_int binary64 (pos 6))

-- TriMesh::area
unfoldable pub area : Mesh → Float
unfolding triangle_soup sum_of area_term
area m = sum_of area_term (of_bits binary64 0) (triangle_soup m)

-- enclosed volume: `signed_volume` without its sign
unfoldable pub enclosed_volume : Mesh → Float
unfolding signed_volume
enclosed_volume m = absolute (signed_volume m)

-- BoundingBox::from_points, from a box on
unfoldable pub including : BoundingBox → List Vec3 → BoundingBox
including b [] = b
including b (p ∷ ps) = including (include b p) ps

-- a bound of zero is +0.0
unfoldable pub plus_zero_box : BoundingBox → BoundingBox
unfolding plus_zero_v
plus_zero_box b = record { min = plus_zero_v b.min; max = plus_zero_v b.max }

-- BoundingBox::from_points, from the empty box on; a bound of zero is +0.0
unfoldable pub box_of : List Vec3 → BoundingBox
unfolding including plus_zero_box
box_of ps = plus_zero_box (including empty_box ps)

-- TriMesh::bounding_box
unfoldable pub bounding_box : Mesh → BoundingBox
unfolding box_of
bounding_box m = box_of m.vertices

-- equal bounds, as floats compare: −0.0 equals 0.0, and a NaN equals nothing
unfoldable pub same_box : BoundingBox → BoundingBox → Bool
unfolding same_point
same_box a b = same_point a.min b.min && same_point a.max b.max
