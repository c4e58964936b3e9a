-- The vertices of the mesh of a file that nothing refuses are floats of binary64: each is a sum or a quotient. Assumes nothing.
use Rattle.std.specs.Prelude.{◌≡◌, Bool, true, false, ◌&&◌, cond, List, [], ◌∷◌, ◌++◌, map, ℕ, length, take, T, eqb, Float}
use Rattle.std.proofs.Common.{sym, subst}
use Rattle.std.specs.Float.{binary64}
use Rattle.std.specs.Float.Ieee.{add, mul, div, fits, lt, ne, of_bits}
use Rattle.std.specs.Float.Ieee.Fits.{add-fits, div-fits}
use Rattle.ieee.specs.Same.{plus_zero}
use Rattle.math.specs.declared.Vec3.{Vec3}
use Rattle.math.specs.Vec.{one, new}
use Rattle.refusal.specs.Answer.{Accepted}
use Rattle.math_matrix.specs.declared.Row.{Row}
use Rattle.math_matrix.specs.declared.Mat4.{Mat4}
use Rattle.math_matrix.specs.Mat.{row_of, along, over_w, transform_point, determinant}
use Rattle.transform.specs.Ops.{folded}
use Rattle.mesh_balance_spec.specs.Soup.{Tri}
use Rattle.mesh_spec.specs.Mesh.{Mesh, no_mesh, plus_zero_v, first_sight, with_point, weld_triangle, weld_soup, from_soup, append, flip, append_parts, from_parts}
use Rattle.mesh_spec.specs.Parts.{Soup}
use Rattle.mesh_spec.specs.Edits.{moved, transform}
use Rattle.mesh_spec.specs.Measures.{signed_volume}
use Rattle.mesh_spec.specs.Slices.{flat_v}
use Rattle.mesh_spec.specs.SliceLaws.{flatV_append}
use Rattle.shape.specs.declared.Shape.{Shape}
use Rattle.shape.specs.Rotated.{is_rot_poly}
use Rattle.solid_spec.specs.Fits.{FitsV}
use Rattle.solid_spec.specs.Solid.{outward, outward_if, solid_mesh}
use Rattle.slice_bytes_law.specs.Floats.{AllFit}
use Rattle.tessellate_spec.specs.Outcome.{Job, job_parts, welded_mesh, placed, final_mesh}
use Rattle.tessellate_law.specs.Words.{Accepts}
use Rattle.fixture_spec.specs.Solids.{jobs_of}
use Rattle.fixture_spec.specs.Outcome.{solid_lent, drawn_mesh, fixture_mesh, open_refusal}
use Rattle.fixture_law.specs.Jobs.{opened, drawn_final, appended_keeps, each_shows}

-- the floats of points, one point after the other
abbrev AllFitV : List Vec3 → Type 0
AllFitV vs = AllFit (flat_v vs)

-- ---- lists of points

point_then : (p : Vec3) (ps : List Vec3) → FitsV p → AllFitV ps → AllFitV (p ∷ ps)
point_then p ps h k = (h.x, (h.y, (h.z, k)))

fit_append : (xs ys : List Float) → AllFit xs → AllFit ys → AllFit (xs ++ ys)
fit_append [] ys h k = k
fit_append (x ∷ xs) ys h k = (h.0, fit_append xs ys h.1 k)

points_append : (us vs : List Vec3) → AllFitV us → AllFitV vs → AllFitV (us ++ vs)
points_append us vs h k = subst AllFit (sym (flatV_append us vs)) (fit_append (flat_v us) (flat_v vs) h k)

points_map : (f : Vec3 → Vec3) → ((p : Vec3) → FitsV (f p)) → (vs : List Vec3) → AllFitV (map f vs)
points_map f h [] = tt
points_map f h (p ∷ ps) = point_then (f p) (map f ps) (h p) (points_map f h ps)

-- ---- welded points: each is a sum with +0.0

plus_zero_fits : (p : Vec3) → FitsV (plus_zero_v p)
unfolding plus_zero_v
plus_zero_fits p = record {
  x = add-fits binary64 p.x (of_bits binary64 0);
  y = add-fits binary64 p.y (of_bits binary64 0);
  z = add-fits binary64 p.z (of_bits binary64 0);
}

with_fits : (vs : List Vec3) (p : Vec3) → FitsV p → AllFitV vs → AllFitV (with_point vs p)
unfolding with_point
with_fits vs p k h = go (eqb (first_sight vs p) (length vs))
  where
    go : (b : Bool) → AllFitV (cond b (vs ++ (p ∷ [])) vs)
    go true = points_append vs (p ∷ []) h (point_then p [] k tt)
    go false = h

triangle_fits : (m : Mesh) (t : Tri Vec3) → AllFitV m.vertices → AllFitV (weld_triangle m t).vertices
unfolding weld_triangle
triangle_fits m t h =
    let ua : List Vec3 = with_point m.vertices (plus_zero_v t.0) in
    let ub : List Vec3 = with_point ua (plus_zero_v t.1) in
    with_fits ub (plus_zero_v t.2) (plus_zero_fits t.2)
    (with_fits ua (plus_zero_v t.1) (plus_zero_fits t.1)
    (with_fits m.vertices (plus_zero_v t.0) (plus_zero_fits t.0) h))

soup_fits : (m : Mesh) (soup : Soup) → AllFitV m.vertices → AllFitV (weld_soup m soup).vertices
unfolding weld_soup
soup_fits m [] h = h
soup_fits m (t ∷ soup) h = soup_fits (weld_triangle m t) soup (triangle_fits m t h)

from_soup_fits : (soup : Soup) → AllFitV (from_soup soup).vertices
unfolding from_soup
from_soup_fits soup = soup_fits no_mesh soup tt

append_fits : (m o : Mesh) → AllFitV m.vertices → AllFitV o.vertices → AllFitV (append m o).vertices
unfolding append
append_fits m o h k = points_append m.vertices o.vertices h k

parts_fit : (m : Mesh) (parts : List Soup) → AllFitV m.vertices → AllFitV (append_parts m parts).vertices
unfolding append_parts
parts_fit m [] h = h
parts_fit m (p ∷ ps) h = parts_fit (append m (from_soup p)) ps (append_fits m (from_soup p) h (from_soup_fits p))

from_parts_fit : (parts : List Soup) → AllFitV (from_parts parts).vertices
unfolding from_parts
from_parts_fit parts = parts_fit no_mesh parts tt

-- a flip keeps the vertices
flip_fits : (m : Mesh) → AllFitV m.vertices → AllFitV (flip m).vertices
unfolding flip
flip_fits m h = h

outward_fits : (m : Mesh) → AllFitV m.vertices → AllFitV (outward m).vertices
unfolding outward
outward_fits m h = go (lt (signed_volume m) (of_bits binary64 0))
  where
    go : (b : Bool) → AllFitV (cond b (flip m) m).vertices
    go true = flip_fits m h
    go false = h

solid_fits : (s : Shape) (parts : List Soup) → AllFitV (solid_mesh s parts).vertices
unfolding solid_mesh
solid_fits s parts = go (is_rot_poly s)
  where
    go : (b : Bool) → AllFitV (outward_if b (from_parts parts)).vertices
    go true = outward_fits (from_parts parts) (from_parts_fit parts)
    go false = from_parts_fit parts

-- ---- transformed points: each is a sum, or such a sum divided

along_fits : (r : Row) (p : Vec3) → T (fits binary64 (along r p))
unfolding along
along_fits r p =
    add-fits binary64 (add binary64 (add binary64 (mul binary64 r.x p.x) (mul binary64 r.y p.y)) (mul binary64 r.z p.z)) r.w

over_fits : (x y z w : Float) → FitsV (new x y z) → FitsV (over_w x y z w)
unfolding over_w
over_fits x y z w h = go (ne w one && ne w plus_zero)
  where
    go : (b : Bool) → FitsV (cond b (new (div binary64 x w) (div binary64 y w) (div binary64 z w)) (new x y z))
    go true = record { x = div-fits binary64 x w; y = div-fits binary64 y w; z = div-fits binary64 z w }
    go false = h

point_moved : (a : Mat4) (p : Vec3) → FitsV (transform_point a p)
unfolding transform_point
point_moved a p =
    over_fits (along (row_of a 0) p) (along (row_of a 1) p) (along (row_of a 2) p) (along (row_of a 3) p)
    (record { x = along_fits (row_of a 0) p; y = along_fits (row_of a 1) p; z = along_fits (row_of a 2) p })

moved_fits : (a : Mat4) (m : Mesh) → AllFitV (moved a m).vertices
unfolding moved
moved_fits a m = points_map (transform_point a) (point_moved a) m.vertices

transform_fits : (a : Mat4) (m : Mesh) → AllFitV (transform a m).vertices
unfolding transform
transform_fits a m = go (lt (determinant a) (of_bits binary64 0))
  where
    go : (b : Bool) → AllFitV (cond b (flip (moved a m)) (moved a m)).vertices
    go true = flip_fits (moved a m) (moved_fits a m)
    go false = moved_fits a m

-- ---- the solids

final_fits : (j : Job) → AllFitV (final_mesh j).vertices
unfolding final_mesh placed
final_fits j = go (eqb j.count 0)
  where
    welded : AllFitV (welded_mesh j).vertices
    welded = unfold welded_mesh in solid_fits j.shape (job_parts j)

    go : (b : Bool) → AllFitV (cond b (welded_mesh j) (transform (folded j.degrees (take j.count j.ops)) (welded_mesh j))).vertices
    go true = welded
    go false = transform_fits (folded j.degrees (take j.count j.ops)) (welded_mesh j)

drawn_fits : (j : Job) → Accepts j solid_lent → AllFitV (drawn_mesh j).vertices
drawn_fits j h = subst (λ (m : Mesh). AllFitV m.vertices) (sym (drawn_final j h)) (final_fits j)

pub fits_fixture : (file : List ℕ) → open_refusal file ≡ Accepted → AllFit (flat_v (fixture_mesh file).vertices)
unfolding fixture_mesh
fits_fixture file e =
    appended_keeps (λ m. AllFitV m.vertices) append_fits no_mesh (jobs_of file) tt
    (each_shows (λ j. Accepts j solid_lent) (λ j. AllFitV (drawn_mesh j).vertices) drawn_fits (jobs_of file) (opened file e).accepted)
