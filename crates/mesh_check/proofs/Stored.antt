-- The record and the slices of a stored mesh, by parts of the slices before. Assumes nothing.
use mathlib.Core.Path.{◌≡◌, refl, ap, ◌∙◌}
use mathlib.Core.List.{List, ◌++◌, map, map-map}
use Prim.Native.Nat.{ℕ, ◌+◌, ◌*◌}
use native.Mathlib.Omega.{arith}
use lib.ListN.{length, take, drop, length-append, length-map, take-append-drop}
use lib.Seq.{paste, length-take-le}
use lib.Ieee.{Float}
use Rattle.slice_law.specs.Lists.{map_take}
use Rattle.math.specs.declared.Vec3.{Vec3}
use Rattle.math.specs.declared.BoundingBox.{BoundingBox}
use Rattle.math_matrix.specs.declared.Mat4.{Mat4}
use Rattle.math_matrix.specs.Mat.{transform_point}
use Rattle.mesh_balance_spec.specs.Soup.{Tri, map_tri}
use Rattle.mesh_balance_spec.specs.Soup.{flip_tri}
use Rattle.mesh_balance_spec.specs.Buffer.{flat, tris, flat_append}
use Rattle.mesh_spec.specs.Mesh.{Mesh, append, flip}
use Rattle.mesh_spec.specs.Edits.{moved}
use Rattle.mesh_spec.specs.Measures.{box_of, bounding_box}
use Rattle.mesh_spec.specs.Slices.{flat_v, points, tri_of, vec_of}
use Rattle.mesh_spec.specs.SliceLaws.{flat_tris, flat_map, length_tris, points_tris, flatV_flat, flatV_append, flatV_points, length_points}
use Rattle.mesh_check.specs.declared.TriMesh.{TriMesh}
use Rattle.mesh_check.specs.State.{record_of, State, state, mesh_of, stored, Sound}
use Rattle.mesh_triples.specs.Triples.{each_to, moved_triple}

-- a stored mesh, where its counts, its box and its floats and numbers are known
stored_is : (m : Mesh) (s : State) (n k : ℕ) (b : BoundingBox) (fv : List Float) (ft : List ℕ) → length m.vertices ≡ n → length m.triangles ≡ k
    → bounding_box m ≡ b → flat_v m.vertices ≡ fv → flat m.triangles ≡ ft
    → stored m s ≡ state (record_of n k b) (fv ++ drop (3 * n) s.vertices) (ft ++ drop (3 * k) s.triangles)
unfolding stored
stored_is m s n k b fv ft en ek eb ev et =
    λ j. state (record_of (en j) (ek j) (eb j)) (ev j ++ drop (3 * en j) s.vertices) (et j ++ drop (3 * ek j) s.triangles)

-- ---- the mesh in the slices
module _ (s : State) (ok : Sound s) where
  abbrev n : ℕ
  n = s.mesh.vertices

  abbrev k : ℕ
  k = s.mesh.triangles

  abbrev ps : List Vec3
  ps = points (take (3 * n) s.vertices)

  abbrev ts : List (Tri ℕ)
  ts = tris (take (3 * k) s.triangles)

  pub mesh_vertices : length (mesh_of s).vertices ≡ n
  unfolding mesh_of
  mesh_vertices = length_points n (take (3 * n) s.vertices) (length-take-le (3 * n) s.vertices ok.vertices)

  pub mesh_triangles : length (mesh_of s).triangles ≡ k
  unfolding mesh_of
  mesh_triangles = length_tris k (take (3 * k) s.triangles) (length-take-le (3 * k) s.triangles ok.triangles)

  pub floats : flat_v (mesh_of s).vertices ≡ take (3 * n) s.vertices
  unfolding mesh_of
  floats = flatV_points n (take (3 * n) s.vertices) (length-take-le (3 * n) s.vertices ok.vertices)

  pub numbers : flat (mesh_of s).triangles ≡ take (3 * k) s.triangles
  unfolding mesh_of
  numbers = flat_tris k (take (3 * k) s.triangles) (length-take-le (3 * k) s.triangles ok.triangles)

  -- ---- flip
  -- the vertices stay, and so does their box
  pub stored_flip : stored (flip (mesh_of s)) s ≡ state (record_of n k (bounding_box (mesh_of s))) s.vertices (each_to flip_tri k s.triangles)
  unfolding flip each_to mesh_of bounding_box
  stored_flip =
      stored_is (flip (mesh_of s)) s n k (box_of ps) (take (3 * n) s.vertices) (flat (map flip_tri ts)) mesh_vertices (length-map ts flip_tri ∙ mesh_triangles)
      refl floats refl
      ∙ (λ j. state (record_of n k (box_of ps)) (take-append-drop (3 * n) s.vertices j) (flat (map flip_tri ts) ++ drop (3 * k) s.triangles))

  -- ---- transform
  triples : (a : Mat4) → flat_v (map (transform_point a) ps) ≡ flat (map (moved_triple a) (tris (take (3 * n) s.vertices)))
  triples a =
      let q = tris (take (3 * n) s.vertices) in
      flatV_flat (map (transform_point a) ps)
      ∙ ap {B = List Float} (λ (r : List Vec3). flat (map tri_of (map (transform_point a) r))) (points_tris (take (3 * n) s.vertices))
      ∙ ap {B = List Float} (λ (r : List Vec3). flat (map tri_of r)) (map-map (transform_point a) vec_of q)
      ∙ ap {B = List Float} flat (map-map tri_of (λ t. transform_point a (vec_of t)) q)

  length_moved : (a : Mat4) → length (map (transform_point a) ps) ≡ n
  unfolding mesh_of
  length_moved a = length-map ps (transform_point a) ∙ mesh_vertices

  -- the counts stay, and the box is that of the moved vertices
  abbrev moved_record : Mat4 → TriMesh
  moved_record a = record_of n k (box_of (map (transform_point a) ps))

  pub stored_moved : (a : Mat4) → stored (moved a (mesh_of s)) s ≡ state (moved_record a) (each_to (moved_triple a) n s.vertices) s.triangles
  unfolding moved each_to mesh_of bounding_box
  stored_moved a =
      let fv = flat (map (moved_triple a) (tris (take (3 * n) s.vertices))) in
      stored_is (moved a (mesh_of s)) s n k (box_of (map (transform_point a) ps)) fv (take (3 * k) s.triangles) (length_moved a) mesh_triangles refl
      (triples a) numbers
      ∙ (λ j. state (moved_record a) (fv ++ drop (3 * n) s.vertices) (take-append-drop (3 * k) s.triangles j))

  pub stored_mirrored : (a : Mat4)
      → stored (flip (moved a (mesh_of s))) s ≡ state (moved_record a) (each_to (moved_triple a) n s.vertices) (each_to flip_tri k s.triangles)
  unfolding flip moved each_to mesh_of bounding_box
  stored_mirrored a =
      let fv = flat (map (moved_triple a) (tris (take (3 * n) s.vertices))) in
      stored_is (flip (moved a (mesh_of s))) s n k (box_of (map (transform_point a) ps)) fv (flat (map flip_tri ts)) (length_moved a)
      (length-map ts flip_tri ∙ mesh_triangles) refl (triples a) refl

-- ---- append
module _ (s o : State) (ok : Sound s) (fine : Sound o) where
  abbrev vn : ℕ
  vn = s.mesh.vertices + o.mesh.vertices

  abbrev tn : ℕ
  tn = s.mesh.triangles + o.mesh.triangles

  abbrev up : ℕ → ℕ
  up i = i + s.mesh.vertices

  pub appended_vertices : length (append (mesh_of s) (mesh_of o)).vertices ≡ vn
  unfolding append
  appended_vertices = length-append (mesh_of s).vertices (mesh_of o).vertices ∙ (λ j. mesh_vertices s ok j + mesh_vertices o fine j)

  pub appended_triangles : length (append (mesh_of s) (mesh_of o)).triangles ≡ tn
  unfolding append
  appended_triangles =
      length-append (mesh_of s).triangles (map (map_tri (λ i. i + length (mesh_of s).vertices)) (mesh_of o).triangles)
      ∙ (λ j. mesh_triangles s ok j + length-map (mesh_of o).triangles (map_tri (λ i. i + length (mesh_of s).vertices)) j)
      ∙ (λ j. s.mesh.triangles + mesh_triangles o fine j)

  floats_append : flat_v (append (mesh_of s) (mesh_of o)).vertices ≡ take (3 * s.mesh.vertices) s.vertices ++ take (3 * o.mesh.vertices) o.vertices
  unfolding append
  floats_append = flatV_append (mesh_of s).vertices (mesh_of o).vertices ∙ (λ j. floats s ok j ++ floats o fine j)

  numbers_append : flat (append (mesh_of s) (mesh_of o)).triangles ≡ take (3 * s.mesh.triangles) s.triangles ++ take (3 * o.mesh.triangles) (map up o.triangles)
  unfolding append
  numbers_append =
      flat_append (mesh_of s).triangles (map (map_tri (λ i. i + length (mesh_of s).vertices)) (mesh_of o).triangles)
      ∙ (λ j. numbers s ok j ++ flat_map (λ i. i + length (mesh_of s).vertices) (mesh_of o).triangles j)
      ∙ (λ j. take (3 * s.mesh.triangles) s.triangles ++ map (λ (i : ℕ). i + mesh_vertices s ok j) (numbers o fine j))
      ∙ ap {B = List ℕ} (λ (r : List ℕ). take (3 * s.mesh.triangles) s.triangles ++ r) (map_take up (3 * o.mesh.triangles) o.triangles)

  three_sum : (a b : ℕ) → 3 * (a + b) ≡ 3 * a + 3 * b
  three_sum a b = omega arith

  pub stored_append : stored (append (mesh_of s) (mesh_of o)) s
      ≡ state (record_of vn tn (bounding_box (append (mesh_of s) (mesh_of o)))) (paste s.vertices (3 * s.mesh.vertices) o.vertices (3 * o.mesh.vertices))
      (paste s.triangles (3 * s.mesh.triangles) (map up o.triangles) (3 * o.mesh.triangles))
  stored_append =
      let fv = take (3 * s.mesh.vertices) s.vertices ++ take (3 * o.mesh.vertices) o.vertices in
      let ft = take (3 * s.mesh.triangles) s.triangles ++ take (3 * o.mesh.triangles) (map up o.triangles) in
      let b = bounding_box (append (mesh_of s) (mesh_of o)) in
      stored_is (append (mesh_of s) (mesh_of o)) s vn tn b fv ft appended_vertices appended_triangles refl floats_append numbers_append
      ∙ (λ j. state (record_of vn tn b) (fv ++ drop (three_sum s.mesh.vertices o.mesh.vertices j) s.vertices)
      (ft ++ drop (three_sum s.mesh.triangles o.mesh.triangles j) s.triangles))
