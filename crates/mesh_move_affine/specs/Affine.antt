-- A matrix that ends with the row 0 0 0 1 moves a finite point without a division. Definitions only.
use Rattle.std.specs.Prelude.{◌≡◌, Bool, true, List, map, ℕ, ◌*◌, ◌≤◌, ◌<◌, length, take, T, Float}
use Rattle.std.specs.Float.Ieee.Scale.{finite}
use Rattle.ieee.specs.Number.{is_zero}
use Rattle.math.specs.declared.Vec3.{Vec3}
use Rattle.math.specs.declared.BoundingBox.{BoundingBox}
use Rattle.math_matrix.specs.declared.Mat4.{Mat4}
use Rattle.math.specs.Vec.{one, new}
use Rattle.math_matrix.specs.Mat.{entry, row_of, along, transform_point}
use Rattle.mesh_spec.specs.Slices.{points, vertex_at}
use Rattle.mesh_spec.specs.Measures.{box_of}
use Rattle.mesh_triples.specs.Triples.{each_to, moved_triple}
use Rattle.slice.specs.Every.{every}
use Rattle.slice_bounded.specs.Bounded.{is_bounded}

-- the last row is 0 0 0 1; either zero will do
pub record Affine (a : Mat4) : Type 0 where
  pub x : T (is_zero (entry a 3 0))
  pub y : T (is_zero (entry a 3 1))
  pub z : T (is_zero (entry a 3 2))
  pub w : entry a 3 3 ≡ one

-- the point under the first three rows
unfoldable pub affine_point : Mat4 → Vec3 → Vec3
unfolding along
affine_point a p = new (along (row_of a 0) p) (along (row_of a 1) p) (along (row_of a 2) p)

-- n finite vertices in the slice
pub record FiniteVertices (vs : List Float) (n : ℕ) : Type 0 where
  pub within : 3 * n ≤ length vs
  pub finite : every finite (take (3 * n) vs) ≡ true

-- the same, and an affine matrix to move them by
pub record Movable (vs : List Float) (n : ℕ) (a : Mat4) : Type 0 where
  pub vertices : FiniteVertices vs n
  pub affine : Affine a

-- at each of the first n vertices of the slice, what `gives` relates to it is the value of f there
abbrev pub Computes : (Vec3 → Vec3 → Type 0) → (Vec3 → Vec3) → List Float → ℕ → Type 0
Computes gives f vs n = (i : ℕ) → i < n → (q : Vec3) → gives (vertex_at vs i) q → q ≡ f (vertex_at vs i)

-- the first n vertices of the slice vs put under a matrix: the slice after it, and r, the box of these vertices after it
pub record MovesTo (a : Mat4) (n : ℕ) (vs : List Float) (r : BoundingBox) (vs' : List Float) : Type 0 where
  pub vertices : vs' ≡ each_to (moved_triple a) n vs
  pub bounds : r ≡ box_of (map (transform_point a) (points (take (3 * n) vs)))

-- the entries of the first three rows lie from -2^400 to 2^400
abbrev pub RowsWithin : Mat4 → Type 0
RowsWithin a = (i j : ℕ) → i < 3 → j < 4 → T (is_bounded (entry a i j))

-- an affine matrix whose other rows lie from -2^400 to 2^400
pub record BoundedMatrix (a : Mat4) : Type 0 where
  pub affine : Affine a
  pub rows : RowsWithin a

-- n finite vertices in the slice; where `small` is true, they lie from -2^400 to 2^400
pub record Tested (vs : List Float) (n : ℕ) (small : Bool) : Type 0 where
  pub vertices : FiniteVertices vs n
  pub bounded : small ≡ true → every is_bounded (take (3 * n) vs) ≡ true
