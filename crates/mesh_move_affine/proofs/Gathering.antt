-- A loop that puts each vertex under a matrix and gathers the box of the vertices after it: what it keeps, one turn of it, and its end. Assumes nothing.
use mathlib.Core.Path.{◌≡◌, sym, ap, ◌∙◌}
use mathlib.Core.List.{List, map}
use Prim.Native.Nat.{ℕ, ◌+◌, ◌*◌, ◌≤◌, ◌<◌}
use native.Mathlib.Omega.{arith}
use lib.ListN.{length, take, length-map}
use lib.Ieee.{Float, nan}
use Rattle.math.specs.declared.Vec3.{Vec3}
use Rattle.math.specs.declared.BoundingBox.{BoundingBox}
use Rattle.math.specs.Box.{empty_box, include}
use Rattle.math_matrix.specs.declared.Mat4.{Mat4}
use Rattle.math_matrix.specs.Mat.{transform_point}
use Rattle.slice_law.specs.Next.{next_map}
use Rattle.mesh_spec.specs.Slices.{points, vec_of, vertex_at}
use Rattle.mesh_spec.specs.Measures.{plus_zero_box}
use Rattle.mesh_triples.specs.Triples.{each_to, moved_triple, put_vertex}
use Rattle.mesh_triples.proofs.NextTriples.{next_points}
use Rattle.mesh_triples.proofs.Each.{each_read}
use Rattle.mesh_triples.proofs.PointLoops.{Moving, moving_start, moving_turn, moving_end}
use Rattle.mesh_box.proofs.Including.{Including, including_start, including_turn, including_end, length_vertices}
use Rattle.mesh_move_affine.specs.Affine.{MovesTo}

-- vertex i is not moved yet
pub unmoved : (a : Mat4) (vs : List Float) (i : ℕ) (out : List Float) → 3 * i ≤ length vs → out ≡ each_to (moved_triple a) i vs → vertex_at out i ≡ vertex_at vs i
unmoved a vs i out h e = ap {B = Vec3} (λ (o : List Float). vertex_at o i) e ∙ ap {B = Vec3} vec_of (each_read (moved_triple a) vs i nan h)

-- the vertices before place i are moved, and b is the box of them
pub record Gathering (a : Mat4) (vs : List Float) (n : ℕ) (out : List Float) (b : BoundingBox) (i : ℕ) : Type 0 where
  pub moved : Moving (transform_point a) vs n out i
  pub bounds : Including (map (transform_point a) (points (take (3 * n) vs))) b i

pub gathering_start : (a : Mat4) (vs : List Float) (n : ℕ) (b : BoundingBox) → b ≡ empty_box → Gathering a vs n vs b 0
gathering_start a vs n b e = record {
  moved = moving_start (transform_point a) vs n;
  bounds = including_start (map (transform_point a) (points (take (3 * n) vs))) b e;
}

module _ (a : Mat4) (vs : List Float) (n : ℕ) (within : 3 * n ≤ length vs) where
  -- p is the point that the code stores and includes
  pub gathering_turn : (out next : List Float) (p : Vec3) (b c : BoundingBox) (i : ℕ) → i < n → p ≡ transform_point a (vertex_at vs i) → next ≡ put_vertex out i p
      → c ≡ include b p → Gathering a vs n out b i → Gathering a vs n next c (i + 1)
  gathering_turn out next p b c i h e w k g = let l = points (take (3 * n) vs) in record {
    moved = moving_turn (transform_point a) vs n within out next p i h
        (e ∙ ap {B = Vec3} (transform_point a) (sym (unmoved a vs i out (omega arith) g.moved.2))) w g.moved;
    bounds = including_turn (map (transform_point a) l) i (transform_point a (vertex_at vs i)) p b c
        (next_map (transform_point a) l i (vertex_at vs i) (next_points vs n i h within))
        e k g.bounds;
  }

  -- r is b with +0.0 for −0.0
  pub gathering_end : (out : List Float) (b r : BoundingBox) (i : ℕ) → n ≤ i → r ≡ plus_zero_box b → Gathering a vs n out b i → MovesTo a n vs r out
  gathering_end out b r i h e g = let l = points (take (3 * n) vs) in record {
    vertices = moving_end (transform_point a) vs n within out i h g.moved;
    bounds = including_end (map (transform_point a) l) i b r (omega (arith, length-map l (transform_point a), length_vertices vs n within)) e g.bounds;
  }
