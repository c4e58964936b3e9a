-- The two ends of `move_mesh`: mirrored, or moved alone. Assumes nothing.
use mathlib.Core.Path.{◌≡◌, sym, ap, ◌∙◌}
use mathlib.Core.Bool.{Bool, true, false}
use mathlib.Core.List.{List, map}
use Prim.Native.Nat.{ℕ, ◌*◌}
use lib.ListN.{take}
use lib.Ieee.{Float, binary64, lt, of_bits}
use Rattle.math.specs.declared.BoundingBox.{BoundingBox}
use Rattle.math_matrix.specs.declared.Mat4.{Mat4}
use Rattle.math_matrix.specs.Mat.{determinant, transform_point}
use Rattle.mesh_balance_spec.specs.Soup.{flip_tri}
use Rattle.mesh_spec.specs.Mesh.{Mesh}
use Rattle.mesh_spec.specs.Edits.{transform}
use Rattle.mesh_spec.specs.Slices.{points}
use Rattle.mesh_spec.specs.Measures.{box_of}
use Rattle.mesh_triples.specs.Triples.{each_to}
use Rattle.mesh_move_affine.specs.Affine.{MovesTo}
use Rattle.mesh_check.specs.declared.TriMesh.{TriMesh}
use Rattle.mesh_check.specs.State.{record_of, State, state, mesh_of, stored, Sound}
use Rattle.mesh_check.proofs.Stored.{stored_moved, stored_mirrored}
use Rattle.mesh_check.proofs.Tests.{transform_mirrors, transform_moves}

-- b is the box that was gathered, and r the record that is answered
module _ (s : State) (ok : Sound s) (a : Mat4) (d : Float) (is : d ≡ determinant a) (vs : List Float) (b : BoundingBox)
    (m : MovesTo a s.mesh.vertices s.vertices b vs) (r : TriMesh) (w : r ≡ record_of s.mesh.vertices s.mesh.triangles b) where
  answered : r ≡ record_of s.mesh.vertices s.mesh.triangles (box_of (map (transform_point a) (points (take (3 * s.mesh.vertices) s.vertices))))
  answered = w ∙ ap {B = TriMesh} (record_of s.mesh.vertices s.mesh.triangles) m.bounds

  pub mirrored : (ts : List ℕ) → lt d (of_bits binary64 0) ≡ true → ts ≡ each_to flip_tri s.mesh.triangles s.triangles → state r vs ts ≡ stored (transform a (mesh_of s)) s
  mirrored ts e t =
      (λ j. state (answered j) (m.vertices j) (t j))
      ∙ sym (stored_mirrored s ok a)
      ∙ sym (ap {B = State} (λ (g : Mesh). stored g s) (transform_mirrors a (mesh_of s) (sym (ap {B = Bool} (λ (x : Float). lt x (of_bits binary64 0)) is) ∙ e)))

  pub only_moved : lt d (of_bits binary64 0) ≡ false → state r vs s.triangles ≡ stored (transform a (mesh_of s)) s
  only_moved e =
      (λ j. state (answered j) (m.vertices j) s.triangles)
      ∙ sym (stored_moved s ok a)
      ∙ sym (ap {B = State} (λ (g : Mesh). stored g s) (transform_moves a (mesh_of s) (sym (ap {B = Bool} (λ (x : Float). lt x (of_bits binary64 0)) is) ∙ e)))
