-- A mesh under a matrix. Assumes nothing.
use mathlib.Core.Path.{◌≡◌, refl, sym, ap, ◌∙◌}
use mathlib.Core.Bool.{Bool, true, false, not, ◌&&◌, cond}
use mathlib.Core.List.{List, map}
use Prim.Native.Nat.{ℕ, ◌*◌, ◌≤◌, ◌<◌}
use lib.ListN.{take}
use lib.Dec.{eqb}
use lib.Ieee.{Float, binary64, lt, of_bits}
use Rattle.math.specs.declared.Vec3.{Vec3}
use Rattle.math_matrix.specs.declared.Mat4.{Mat4}
use Rattle.math_matrix.specs.Mat.{transform_point, determinant}
use Rattle.math.specs.Vec.{v_finite}
use Rattle.transform.specs.declared.TransformOp.{TransformOp}
use Rattle.transform.specs.Ops.{folded}
use Rattle.mesh_balance_spec.specs.Soup.{flip_tri}
use Rattle.mesh_spec.specs.Mesh.{Mesh}
use Rattle.mesh_spec.specs.Edits.{transform}
use Rattle.mesh_spec.specs.Slices.{points}
use Rattle.refusal.specs.Answer.{Answer, Accepted, PointNotFinite}
use Rattle.slice.specs.Every.{every}
use Rattle.mesh_check.specs.State.{State, state, mesh_of, stored, Sound}
use Rattle.mesh_triples.specs.Triples.{each_to, moved_triple}
use Rattle.mesh_check.proofs.Stored.{stored_moved, stored_mirrored}
use Rattle.mesh_check.proofs.Tests.{transform_mirrors, transform_moves, transform_vertices}
use Rattle.tessellate_spec.specs.Outcome.{placed, bad_placed}
use Rattle.tessellate_place.specs.Ends.{moved_refusal, placed_refusal}

-- ---- the test of the transformed vertices
module _ (a : Mat4) (s : State) (r : Bool) (is : r ≡ every v_finite (map (transform_point a) (points (take (3 * s.mesh.vertices) s.vertices)))) where
  tested : every v_finite (transform a (mesh_of s)).vertices ≡ r
  unfolding mesh_of
  tested = ap {B = Bool} (λ (l : List Vec3). every v_finite l) (transform_vertices a (mesh_of s)) ∙ sym is

  pub moved_refused : r ≡ false → PointNotFinite ≡ moved_refusal a (mesh_of s)
  unfolding moved_refusal
  moved_refused e = rw (tested ∙ e)

  pub moved_accepted : r ≡ true → Accepted ≡ moved_refusal a (mesh_of s)
  unfolding moved_refusal
  moved_accepted e = rw (tested ∙ e)

-- ---- the operations
module _ (degrees : Bool) (ops : List TransformOp) (count : ℕ) (m : Mesh) where
  abbrev a : Mat4
  a = folded degrees (take count ops)

  -- both, by whether there are no operations
  refusal_at : {b : Bool} → eqb count 0 ≡ b
      → placed_refusal degrees ops count m ≡ cond (not b && not (every v_finite (cond b m (transform a m)).vertices)) PointNotFinite Accepted
  unfolding bad_placed
  refusal_at e = ap {B = Answer} (λ (b : Bool). cond (not b && not (every v_finite (cond b m (transform a m)).vertices)) PointNotFinite Accepted) e

  mesh_at : {b : Bool} → eqb count 0 ≡ b → placed degrees ops count m ≡ cond b m (transform a m)
  unfolding placed
  mesh_at e = ap {B = Mesh} (λ (b : Bool). cond b m (transform a m)) e

  turned_test : (b : Bool) → cond b Accepted PointNotFinite ≡ cond (not b) PointNotFinite Accepted
  turned_test true = refl
  turned_test false = refl

  pub placed_moves : eqb count 0 ≡ false → (moved_refusal a m ≡ placed_refusal degrees ops count m) × (transform a m ≡ placed degrees ops count m)
  unfolding moved_refusal bad_placed
  placed_moves e = (turned_test (every v_finite (transform a m).vertices) ∙ sym (refusal_at e), sym (mesh_at e))

  pub placed_none : eqb count 0 ≡ true → (Accepted ≡ placed_refusal degrees ops count m) × (m ≡ placed degrees ops count m)
  unfolding bad_placed
  placed_none e = (sym (refusal_at e), sym (mesh_at e))
