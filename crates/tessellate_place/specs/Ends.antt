-- What the contracts of `tessellate_place` cite: refusal 5 over transformed vertices. Definitions only.
use Rattle.std.specs.Prelude.{Bool, cond, List, ℕ}
use Rattle.math_matrix.specs.declared.Mat4.{Mat4}
use Rattle.math.specs.Vec.{v_finite}
use Rattle.transform.specs.declared.TransformOp.{TransformOp}
use Rattle.refusal.specs.Answer.{Answer, Accepted, PointNotFinite}
use Rattle.mesh_spec.specs.Mesh.{Mesh}
use Rattle.mesh_spec.specs.Edits.{transform}
use Rattle.slice.specs.Every.{every}
use Rattle.tessellate_spec.specs.Outcome.{bad_placed}

-- docs/SCOPE.md's refusal 5 over the vertices of a mesh under a matrix
unfoldable pub moved_refusal : Mat4 → Mesh → Answer
moved_refusal a m = cond (every v_finite (transform a m).vertices) Accepted PointNotFinite

-- the same under the operations, as `refusal_of` has it last
abbrev pub placed_refusal : Bool → List TransformOp → ℕ → Mesh → Answer
placed_refusal degrees ops count m = cond (bad_placed degrees ops count m) PointNotFinite Accepted
