-- `append`, `flip` and `transform` of a mesh in lent slices. Definitions only.
use Rattle.std.specs.Prelude.{Bool, cond, List, ℕ, eqb}
use Rattle.transform.specs.declared.TransformOp.{TransformOp}
use Rattle.mesh_spec.specs.Mesh.{append, flip}
use Rattle.mesh_check.specs.State.{State, mesh_of, stored, check_of}
use Rattle.mesh_check_append.specs.Append.{append_refusal}
use Rattle.mesh_check_transform.specs.Transform.{transformed, transform_refusal}
use Rattle.mesh_edit_law.specs.Outcome.{EditOutcome, edited}

-- `append` of the second mesh to the first
unfoldable pub append_of : State → State → EditOutcome
unfolding append_refusal edited
append_of s o = edited (append_refusal s o) s (stored (append (mesh_of s) (mesh_of o)) s)

-- `flip`
unfoldable pub flip_of : State → EditOutcome
unfolding edited
flip_of s = edited (check_of s) s (stored (flip (mesh_of s)) s)

-- `transform`; no operations leave the mesh untouched
unfoldable pub transform_of : List TransformOp → ℕ → Bool → State → EditOutcome
unfolding transform_refusal transformed edited
transform_of ops count degrees s =
    edited (transform_refusal ops count degrees s) s (cond (eqb count 0) s (stored (transformed ops count degrees (mesh_of s)) s))
