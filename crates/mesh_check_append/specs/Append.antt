-- The refusals of `append`, in docs/SCOPE.md's order: 8, 1, 8 for the box, 7. Definitions only.
use Rattle.std.specs.Prelude.{◌||◌, cond, length}
use Rattle.mesh_spec.specs.Mesh.{append}
use Rattle.refusal.specs.Answer.{Answer, Accepted, NotFinite, NoRoom, BadMesh}
use Rattle.mesh_check.specs.State.{State, mesh_of, bad_mesh, not_finite, bad_box, no_room}

-- 8 on either mesh, 1 on either, 8 for the box of either, 7
unfoldable pub append_refusal : State → State → Answer
unfolding no_room
append_refusal s o =
    cond (bad_mesh s || bad_mesh o) BadMesh
    (cond (not_finite s || not_finite o) NotFinite
    (cond (bad_box s || bad_box o) BadMesh
    (cond (no_room (append (mesh_of s) (mesh_of o)) (length s.vertices) (length s.triangles)) NoRoom Accepted)))
