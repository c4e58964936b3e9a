-- Lists of calls by hand: a tetrahedron is appended to an empty mesh, the mesh is flipped, and a sheet finds no room; boxes that are claimed. All vertices
-- are (0, 0, 0), so the right box is the box of zeros. Assumes nothing.
use Rattle.std.specs.Prelude.{◌≡◌, ◌∷◌}
use Rattle.std.proofs.Common.{◌∙◌}
use Rattle.mesh_spec.specs.Closed.{Closed}
use Rattle.mesh_check.specs.State.{mesh_of, RightBox}
use Rattle.mesh_edit_law.specs.Lists.{after}
use Rattle.mesh_edit_law.proofs.ListsMore.{kept_by_lists}
use Rattle.mesh_edit_law.specs.ListExamples.{calls, start, start_closed, start_right}
use Rattle.mesh_edit_law.proofs.ListExamplesLaws.{calls_bring}

pub after_closed : Closed (mesh_of (after start calls))
after_closed = kept_by_lists.closed start calls start_closed calls_bring

-- the box is right after the list, though the last call is refused
pub after_right : RightBox (after start calls)
after_right = kept_by_lists.right_box start calls start_right
