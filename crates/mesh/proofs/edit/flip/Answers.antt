-- `mesh::edit::flip` meets its contract: the refusal, or the loop. Assumes nothing.
use mathlib.Core.Path.{refl, sym, ◌∙◌}
use Rattle.mesh_balance_spec.specs.Soup.{flip_tri}
use Rattle.mesh_spec.specs.Mesh.{flip}
use Rattle.mesh_spec.specs.Measures.{bounding_box}
use Rattle.refusal.specs.Answer.{Accepted}
use Rattle.refusal.specs.Laws.{answer_ok, answer_err, passed_on}
use Rattle.mesh_check.specs.State.{record_of, state, mesh_of, stored, check_of}
use Rattle.mesh_edit_law.specs.Edits.{flip_of}
use Rattle.mesh_triples.specs.Triples.{each_to}
use Rattle.mesh_check.proofs.Stored.{stored_flip}
use Rattle.mesh_edit_law.proofs.Given.{gives_kept, gives_done}
use Rattle.mesh_check.proofs.Sound.{check_sound}
use native.Mathlib.Omega.{arith}
use Rattle.mesh.proofs.edit.flip.Goals as goal

pub returns-in_err-bounds : goal.returns-in_err-bounds
unfolding flip_of
returns-in_err-bounds c =
    let a = c.args in
    let s = state a.mesh a.vertices.now a.triangles.now in
    let p = c.in_err-bounds.field-0.0 in
    gives_kept (check_of s) s (stored (flip (mesh_of s)) s) c.from_residual.result p (passed_on c.from_residual.result p c.from_residual.ensures.1)
    (answer_err (check_of s) (bounding_box (mesh_of s)) p c.in_err-bounds.ensures)

pub turn_all-requires : goal.turn_all-requires
turn_all-requires c =
    let a = c.args in
    let s = state a.mesh a.vertices.now a.triangles.now in
    let e = answer_ok (check_of s) (bounding_box (mesh_of s)) c.in_ok-bounds.bounds c.in_ok-bounds.ensures in
    omega (arith, (check_sound s Accepted (sym e.0) refl).triangles)

pub returns : goal.returns
unfolding flip_of
returns c =
    let a = c.args in
    let s = state a.mesh a.vertices.now a.triangles.now in
    let b = c.in_ok-bounds.bounds in
    let e = answer_ok (check_of s) (bounding_box (mesh_of s)) b c.in_ok-bounds.ensures in
    let ts = each_to flip_tri s.mesh.triangles s.triangles in
    gives_done (check_of s) s (stored (flip (mesh_of s)) s) a.mesh (state (record_of s.mesh.vertices s.mesh.triangles b) s.vertices ts) s.vertices
    c.turn_all.new.triangles (sym e.0)
    (stored_flip s (check_sound s Accepted (sym e.0) refl) ∙ (λ j. state (record_of s.mesh.vertices s.mesh.triangles (sym e.1 j)) s.vertices ts))
    refl c.turn_all.ensures
