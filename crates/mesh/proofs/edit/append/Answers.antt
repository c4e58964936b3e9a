-- `mesh::edit::append` meets its contract: the refusal, or two copies. Assumes nothing.
use mathlib.Core.Path.{◌≡◌, sym, ◌∙◌}
use mathlib.Core.List.{map}
use Prim.Native.Nat.{ℕ, ◌+◌, ◌*◌}
use lib.Seq.{paste}
use Rattle.mesh_spec.specs.Mesh.{append}
use Rattle.mesh_spec.specs.Measures.{bounding_box}
use Rattle.refusal.specs.Laws.{answer_err, passed_on}
use Rattle.mesh_check.specs.State.{record_of, state, mesh_of, stored}
use Rattle.mesh_check_append.specs.Append.{append_refusal}
use Rattle.mesh_edit_law.specs.Edits.{append_of}
use Rattle.mesh_check.proofs.Stored.{stored_append}
use Rattle.mesh_edit_law.proofs.Given.{gives_kept, gives_done}
use Rattle.mesh.proofs.Accepted.{unrefused, united, appends}
use native.Mathlib.Omega.{arith}
use Rattle.mesh.proofs.edit.append.Goals as goal

pub returns-in_err-union : goal.returns-in_err-union
unfolding append_of
returns-in_err-union c =
    let a = c.args in
    let s = state a.mesh a.vertices.now a.triangles.now in
    let o = state a.other a.other_vertices.now a.other_triangles.now in
    let b = bounding_box (append (mesh_of s) (mesh_of o)) in
    let p = c.in_err-union.field-0.0 in
    gives_kept (append_refusal s o) s (stored (append (mesh_of s) (mesh_of o)) s) c.from_residual.result p (passed_on c.from_residual.result p c.from_residual.ensures.1)
    (answer_err (append_refusal s o) b p c.in_err-union.ensures)

pub overflow_mul-n : goal.overflow_mul-n
overflow_mul-n c =
    let a = c.args in
    let s = state a.mesh a.vertices.now a.triangles.now in
    let o = state a.other a.other_vertices.now a.other_triangles.now in
    let b = bounding_box (append (mesh_of s) (mesh_of o)) in
    let w = appends s o b c.in_ok-union.union c.in_ok-union.ensures in
    omega (arith, w.limit, w.limit_t)

pub overflow_mul-more_n : goal.overflow_mul-more_n
overflow_mul-more_n c =
    let a = c.args in
    let s = state a.mesh a.vertices.now a.triangles.now in
    let o = state a.other a.other_vertices.now a.other_triangles.now in
    let b = bounding_box (append (mesh_of s) (mesh_of o)) in
    let w = appends s o b c.in_ok-union.union c.in_ok-union.ensures in
    omega (arith, w.limit, w.limit_t)

pub overflow_mul-k : goal.overflow_mul-k
overflow_mul-k c =
    let a = c.args in
    let s = state a.mesh a.vertices.now a.triangles.now in
    let o = state a.other a.other_vertices.now a.other_triangles.now in
    let b = bounding_box (append (mesh_of s) (mesh_of o)) in
    let w = appends s o b c.in_ok-union.union c.in_ok-union.ensures in
    omega (arith, w.limit, w.limit_t)

pub overflow_mul-more_k : goal.overflow_mul-more_k
overflow_mul-more_k c =
    let a = c.args in
    let s = state a.mesh a.vertices.now a.triangles.now in
    let o = state a.other a.other_vertices.now a.other_triangles.now in
    let b = bounding_box (append (mesh_of s) (mesh_of o)) in
    let w = appends s o b c.in_ok-union.union c.in_ok-union.ensures in
    omega (arith, w.limit, w.limit_t)

pub overflow_cast-n : goal.overflow_cast-n
overflow_cast-n c =
    let a = c.args in
    let s = state a.mesh a.vertices.now a.triangles.now in
    let o = state a.other a.other_vertices.now a.other_triangles.now in
    let b = bounding_box (append (mesh_of s) (mesh_of o)) in
    let w = appends s o b c.in_ok-union.union c.in_ok-union.ensures in
    omega (arith, w.limit, w.limit_t)

pub overflow_add-n : goal.overflow_add-n
overflow_add-n c =
    let a = c.args in
    let s = state a.mesh a.vertices.now a.triangles.now in
    let o = state a.other a.other_vertices.now a.other_triangles.now in
    let b = bounding_box (append (mesh_of s) (mesh_of o)) in
    let w = appends s o b c.in_ok-union.union c.in_ok-union.ensures in
    omega (arith, w.limit, w.limit_t)

pub overflow_add-k : goal.overflow_add-k
overflow_add-k c =
    let a = c.args in
    let s = state a.mesh a.vertices.now a.triangles.now in
    let o = state a.other a.other_vertices.now a.other_triangles.now in
    let b = bounding_box (append (mesh_of s) (mesh_of o)) in
    let w = appends s o b c.in_ok-union.union c.in_ok-union.ensures in
    omega (arith, w.limit, w.limit_t)

pub copy-requires : goal.copy-requires
copy-requires c =
    let a = c.args in
    let s = state a.mesh a.vertices.now a.triangles.now in
    let o = state a.other a.other_vertices.now a.other_triangles.now in
    let b = bounding_box (append (mesh_of s) (mesh_of o)) in
    let w = appends s o b c.in_ok-union.union c.in_ok-union.ensures in
    omega (arith, w.vertices, w.fine.vertices)

pub copy_up-requires : goal.copy_up-requires
copy_up-requires c =
    let a = c.args in
    let s = state a.mesh a.vertices.now a.triangles.now in
    let o = state a.other a.other_vertices.now a.other_triangles.now in
    let b = bounding_box (append (mesh_of s) (mesh_of o)) in
    let w = appends s o b c.in_ok-union.union c.in_ok-union.ensures in
    (omega (arith, w.triangles), omega (arith, w.fine.triangles), λ i q. w.fits i (omega arith))

pub returns : goal.returns
unfolding append_of
returns c =
    let a = c.args in
    let s = state a.mesh a.vertices.now a.triangles.now in
    let o = state a.other a.other_vertices.now a.other_triangles.now in
    let b = bounding_box (append (mesh_of s) (mesh_of o)) in
    let w = appends s o b c.in_ok-union.union c.in_ok-union.ensures in
    let vs = paste s.vertices (3 * s.mesh.vertices) o.vertices (3 * o.mesh.vertices) in
    let ts = paste s.triangles (3 * s.mesh.triangles) (map (λ (i : ℕ). i + s.mesh.vertices) o.triangles) (3 * o.mesh.triangles) in
    let m = c.record_of in
    let q : m.result ≡ record_of (s.mesh.vertices + o.mesh.vertices) (s.mesh.triangles + o.mesh.triangles) b
    = m.ensures
    ∙ (λ j. record_of (s.mesh.vertices + o.mesh.vertices) (s.mesh.triangles + o.mesh.triangles)
    (united s o b c.in_ok-union.union c.in_ok-union.ensures j)) in
    gives_done (append_refusal s o) s (stored (append (mesh_of s) (mesh_of o)) s) a.mesh (state m.result vs ts) c.copy.new.out c.copy_up.new.out
    (unrefused s o b c.in_ok-union.union c.in_ok-union.ensures)
    (stored_append s o w.ok w.fine ∙ (λ j. state (sym q j) vs ts)) c.copy.ensures c.copy_up.ensures
