-- `mesh_check_append::check_append` meets its contract: the checks in their order, and the union of the boxes. Assumes nothing.
use Rattle.std.proofs.Common.{ap, not}
use mathlib.Core.Path.{◌∙◌}
use lib.ListN.{length}
use Rattle.mesh_spec.specs.Mesh.{append}
use Rattle.mesh_spec.specs.Measures.{bounding_box}
use Rattle.refusal.specs.Answer.{Answer, answer_with}
use Rattle.mesh_check.specs.State.{state, mesh_of, bad_mesh}
use Rattle.mesh_check.proofs.Sound.{sound, vertices_fit, triangles_fit, places_limit}
use Rattle.slice_law.specs.Bools.{neither}
use Rattle.mesh_check_append.proofs.Tests.{bad_test, finite_tests, box_tests, union_box, room_test}
use Rattle.mesh_check_append.proofs.Tests.{append_bad, append_not_finite, append_bad_box, append_no_room, append_accepted}
use borrow.Author.Rules.{rules}
use native.Mathlib.Omega.{arith}
use Rattle.mesh_check_append.proofs.check_append.Goals as goal

pub returns-then-bad_mesh : goal.returns-then-bad_mesh
returns-then-bad_mesh c =
    let a = c.args in
    let s = state a.mesh a.vertices.now a.triangles.now in
    let o = state a.other a.other_vertices.now a.other_triangles.now in
    ap (λ (q : Answer). answer_with q (bounding_box (append (mesh_of s) (mesh_of o))))
    (append_bad s o (bad_test s o c.bad_mesh.ensures c.bad_mesh-2.ensures c.if-bad_mesh.true))

pub finite_box-found-requires : goal.finite_box-found-requires
finite_box-found-requires c =
    let a = c.args in
    let s = state a.mesh a.vertices.now a.triangles.now in
    let o = state a.other a.other_vertices.now a.other_triangles.now in
    (sound s (neither (bad_mesh s) (bad_mesh o) (bad_test s o c.bad_mesh.ensures c.bad_mesh-2.ensures c.if-bad_mesh.false)).0).vertices

pub finite_box-more-requires : goal.finite_box-more-requires
finite_box-more-requires c =
    let a = c.args in
    let s = state a.mesh a.vertices.now a.triangles.now in
    let o = state a.other a.other_vertices.now a.other_triangles.now in
    (sound o (neither (bad_mesh s) (bad_mesh o) (bad_test s o c.bad_mesh.ensures c.bad_mesh-2.ensures c.if-bad_mesh.false)).1).vertices

pub returns-then-not-finite : goal.returns-then-not-finite
returns-then-not-finite c =
    let a = c.args in
    let s = state a.mesh a.vertices.now a.triangles.now in
    let o = state a.other a.other_vertices.now a.other_triangles.now in
    let f = c.finite_box-found in
    let g = c.finite_box-more in
    let d = bad_test s o c.bad_mesh.ensures c.bad_mesh-2.ensures c.if-bad_mesh.false in
    ap (λ (q : Answer). answer_with q (bounding_box (append (mesh_of s) (mesh_of o))))
    (append_not_finite s o d (finite_tests s o f.result g.result f.ensures g.ensures (ap not c.if-not-finite.true)))

pub returns-then-not-right : goal.returns-then-not-right
returns-then-not-right c =
    let a = c.args in
    let s = state a.mesh a.vertices.now a.triangles.now in
    let o = state a.other a.other_vertices.now a.other_triangles.now in
    let f = c.finite_box-found in
    let g = c.finite_box-more in
    let d = bad_test s o c.bad_mesh.ensures c.bad_mesh-2.ensures c.if-bad_mesh.false in
    let p = finite_tests s o f.result g.result f.ensures g.ensures (ap not c.if-not-finite.false) in
    ap (λ (q : Answer). answer_with q (bounding_box (append (mesh_of s) (mesh_of o))))
    (append_bad_box s o d p (box_tests s o f.result g.result f.ensures g.ensures c.same_box.ensures c.same_box-2.ensures (ap not c.if-not-right.true)))

pub overflow_add-mesh : goal.overflow_add-mesh
overflow_add-mesh c =
    let a = c.args in
    let s = state a.mesh a.vertices.now a.triangles.now in
    let o = state a.other a.other_vertices.now a.other_triangles.now in
    let l = neither (bad_mesh s) (bad_mesh o) (bad_test s o c.bad_mesh.ensures c.bad_mesh-2.ensures c.if-bad_mesh.false) in
    let m = places_limit s.mesh.vertices (length s.vertices) (vertices_fit s l.0) in
    omega (arith, m, places_limit o.mesh.vertices (length o.vertices) (vertices_fit o l.1))

pub overflow_add-mesh-2 : goal.overflow_add-mesh-2
overflow_add-mesh-2 c =
    let a = c.args in
    let s = state a.mesh a.vertices.now a.triangles.now in
    let o = state a.other a.other_vertices.now a.other_triangles.now in
    let l = neither (bad_mesh s) (bad_mesh o) (bad_test s o c.bad_mesh.ensures c.bad_mesh-2.ensures c.if-bad_mesh.false) in
    let m = places_limit s.mesh.triangles (length s.triangles) (triangles_fit s l.0) in
    omega (arith, m, places_limit o.mesh.triangles (length o.triangles) (triangles_fit o l.1))

pub returns-then-counted_places-mesh : goal.returns-then-counted_places-mesh
returns-then-counted_places-mesh c =
    let a = c.args in
    let s = state a.mesh a.vertices.now a.triangles.now in
    let o = state a.other a.other_vertices.now a.other_triangles.now in
    let f = c.finite_box-found in
    let g = c.finite_box-more in
    let d = bad_test s o c.bad_mesh.ensures c.bad_mesh-2.ensures c.if-bad_mesh.false in
    let l = neither (bad_mesh s) (bad_mesh o) d in
    let p = finite_tests s o f.result g.result f.ensures g.ensures (ap not c.if-not-finite.false) in
    let q = box_tests s o f.result g.result f.ensures g.ensures c.same_box.ensures c.same_box-2.ensures (ap not c.if-not-right.false) in
    ap (λ (q : Answer). answer_with q (bounding_box (append (mesh_of s) (mesh_of o))))
    (append_no_room s o d p q (room_test s o (sound s l.0) (sound o l.1) c.counted_places.ensures c.counted_places-2.ensures c.if-counted_places-mesh.true))

pub returns : goal.returns
returns c =
    let a = c.args in
    let s = state a.mesh a.vertices.now a.triangles.now in
    let o = state a.other a.other_vertices.now a.other_triangles.now in
    let f = c.finite_box-found in
    let g = c.finite_box-more in
    let d = bad_test s o c.bad_mesh.ensures c.bad_mesh-2.ensures c.if-bad_mesh.false in
    let l = neither (bad_mesh s) (bad_mesh o) d in
    let p = finite_tests s o f.result g.result f.ensures g.ensures (ap not c.if-not-finite.false) in
    let q = box_tests s o f.result g.result f.ensures g.ensures c.same_box.ensures c.same_box-2.ensures (ap not c.if-not-right.false) in
    let w = append_accepted s o d p q
    (room_test s o (sound s l.0) (sound o l.1) c.counted_places.ensures c.counted_places-2.ensures c.if-counted_places-mesh.false) in
    let u = c.union.ensures ∙ union_box s o f.result g.result f.ensures g.ensures c.shared_slice_known-1.given c.shared_slice_known-3-1.given in
    λ j. answer_with (w j) (u j)
