-- `mesh_check::refusals::check` meets its contract: the checks in their order, and the box. Assumes nothing.
use Rattle.std.proofs.Common.{ap, not}
use mathlib.Core.Path.{sym, ◌∙◌}
use mathlib.Core.Bool.{true, false}
use Rattle.mesh_spec.specs.Measures.{bounding_box}
use Rattle.refusal.specs.Answer.{Answer, answer_with}
use Rattle.mesh_check.specs.State.{state, mesh_of}
use Rattle.mesh_check.proofs.Sound.{sound}
use Rattle.mesh_check.proofs.Tests.{found_bounds, found_not_finite, found_bad_box, check_bad, check_not_finite, check_bad_box, check_accepted}
use native.Mathlib.Omega.{arith}
use Rattle.mesh_check.proofs.refusals.check.Goals as goal

pub returns-then-bad_mesh : goal.returns-then-bad_mesh
returns-then-bad_mesh c =
    let a = c.args in
    let s = state a.mesh a.vertices.now a.triangles.now in
    ap (λ (q : Answer). answer_with q (bounding_box (mesh_of s))) (check_bad s (sym c.if-bad_mesh.ensures))

pub finite_box-found-requires : goal.finite_box-found-requires
finite_box-found-requires c =
    let a = c.args in
    let s = state a.mesh a.vertices.now a.triangles.now in
    omega (arith, (sound s (sym c.if-bad_mesh.ensures)).vertices)

pub returns-then-not-found : goal.returns-then-not-found
returns-then-not-found c =
    let a = c.args in
    let s = state a.mesh a.vertices.now a.triangles.now in
    let f = c.finite_box-found in
    let h = found_not_finite s f.result f.ensures true c.if-not-found.true in
    ap (λ (q : Answer). answer_with q (bounding_box (mesh_of s))) (check_not_finite s (sym c.if-bad_mesh.ensures) h)

pub returns-then-not-right : goal.returns-then-not-right
returns-then-not-right c =
    let a = c.args in
    let s = state a.mesh a.vertices.now a.triangles.now in
    let f = c.finite_box-found in
    let h = found_not_finite s f.result f.ensures false c.if-not-found.false in
    let w = found_bad_box s f.result f.ensures c.same_box-right.result true c.same_box-right.ensures (ap not c.if-not-right.true) in
    ap (λ (q : Answer). answer_with q (bounding_box (mesh_of s))) (check_bad_box s (sym c.if-bad_mesh.ensures) h w)

pub returns : goal.returns
returns c =
    let a = c.args in
    let s = state a.mesh a.vertices.now a.triangles.now in
    let f = c.finite_box-found in
    let h = found_not_finite s f.result f.ensures false c.if-not-found.false in
    let w = found_bad_box s f.result f.ensures c.same_box-right.result false c.same_box-right.ensures (ap not c.if-not-right.false) in
    λ j. answer_with (check_accepted s (sym c.if-bad_mesh.ensures) h w j) (found_bounds s f.result f.ensures j)
