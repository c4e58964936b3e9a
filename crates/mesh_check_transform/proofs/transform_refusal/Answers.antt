-- `mesh_check_transform::transform_refusal` meets its contract: the checks in their order. Assumes nothing.
use Rattle.std.proofs.Common.{ap}
use mathlib.Core.Path.{◌≡◌, sym, ◌∙◌}
use mathlib.Core.Bool.{true, false, not}
use lib.ListN.{take}
use Rattle.refusal.specs.Answer.{answer_of}
use Rattle.transform.specs.Checks.{too_many_ops, ops_finite}
use Rattle.mesh_check.specs.State.{state, bad_mesh, not_finite}
use Rattle.mesh_check.proofs.Sound.{sound}
use Rattle.slice_law.specs.Bools.{neither}
use Rattle.mesh_check.proofs.Tests.{found_bad_box}
use Rattle.mesh_check_transform.proofs.Tests.{finite_tests, small_box, transform_bad, transform_long, transform_not_finite, transform_bad_box, transform_rest}
use borrow.Author.Rules.{rules}
use Rattle.mesh_check_transform.proofs.transform_refusal.Goals as goal

pub returns-then-bad_mesh : goal.returns-then-bad_mesh
returns-then-bad_mesh c =
    let a = c.args in
    let s = state a.mesh a.vertices.now a.triangles.now in
    transform_bad a.ops.now.ops a.ops.now.count a.ops.now.degrees s (sym c.bad_mesh.ensures ∙ c.if-bad_mesh.true)

pub returns-then-too_many_ops : goal.returns-then-too_many_ops
returns-then-too_many_ops c =
    let a = c.args in
    let s = state a.mesh a.vertices.now a.triangles.now in
    let g : bad_mesh s ≡ false = sym c.bad_mesh.ensures ∙ c.if-bad_mesh.false in
    transform_long a.ops.now.ops a.ops.now.count a.ops.now.degrees s g (sym c.too_many_ops.ensures ∙ c.if-too_many_ops.true)

pub finite_box-found-requires : goal.finite_box-found-requires
finite_box-found-requires c =
    let a = c.args in
    let s = state a.mesh a.vertices.now a.triangles.now in
    let g : bad_mesh s ≡ false = sym c.bad_mesh.ensures ∙ c.if-bad_mesh.false in
    (sound s g).vertices

pub returns-then-not-found-ops_finite : goal.returns-then-not-found-ops_finite
returns-then-not-found-ops_finite c =
    let a = c.args in
    let o = a.ops.now in
    let s = state a.mesh a.vertices.now a.triangles.now in
    let f = c.finite_box-found in
    let g : bad_mesh s ≡ false = sym c.bad_mesh.ensures ∙ c.if-bad_mesh.false in
    let k : too_many_ops o.count ≡ false = sym c.too_many_ops.ensures ∙ c.if-too_many_ops.false in
    let t = finite_tests s f.result f.ensures (take o.count o.ops) c.ops_finite.ensures (ap not c.if-not-found-ops_finite.true) in
    transform_not_finite o.ops o.count o.degrees s g k t

pub returns-then-not-same_box : goal.returns-then-not-same_box
returns-then-not-same_box c =
    let a = c.args in
    let o = a.ops.now in
    let s = state a.mesh a.vertices.now a.triangles.now in
    let f = c.finite_box-found in
    let g : bad_mesh s ≡ false = sym c.bad_mesh.ensures ∙ c.if-bad_mesh.false in
    let k : too_many_ops o.count ≡ false = sym c.too_many_ops.ensures ∙ c.if-too_many_ops.false in
    let t = finite_tests s f.result f.ensures (take o.count o.ops) c.ops_finite.ensures (ap not c.if-not-found-ops_finite.false) in
    transform_bad_box o.ops o.count o.degrees s g k t
    (found_bad_box s f.result f.ensures c.same_box.result true c.same_box.ensures (ap not c.if-not-same_box.true))

pub move_refusal-requires : goal.move_refusal-requires
move_refusal-requires c =
    let a = c.args in
    let o = a.ops.now in
    let s = state a.mesh a.vertices.now a.triangles.now in
    let f = c.finite_box-found in
    let g : bad_mesh s ≡ false = sym c.bad_mesh.ensures ∙ c.if-bad_mesh.false in
    let used = take o.count o.ops in
    let t = finite_tests s f.result f.ensures used c.ops_finite.ensures (ap not c.if-not-found-ops_finite.false) in
    small_box s f.result f.ensures c.shared_slice_known-1.given g (neither (not_finite s) (not (ops_finite used)) t).0
    c.is_small.result c.is_small.ensures

pub returns : goal.returns
returns c =
    let a = c.args in
    let o = a.ops.now in
    let s = state a.mesh a.vertices.now a.triangles.now in
    let f = c.finite_box-found in
    let g : bad_mesh s ≡ false = sym c.bad_mesh.ensures ∙ c.if-bad_mesh.false in
    let k : too_many_ops o.count ≡ false = sym c.too_many_ops.ensures ∙ c.if-too_many_ops.false in
    let t = finite_tests s f.result f.ensures (take o.count o.ops) c.ops_finite.ensures (ap not c.if-not-found-ops_finite.false) in
    transform_rest o.ops o.count o.degrees s g k t
    (found_bad_box s f.result f.ensures c.same_box.result false c.same_box.ensures (ap not c.if-not-same_box.false))
    (answer_of c.move_refusal.result) c.move_refusal.ensures
