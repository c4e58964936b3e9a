-- `mesh_check_transform::move_refusal` meets its contract: the checks in their order. Assumes nothing.
use mathlib.Core.Path.{sym, ◌∙◌}
use mathlib.Core.Bool.{true, false}
use Prim.Native.Nat.{◌*◌}
use lib.ListN.{take}
use borrow.Author.Tests.{not-true, not-false, eq-eqb, ne_eqb}
use Rattle.mesh_spec.specs.Slices.{points}
use Rattle.mesh_check_transform.proofs.Tests.{move_angle, move_none, move_points}
use borrow.Author.Rules.{rules}
use Rattle.mesh_check_transform.proofs.move_refusal.Goals as goal

pub returns-then-not-ops_angles_within : goal.returns-then-not-ops_angles_within
returns-then-not-ops_angles_within c =
    let a = c.args in
    let ps = points (take (3 * a.n) a.vertices.now) in
    let w = sym c.ops_angles_within.ensures ∙ c.if-not-ops_angles_within.true in
    move_angle a.ops.now.ops a.ops.now.count a.ops.now.degrees ps w

pub returns-then-ops-eq0 : goal.returns-then-ops-eq0
returns-then-ops-eq0 c =
    let a = c.args in
    let ps = points (take (3 * a.n) a.vertices.now) in
    let w = sym c.ops_angles_within.ensures ∙ c.if-not-ops_angles_within.false in
    move_none a.ops.now.ops a.ops.now.count a.ops.now.degrees ps w (eq-eqb a.ops.now.count 0 c.if-ops-eq0.true)

pub tested_stay_finite-requires : goal.tested_stay_finite-requires
tested_stay_finite-requires c = c.requires

pub returns-then-not-tested_stay_finite : goal.returns-then-not-tested_stay_finite
returns-then-not-tested_stay_finite c =
    let a = c.args in
    let ps = points (take (3 * a.n) a.vertices.now) in
    let w = sym c.ops_angles_within.ensures ∙ c.if-not-ops_angles_within.false in
    let z = ne_eqb a.ops.now.count 0 c.if-ops-eq0.false in
    let fold = c.fold in
    let keep = c.tested_stay_finite in
    move_points a.ops.now.ops a.ops.now.count a.ops.now.degrees ps w z fold.result keep.result false fold.ensures keep.ensures c.if-not-tested_stay_finite.true

pub returns : goal.returns
returns c =
    let a = c.args in
    let ps = points (take (3 * a.n) a.vertices.now) in
    let w = sym c.ops_angles_within.ensures ∙ c.if-not-ops_angles_within.false in
    let z = ne_eqb a.ops.now.count 0 c.if-ops-eq0.false in
    let fold = c.fold in
    let keep = c.tested_stay_finite in
    move_points a.ops.now.ops a.ops.now.count a.ops.now.degrees ps w z fold.result keep.result true fold.ensures keep.ensures c.if-not-tested_stay_finite.false
