-- `mesh_closed::closed` meets its contract: the triangles that are left pass the test where all do. Assumes nothing.
use mathlib.Core.Path.{refl, sym, ◌∙◌}
use mathlib.Core.Bool.{true, false}
use native.Mathlib.Omega.{arith}
use Rattle.mesh_balance_spec.specs.Buffer.{tris}
use Rattle.slice.specs.EveryLaws.{every_end}
use Rattle.mesh_triples.specs.Triples.{triple_at}
use Rattle.mesh_triples.proofs.NextTriples.{next_tris}
use Rattle.mesh_closed.specs.Even.{closed_triangle}
use Rattle.mesh_closed.proofs.Counts.{length_tris_whole}
use Rattle.mesh_closed.proofs.ClosedTests.{every_fails, every_passes, closed_test}
use Rattle.mesh_closed.proofs.closed.Goals as goal

pub loop-i-init : goal.loop-i-init
loop-i-init c = refl

pub triangle_closed-requires : goal.triangle_closed-requires
triangle_closed-requires c = omega arith

pub returns-then-not-triangle_closed : goal.returns-then-not-triangle_closed
returns-then-not-triangle_closed c =
    let a = c.args in
    let m = a.n in
    let t = a.t.now in
    let l = c.loop-i in
    let n = next_tris t l.i 0 (omega arith) in
    let e = c.if-not-triangle_closed.true in
    let r = c.triangle_closed.result in
    closed_test m (tris t) false (every_fails (closed_triangle m (tris t)) (tris t) l.i (triple_at t l.i 0) r n c.triangle_closed.ensures e l.invariant)

pub loop-i-preserved : goal.loop-i-preserved
loop-i-preserved c =
    let a = c.args in
    let m = a.n in
    let t = a.t.now in
    let l = c.loop-i in
    let n = next_tris t l.i 0 (omega arith) in
    let e = c.if-not-triangle_closed.false in
    every_passes (closed_triangle m (tris t)) (tris t) l.i (triple_at t l.i 0) c.triangle_closed.result n c.triangle_closed.ensures e l.invariant

pub returns : goal.returns
returns c =
    let a = c.args in
    let m = a.n in
    let t = a.t.now in
    let l = c.loop-i in
    closed_test m (tris t) true (sym (every_end (closed_triangle m (tris t)) (tris t) l.i (omega (arith, length_tris_whole t))) ∙ l.invariant)
