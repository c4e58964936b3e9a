-- `mesh_closed::count_uses` meets its contract: n and the uses in what is left are the uses in the whole. Assumes nothing.
use native.Mathlib.Omega.{arith}
use Rattle.mesh_balance_spec.specs.Buffer.{tris}
use Rattle.mesh_triples.specs.Triples.{triple_at}
use Rattle.mesh_triples.proofs.NextTriples.{next_tris}
use Rattle.mesh_closed.proofs.Counts.{length_tris_whole, uses_most, uses_turn, uses_end}
use Rattle.mesh_closed.proofs.count_uses.Goals as goal

pub loop-i-init : goal.loop-i-init
loop-i-init c = omega arith

pub triangle_uses-n-requires : goal.triangle_uses-n-requires
triangle_uses-n-requires c = omega arith

pub loop-i-preserved : goal.loop-i-preserved
loop-i-preserved c =
    let a = c.args in
    let l = c.loop-i in
    let t = a.t.now in
    uses_turn a.u a.v (tris t) l.i l.n c.triangle_uses-n.result (triple_at t l.i 0) (next_tris t l.i 0 (omega arith)) c.triangle_uses-n.ensures l.invariant

pub overflow_add-n : goal.overflow_add-n
overflow_add-n c =
    let a = c.args in
    let l = c.loop-i in
    let t = a.t.now in
    omega (arith, uses_turn a.u a.v (tris t) l.i l.n c.triangle_uses-n.result (triple_at t l.i 0) (next_tris t l.i 0 (omega arith)) c.triangle_uses-n.ensures l.invariant, uses_most a.u a.v (tris t), length_tris_whole t)

pub returns : goal.returns
returns c =
    let a = c.args in
    let l = c.loop-i in
    let t = a.t.now in
    uses_end a.u a.v (tris t) l.i l.n (omega (arith, length_tris_whole t)) l.invariant
