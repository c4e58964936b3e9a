-- `mesh_closed::triangle_uses` meets its contract. Assumes nothing.
use native.Mathlib.Omega.{arith}
use Rattle.mesh_triples.specs.Triples.{triple_at}
use Rattle.mesh_closed.proofs.Counts.{round_most}
use Rattle.mesh_closed.proofs.triangle_uses.Goals as goal

pub overflow_add-result : goal.overflow_add-result
overflow_add-result c =
    let a = c.args in
    omega (arith, round_most a.u a.v (triple_at a.t.now a.i 0))

pub overflow_add-result-2 : goal.overflow_add-result-2
overflow_add-result-2 c =
    let a = c.args in
    omega (arith, round_most a.u a.v (triple_at a.t.now a.i 0))
