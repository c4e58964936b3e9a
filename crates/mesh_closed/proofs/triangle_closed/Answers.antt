-- `mesh_closed::triangle_closed` meets its contract. Assumes nothing.
use mathlib.Core.Path.{ap}
use mathlib.Core.Bool.{Bool, ◌&&◌}
use Prim.Native.Nat.{◌+◌, ◌*◌}
use Rattle.mesh_spec.specs.Mesh.{distinct}
use Rattle.mesh_spec.specs.Closed.{below}
use Rattle.mesh_triples.specs.Triples.{triple_at}
use Rattle.mesh_closed.specs.Even.{closed_triangle}
use native.Mathlib.Omega.{arith}
use Rattle.mesh_closed.proofs.triangle_closed.Goals as goal

pub overflow_cast-there : goal.overflow_cast-there
overflow_cast-there c = omega (arith, c.shared_slice_known-4-1.given (3 * c.args.i))

pub overflow_cast-there-2 : goal.overflow_cast-there-2
overflow_cast-there-2 c = omega (arith, c.shared_slice_known-4-1.given (3 * c.args.i + 1))

pub overflow_cast-there-3 : goal.overflow_cast-there-3
overflow_cast-there-3 c = omega (arith, c.shared_slice_known-4-1.given (3 * c.args.i + 2))

pub returns : goal.returns
unfolding closed_triangle
returns c =
    let a = c.args in
    let t = triple_at a.t.now a.i 0 in
    ap {B = Bool} (λ (b : Bool). distinct t && below a.n t && b) c.triangle_even.ensures
