-- `solid_box::param_box::weld_param_box` meets its contract. Assumes nothing.
use native.Mathlib.Omega.{arith}
use Rattle.solid_box.proofs.param_box.weld_param_box.Goals as goal

pub weld_sized-requires : goal.weld_sized-requires
weld_sized-requires c =
    let p = c.requires in
    let few = c.if-x-le64.true in
    record { ready = p.ready; n_bound = (p.n_bound, omega arith, omega (arith, few), omega arith) }

pub weld_sized-requires-else-x-le64 : goal.weld_sized-requires-else-x-le64
weld_sized-requires-else-x-le64 c =
    let p = c.requires in
    record { ready = p.ready; n_bound = (p.n_bound, omega arith, omega (arith, p.n_bound), omega arith) }
