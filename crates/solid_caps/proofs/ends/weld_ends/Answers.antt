-- `solid_caps::ends::weld_ends` meets its contract. Assumes nothing.
use native.Mathlib.Omega.{arith}
use Rattle.solid_caps.proofs.ends.weld_ends.Goals as goal

pub weld_sized-requires : goal.weld_sized-requires
weld_sized-requires c =
    let p = c.requires in
    record { ready = p.ready; p_len_bound = (p.p_len_bound.0, p.p_len_bound.1, omega arith, omega arith) }
