-- `solid_sphere::sphere::weld_skin` meets its contract. Assumes nothing.
use native.Mathlib.Omega.{arith}
use Rattle.solid_sphere.proofs.sphere.weld_skin.Goals as goal

pub weld_sized-requires : goal.weld_sized-requires
weld_sized-requires c =
    let p = c.requires in
    let few = c.if-max-le64.true in
    let most = c.max.ensures in
    record { ready = p.ready; nt_bound = (p.le_np.1, p.le_np.0, p.le_np.2, omega (arith, few, most), omega (arith, few, most), omega arith) }

pub weld_sized-requires-else-max-le64 : goal.weld_sized-requires-else-max-le64
weld_sized-requires-else-max-le64 c =
    let p = c.requires in
    record { ready = p.ready; nt_bound = (p.le_np.1, p.le_np.0, p.le_np.2, omega (arith, p.le_np.1), omega (arith, p.le_np.2), omega arith) }
