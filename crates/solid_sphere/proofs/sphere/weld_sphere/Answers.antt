-- `solid_sphere::sphere::weld_sphere` meets its contract. Assumes nothing.
use lib.Ieee.{of_bits}
use native.Mathlib.Omega.{arith}
use Rattle.solid_sphere.proofs.SphereRuns.{sphere_none, sphere_runs}
use Rattle.solid_sphere.proofs.sphere.weld_sphere.Goals as goal

pub returns-then-r : goal.returns-then-r
unfolding of_bits
returns-then-r c = sphere_none _ _ _ _ _ _ c.requires.ready c.if-r.true

pub weld_skin-requires : goal.weld_skin-requires
weld_skin-requires c =
    let s = c in
    let t = c.max-nt.ensures in
    let p = c.max-np.ensures in
    record { ready = s.requires.ready; le_np = (omega (arith, p), omega (arith, t, s.requires.segments_bound.1), omega (arith, p, s.requires.segments_bound.0)) }

pub returns : goal.returns
unfolding of_bits
returns c =
    let a = c.args in
    sphere_runs a.c a.r a.options.segments a.options.sphere_rings a.flip _ _ _ _
    c.if-r.false
    c.max-nt.ensures
    c.max-np.ensures
    c.weld_skin.ensures
