-- `solid_sphere::sphere::weld_sized` meets its contract. Assumes nothing.
use native.Mathlib.Omega.{arith}
use Rattle.surface.proofs.Surfaces.{sphere_tabled}
use Rattle.solid_sphere.proofs.SphereRuns.{sphere_within, grid_runs}
use Rattle.solid_sphere.proofs.sphere.weld_sized.Goals as goal

pub whole_as_slice-fill_entries : goal.whole_as_slice-fill_entries
whole_as_slice-fill_entries g c = omega (arith, c.requires.nt_bound.5)

pub whole_as_slice-fill_entries-2 : goal.whole_as_slice-fill_entries-2
whole_as_slice-fill_entries-2 g c = omega (arith, c.requires.nt_bound.5)

pub whole_as_slice-weld_grid : goal.whole_as_slice-weld_grid
whole_as_slice-weld_grid g c = omega (arith, c.requires.nt_bound.5)

pub weld_grid-requires : goal.weld_grid-requires
weld_grid-requires g c =
    let x = c.args in
    let p = c.requires.nt_bound in record {
      ready = c.requires.ready;
      nu_bound = (
        p.0,
        p.2,
        omega (arith, p.4),
        (sphere_within x.nt x.np p.0 p.1 p.2, sphere_tabled x.c x.r x.nt x.np x.nt x.np _ _ c.fill_entries.ensures c.fill_entries-2.ensures),
      );
    }

pub returns : goal.returns
returns g c =
    let x = c.args in
    grid_runs x.c x.r x.np x.nt x.flip _ x.nt x.np _ _ c.weld_grid.ensures
