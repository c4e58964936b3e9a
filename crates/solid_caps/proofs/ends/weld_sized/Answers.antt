-- `solid_caps::ends::weld_sized` meets its contract. Assumes nothing.
use native.Mathlib.Omega.{arith}
use Rattle.solid_caps.proofs.CapRuns.{caps_front, ends_run}
use Rattle.solid_caps.proofs.ends.weld_sized.Goals as goal

pub whole_as_slice-triangulate_polygon : goal.whole_as_slice-triangulate_polygon
whole_as_slice-triangulate_polygon g c = omega (arith, c.requires.p_len_bound.3)

pub returns : goal.returns
returns g c = ends_run _ _ _ _ _ _ _ (caps_front _ _ _ _ c.triangulate_polygon-cut.ensures.0) c.weld_caps.ensures
