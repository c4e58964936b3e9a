-- `solid_sphere::sphere::weld_spherical_shell` meets its contract. Assumes nothing.
use lib.Ieee.{of_bits}
use Rattle.solid_sphere.proofs.SphereRuns.{shell_one, shell_two}
use Rattle.solid_sphere.proofs.sphere.weld_spherical_shell.Goals as goal

pub weld_sphere-requires-then-half : goal.weld_sphere-requires-then-half
weld_sphere-requires-then-half c = record { ready = c.weld_sphere.ensures.runs.ready; segments_bound = c.requires.segments_bound }

pub returns-then-half : goal.returns-then-half
unfolding of_bits
returns-then-half c = shell_two _ _ _ _ _ _ _ _ _ _ c.to_cartesian-c.ensures c.if-half.true c.weld_sphere.ensures c.weld_sphere-then-half.ensures

pub returns-else-half : goal.returns-else-half
unfolding of_bits
returns-else-half c = shell_one _ _ _ _ _ _ _ _ _ c.to_cartesian-c.ensures c.if-half.false c.weld_sphere.ensures
