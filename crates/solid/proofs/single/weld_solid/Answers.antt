-- `solid::single::weld_solid` meets its contract. Assumes nothing.
use borrow.Enum.Refused.{opened}
use borrow.Author.Rules.{rules}
use Rattle.solid.proofs.ShapeRuns.{sphere_soup_lem, solid_as, solid_none}
use Rattle.solid.proofs.single.weld_solid.Goals as goal

pub weld_box_shape-requires : goal.weld_box_shape-requires
weld_box_shape-requires c = record { ready = c.requires.ready; segments_bound = c.requires.few_segments.segments }

pub weld_sphere-requires : goal.weld_sphere-requires
weld_sphere-requires c = record { ready = c.requires.ready; segments_bound = (c.requires.few_segments.segments, c.requires.few_segments.rings) }

pub weld_spherical_shell-requires : goal.weld_spherical_shell-requires
weld_spherical_shell-requires c = record { ready = c.requires.ready; segments_bound = (c.requires.few_segments.segments, c.requires.few_segments.rings) }

pub returns-in-Box : goal.returns-in-Box
returns-in-Box c = solid_as _ _ _ _ _ _ c.in-Box.is c.weld_box_shape.ensures

pub returns-in-Sphere : goal.returns-in-Sphere
returns-in-Sphere c = solid_as _ _ _ _ _ _ c.in-Sphere.is (sphere_soup_lem _ _ _ _ _ _ _ _ c.to_cartesian-c.ensures c.weld_sphere.ensures)

pub returns-in-SphericalShell : goal.returns-in-SphericalShell
returns-in-SphericalShell c = solid_as _ _ _ _ _ _ c.in-SphericalShell.is c.weld_spherical_shell.ensures

pub returns-in_default : goal.returns-in_default
returns-in_default c = solid_none c.args.shape _ _ _ c.requires.ready (opened c.in_default.in_default-own.keys4)
