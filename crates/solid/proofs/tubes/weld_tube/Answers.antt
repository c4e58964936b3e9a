-- `solid::tubes::weld_tube` meets its contract. Assumes nothing.
use borrow.Enum.Refused.{opened}
use borrow.Author.Rules.{rules}
use lib.Ieee.{of_bits}
use Rattle.solid_spec.specs.Cylinder.{cylinder_soup, cylindrical_shell_soup}
use Rattle.solid.proofs.ShapeRuns.{tube_as, tube_none}
use Rattle.solid.proofs.tubes.weld_tube.Goals as goal

pub weld_between-requires : goal.weld_between-requires
weld_between-requires c = record { ready = c.requires.ready; segments_bound = c.requires.segments_bound }

pub weld_between-requires-in-CylindricalShell : goal.weld_between-requires-in-CylindricalShell
weld_between-requires-in-CylindricalShell c = record { ready = c.requires.ready; segments_bound = c.requires.segments_bound }

pub returns-in-Cylinder : goal.returns-in-Cylinder
unfolding cylinder_soup of_bits
returns-in-Cylinder c = tube_as _ _ _ _ _ _ c.in-Cylinder.is c.weld_between.ensures

pub returns-in-CylindricalShell : goal.returns-in-CylindricalShell
unfolding cylindrical_shell_soup
returns-in-CylindricalShell c = tube_as _ _ _ _ _ _ c.in-CylindricalShell.is c.weld_between-in-CylindricalShell.ensures

pub returns-in_default : goal.returns-in_default
returns-in_default c = tube_none c.args.shape _ _ _ c.requires.ready (opened c.in_default.in_default-own.keys3)
