-- `solid_parts::wire::wire_point` meets its contract. Assumes nothing.
use mathlib.Core.Path.{ap, ◌∙◌}
use Rattle.solid_spec.specs.Coords.{to_cartesian}
use Rattle.solid_spec.specs.Wire.{wire_point}
use Rattle.solid_parts.proofs.wire.wire_point.Goals as goal

pub vertex-requires : goal.vertex-requires
vertex-requires c = c.requires

pub returns : goal.returns
unfolding wire_point
returns c = c.to_cartesian.ensures ∙ ap (to_cartesian c.args.cylindrical) c.vertex.ensures
