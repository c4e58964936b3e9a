-- `solid_parts::wire::weld_joint_part` meets its contract. Assumes nothing.
use Rattle.solid_parts.proofs.PartRuns.{joint_part}
use Rattle.solid_parts.proofs.wire.weld_joint_part.Goals as goal

pub wire_point-c-requires : goal.wire_point-c-requires
wire_point-c-requires c = c.requires.segments_bound.2

pub weld_sphere-requires : goal.weld_sphere-requires
weld_sphere-requires c = record {
  ready = c.requires.ready;
  segments_bound = (
    c.requires.segments_bound.0,
    c.requires.segments_bound.1,
  );
}

pub returns : goal.returns
returns c = joint_part _ _ _ _ _ _ _ _ _ _ c.wire_point-c.ensures c.weld_sphere.ensures c.new_part.ensures
