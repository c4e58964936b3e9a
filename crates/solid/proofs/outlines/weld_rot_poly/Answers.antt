-- `solid::outlines::weld_rot_poly` meets its contract. Assumes nothing.
use native.Mathlib.Omega.{arith}
use Rattle.solid.proofs.ShapeRuns.{rot_runs, rot_same, rot_axis, rot_normal}
use Rattle.solid.proofs.outlines.weld_rot_poly.Goals.{else-normal-lt3-via-then-normal-lt3+then-axis-lt3+else-normal-axis, else-normal-lt3-via-then-normal-lt3+else-axis-lt3, else-normal-lt3-via-else-normal-lt3}
use Rattle.solid.proofs.outlines.weld_rot_poly.Goals as goal

pub weld_rotated-requires : goal.weld_rotated-requires
weld_rotated-requires c = record {
  ready = c.requires.ready;
  segments_bound = (
    c.requires.segments_bound.0,
    c.requires.segments_bound.1,
    omega (
      arith,
      c.if-normal-axis.true,
      c.if-axis-lt3.true,
      c.if-normal-lt3.true,
    ),
  );
}

pub returns-then-normal-axis : goal.returns-then-normal-axis
returns-then-normal-axis c = rot_runs _ _ _ _ _ _ _ _ c.if-normal-lt3.true c.if-axis-lt3.true c.if-normal-axis.true
    c.weld_rotated.ensures

pub returns-else-normal-lt3 : goal.returns-else-normal-lt3
returns-else-normal-lt3 c =
    elim c.else-normal-lt3.branch [
      | else-normal-lt3-via-then-normal-lt3+then-axis-lt3+else-normal-axis w ↦ rot_same _ _ _ _ _ _ _ c.requires.ready w.if-normal-axis.false
      | else-normal-lt3-via-then-normal-lt3+else-axis-lt3 w ↦ rot_axis _ _ _ _ _ _ _ c.requires.ready w.if-axis-lt3.false
      | else-normal-lt3-via-else-normal-lt3 w ↦ rot_normal _ _ _ _ _ _ _ c.requires.ready w.if-normal-lt3.false
    ]
