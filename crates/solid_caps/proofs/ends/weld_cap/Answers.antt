-- `solid_caps::ends::weld_cap` meets its contract. Assumes nothing.
use mathlib.Core.Path.{refl}
use mathlib.Core.Bool.{true, false}
use Rattle.solid_caps.specs.Ends.{points_at}
use Rattle.solid_caps.proofs.CapRuns.{cap_one, cap_two, cap_as}
use Rattle.solid_caps.proofs.ends.weld_cap.Goals as goal

pub point-an-requires : goal.point-an-requires
point-an-requires c = c.requires.ends_within.0 c.args.a

pub point-bn-requires : goal.point-bn-requires
point-bn-requires c = c.requires.ends_within.0 c.args.b

pub point-cn-requires : goal.point-cn-requires
point-cn-requires c = c.requires.ends_within.0 c.args.c

pub weld_triangle-requires : goal.weld_triangle-requires
weld_triangle-requires c = c.requires.ready

pub point-af-requires : goal.point-af-requires
point-af-requires c = c.requires.ends_within.1 _ c.in-Some.is c.args.a

pub point-cf-requires : goal.point-cf-requires
point-cf-requires c = c.requires.ends_within.1 _ c.in-Some.is c.args.c

pub point-bf-requires : goal.point-bf-requires
point-bf-requires c = c.requires.ends_within.1 _ c.in-Some.is c.args.b

pub weld_triangle-requires-in-Some : goal.weld_triangle-requires-in-Some
weld_triangle-requires-in-Some c = c.weld_triangle.ensures.runs.ready

pub returns-in-Some : goal.returns-in-Some
returns-in-Some c =
    let x = c.args in
    cap_as x.x.now (points_at x.x.now x.near) (x.a, x.b, x.c) _ _ _ _ c.in-Some.is
    (cap_two true (points_at x.x.now x.near) (points_at x.x.now _) x.a x.b x.c _ _ _ _ _ _ _ _ _ refl
    c.point-an.ensures c.point-bn.ensures c.point-cn.ensures c.point-af.ensures c.point-cf.ensures c.point-bf.ensures c.weld_triangle.ensures c.weld_triangle-in-Some.ensures)

pub returns-in-None : goal.returns-in-None
returns-in-None c =
    let x = c.args in
    cap_as x.x.now (points_at x.x.now x.near) (x.a, x.b, x.c) _ _ _ _ c.in-None.is
    (cap_one false (points_at x.x.now x.near) (points_at x.x.now 0) x.a x.b x.c _ _ _ _ _ refl
    c.point-an.ensures c.point-bn.ensures c.point-cn.ensures c.weld_triangle.ensures)
