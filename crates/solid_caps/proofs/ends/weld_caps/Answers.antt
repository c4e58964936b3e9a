-- `solid_caps::ends::weld_caps` meets its contract. Assumes nothing.
use native.Mathlib.Omega.{arith}
use mathlib.Core.Path.{◌≡◌, refl}
use Prim.Native.Nat.{ℕ, ◌*◌, ◌/◌, ◌≤◌, ◌<◌}
use lib.ListN.{length}
use Rattle.solid_caps.specs.Ends.{points_at}
use Rattle.std.specs.Option.{is_some, unwrap_or}
use Rattle.solid_caps.proofs.CapRuns.{caps_none, caps_more, caps_all}
use Rattle.solid_caps.proofs.ends.weld_caps.Goals as goal

pub loop-t-init : goal.loop-t-init
loop-t-init c = let x = c.args in (refl, caps_none (is_some x.far) (points_at x.x.now x.near) (points_at x.x.now (unwrap_or x.far 0)) x.caps.now _ c.requires.ready)

pub weld_cap-requires : goal.weld_cap-requires
weld_cap-requires c = record { ready = c.loop-t.invariant.1.runs.ready; ends_within = c.requires.ends_within }

pub loop-t-preserved : goal.loop-t-preserved
loop-t-preserved c =
    let x = c.args in
    let l = c.loop-t in
    (l.invariant.0, caps_more (is_some x.far) (points_at x.x.now x.near) (points_at x.x.now (unwrap_or x.far 0)) l.t x.caps.now _ _ _ _ _ _ (omega (arith, l.invariant.0)) refl refl refl l.invariant.1 c.weld_cap.ensures)

pub returns : goal.returns
returns c =
    let x = c.args in
    let l = c.loop-t in
    caps_all (is_some x.far) (points_at x.x.now x.near) (points_at x.x.now (unwrap_or x.far 0)) l.t x.caps.now _ _ (omega (arith, l.invariant.0)) (omega (arith, l.invariant.0)) l.invariant.1
