-- `solid_caps::ends::weld_caps` meets its contract. Assumes nothing.
use mathlib.Core.Path.{◌≡◌}
use Prim.Native.Nat.{ℕ, ◌*◌, ◌/◌}
use lib.ListN.{length, take}
use Rattle.mesh_balance_spec.specs.Buffer.{tris}
use Rattle.weld.specs.Welding.{Welds}
use Rattle.solid_caps.specs.Caps.{caps_of}
use Rattle.solid_caps.specs.Ends.{points_at}
use Rattle.std.specs.Option.{is_some, unwrap_or}
use Rattle.solid_caps.proofs.ends.weld_caps.Given as goal

abbrev pub invariant-loop-t : goal.invariant-loop-t
invariant-loop-t l =
    (l.n ≡ length l.caps / 3)
    × Welds (caps_of (is_some l.far) (points_at l.x l.near) (points_at l.x (unwrap_or l.far 0)) (tris (take (3 * l.t) l.caps))) l.initial.w l.w
