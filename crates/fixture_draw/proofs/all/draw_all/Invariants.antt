-- `fixture_draw::all::draw_all` meets its contract. Assumes nothing.
use Prim.Native.Nat.{◌-◌}
use lib.ListN.{length}
use Rattle.fixture_draw.specs.Drawing.{Drawing}
use Rattle.fixture_draw.proofs.all.draw_all.Given as goal

abbrev pub invariant-loop-w : goal.invariant-loop-w
invariant-loop-w l = Drawing l.file l.w (length l.initial.out) l.out

abbrev pub decreases-loop-w : goal.decreases-loop-w
decreases-loop-w l = length l.file - l.w.at
