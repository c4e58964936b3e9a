-- `weld_from_soup::weld_each` meets its contract: the triangles before i are welded. Assumes nothing.
use mathlib.Core.Path.{◌≡◌}
use Prim.Native.Nat.{◌/◌}
use lib.ListN.{length}
use Rattle.weld.specs.Welding.{Welds}
use Rattle.weld_from_soup.specs.Soups.{first_of}
use Rattle.weld_from_soup.proofs.weld_each.Given as goal

abbrev pub invariant-loop-i : goal.invariant-loop-i
invariant-loop-i l = (l.i-end ≡ length l.soup / 9) × Welds (first_of l.soup l.i) l.initial.w l.w
