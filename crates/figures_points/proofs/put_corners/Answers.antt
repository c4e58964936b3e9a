-- `figures_points::put_corners` meets its contract. Assumes nothing.
use Rattle.std.proofs.Common.{◌≡◌, ℕ, ap, arith}
use Rattle.slice_text.specs.LineLaws.{puts_same}
use Rattle.figures_points.specs.Lists.{up_to, corner_at}
use Rattle.figures_points.proofs.Cases.{no_item, next_item}
use Rattle.figures_points.proofs.put_corners.Goals as goal

pub loop-i-init : goal.loop-i-init
loop-i-init c = no_item _ _

pub loop-i-preserved : goal.loop-i-preserved
loop-i-preserved c = let l = c.loop-i in next_item _ l.i l.invariant c.put_corner_at-to.ensures

pub returns : goal.returns
returns c =
    let l = c.loop-i in
    let e : l.i ≡ c.args.n = omega arith in
    puts_same (ap (λ (k : ℕ). up_to k (corner_at c.args.v.now)) e) l.invariant
