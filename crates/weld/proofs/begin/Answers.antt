-- `weld::begin` meets its contract. Assumes nothing.
use mathlib.Core.Path.{◌≡◌}
use lib.ListN.{length}
use borrow.Author.Rules.{rules}
use Rattle.weld.proofs.Parts.{begun}
use Rattle.weld.proofs.begin.Goals as goal

pub returns : goal.returns
returns c =
    let d = c in
    let s = d in
    let ws = d.clear_from.new.s in
    let l : length ws ≡ length s.args.work.now = search rules in
    begun ws s.args.work.now d.clear_from.ensures l s.args.vertices.now c.counted_places.result c.counted_places.ensures s.requires
