-- `outline_clean::clean_polygon` meets its contract. Assumes nothing.
use mathlib.Core.Path.{◌≡◌}
use native.Mathlib.Omega.{arith}
use lib.ListN.{length}
use Rattle.outline.proofs.Laws.{cleaned_is}
use Rattle.outline.proofs.Copies.{clean_is}
use borrow.Author.Rules.{rules}
use Rattle.outline_clean.proofs.clean_polygon.Goals as goal

pub returns : goal.returns
returns c =
    let a = c.args in
    let g = c.gather-m in
    let s = c.stay in
    let k : length g.new.out ≡ length a.out.now = g.auto.out in
    clean_is a.v.now s.result g.new.out (omega (arith, g.ensures.1, s.ensures.1))
    (cleaned_is a.v.now g.result s.result g.new.out (omega (arith, g.ensures.1)) g.ensures.0 s.ensures)
