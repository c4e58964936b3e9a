-- `outline_clean::push` meets its contract. Assumes nothing.
use Rattle.outline.proofs.Laws.{grew_not, grew}
use borrow.Author.Rules.{rules}
use Rattle.outline_clean.proofs.push.Goals as goal

pub returns-then-ends_in : goal.returns-then-ends_in
returns-then-ends_in c = let a = c.args in grew_not a.m a.p a.out.now c.ends_in.ensures c.if-ends_in.true

pub returns : goal.returns
returns c =
    let a = c.args in grew a.m a.p a.out.now _ c.ends_in.ensures
    c.if-ends_in.false c.put_corner.ensures
