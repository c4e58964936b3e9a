-- `fixture_output::finish` meets its contract. Assumes nothing.
use borrow.Author.Rules.{rules}
use native.Mathlib.Omega.{arith}
use Rattle.fixture_output.proofs.Finished as Finished
use Rattle.fixture_output.proofs.finish.Goals as goal

pub returns-then-out-at : goal.returns-then-out-at
returns-then-out-at c =
    let s = c in
    let a = s.args in
    Finished.refused a.out.now a.vertex_count a.triangle_count (omega arith) _ c.clear.ensures

pub turn_words-requires : goal.turn_words-requires
turn_words-requires c =
    let s = c in
    let a = s.args in
    Finished.ready a.out.now a.vertex_count a.triangle_count (omega arith) s.requires

pub returns : goal.returns
returns c =
    let w = c in
    let s = w in
    let a = s.args in
    Finished.accepted a.out.now a.vertex_count a.triangle_count (omega arith) _ _ _
    w.turn_words.ensures w.put_word.ensures c.put_word-2.ensures
