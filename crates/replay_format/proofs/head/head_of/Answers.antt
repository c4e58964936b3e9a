-- `replay_format::head::head_of` meets its contract. Assumes nothing.
use Rattle.replay_format.proofs.Heads.{head_is}
use Rattle.replay_format.proofs.head.head_of.Goals as goal

pub returns : goal.returns
returns c =
    let c0 = c in
    let c1 = c0 in
    let c2 = c1 in
    let c3 = c2 in
    let c4 = c3 in
    let c5 = c4 in
    let c6 = c5 in
    let c7 = c6 in
    let c8 = c7 in
    let c9 = c8 in
    head_is c9.args.b.now c9.word_at.ensures c8.word_at-2.ensures
    c7.word_at-3.ensures c6.word_at-4.ensures c5.word_at-5.ensures
    c4.word_at-6.ensures c3.word_at-7.ensures c2.word_at-8.ensures c1.word_at-9.ensures c0.word_at-10.ensures c.bounds_of.ensures
