-- `outline_triangulate::passes::clip` meets its contract. Assumes nothing.
use Rattle.std.proofs.Common.{◌≡◌, length, arith}
use Rattle.outline_ears.specs.Inside.{idx_of}
use Rattle.outline_ears.proofs.Laws.{idx_length}
use Rattle.outline_triangulate.specs.Slices.{clipping_of}
use Rattle.outline_triangulate.proofs.Steps.{goes_from, goes_on, reaches_end}
use Rattle.outline_triangulate.proofs.passes.clip.Goals as goal

pub loop-left-init : goal.loop-left-init
loop-left-init c =
    let a = c.args in
    goes_from a.v.now a.eps a.left _ a.out.now c.requires.0 c.requires.1 c.requires.2 c.all_kinds.ensures.0 c.all_kinds.ensures.1

pub pass-cut-requires : goal.pass-cut-requires
pass-cut-requires c = let i = c.loop-left.invariant in (c.loop-left-test.true, i.inside, i.kept, i.room)

pub loop-left-smaller : goal.loop-left-smaller
loop-left-smaller c = c.pass-cut.ensures.falls

pub loop-left-preserved : goal.loop-left-preserved
loop-left-preserved c =
    let l = c.loop-left in
    goes_on _ _ _ _ l.left l.cut l.out _ _ _ c.loop-left-test.true c.pass-cut.auto.out c.pass-cut.ensures l.invariant

pub returns : goal.returns
returns c =
    let l = c.loop-left in
    let i = l.invariant in
    let v = c.args.v.now in
    let m : length (idx_of l.left) ≡ l.left.m = idx_length v l.left.idx l.left.m i.inside in
    record {
      state = reaches_end v _ (clipping_of (idx_of l.left) l.cut l.out) _ _ (omega (arith, c.loop-left-test.false)) i.reaches;
      rest = i.rest;
      few = c.loop-left-test.false;
      inside = i.inside;
      room = i.room;
    }
