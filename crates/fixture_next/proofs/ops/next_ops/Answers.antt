-- `fixture_next::ops::next_ops` meets its contract. Assumes nothing.
use native.Mathlib.Omega.{arith}
use mathlib.Core.Path.{sym, ◌∙◌}
use Rattle.fixture_next.proofs.Here.{fits_here, sound_five}
use Rattle.fixture_next.proofs.Sixteen.{start, more, other, found, at_end}
use Rattle.fixture_next.proofs.ops.next_ops.Goals as goal

pub loop-place-init : goal.loop-place-init
loop-place-init c =
    let s = c in
    start s.args.file.now s.args.at s.requires

pub bounds-file-place : goal.bounds-file-place
bounds-file-place c = omega arith

pub is_solid-requires : goal.is_solid-requires
is_solid-requires c = tt

pub returns-then-is_solid : goal.returns-then-is_solid
returns-then-is_solid c =
    let l = c in
    let file = l.args.file.now in
    found file l.args.at l.loop-place.place l.loop-place.ops l.loop-place.count l.loop-place.invariant (omega arith)
    (sym c.is_solid.ensures ∙ c.if-is_solid.true)

pub payload_at-p-requires : goal.payload_at-p-requires
payload_at-p-requires c =
    let l = c in
    let file = l.args.file.now in
    fits_here file l.loop-place.place l.loop-place.invariant.ready (omega arith)

pub overflow_add-place : goal.overflow_add-place
overflow_add-place c =
    let l = c in
    let file = l.args.file.now in
    omega (arith, fits_here file l.loop-place.place l.loop-place.invariant.ready (omega arith))

pub overflow_add-place-in-loop-place : goal.overflow_add-place-in-loop-place
overflow_add-place-in-loop-place c =
    let l = c in
    let file = l.args.file.now in
    omega (arith, fits_here file l.loop-place.place l.loop-place.invariant.ready (omega arith), c.payload_at-p.ensures.1)

pub read_op-op-requires : goal.read_op-op-requires
read_op-op-requires c =
    let l = c in
    let file = l.args.file.now in
    let p = c.payload_at-p in
    sound_five file l.loop-place.place l.loop-place.invariant.ready (omega arith) p.result.now p.ensures.0 c.if-tag-eq5.true

pub with_op-more-requires : goal.with_op-more-requires
with_op-more-requires c = tt

pub overflow_add-count : goal.overflow_add-count
overflow_add-count c =
    let l = c in
    omega (arith, l.loop-place.invariant.few, l.loop-place.invariant.ready.short, l.loop-place.invariant.ready.within)

pub loop-place-smaller-then-tag-eq5 : goal.loop-place-smaller-then-tag-eq5
loop-place-smaller-then-tag-eq5 c =
    let l = c in
    let file = l.args.file.now in
    omega (arith, fits_here file l.loop-place.place l.loop-place.invariant.ready (omega arith), c.payload_at-p.ensures.1)

pub loop-place-preserved-then-tag-eq5 : goal.loop-place-preserved-then-tag-eq5
loop-place-preserved-then-tag-eq5 c =
    let l = c in
    let file = l.args.file.now in
    let p = c.payload_at-p in
    more file l.args.at l.loop-place.place l.loop-place.ops l.loop-place.count l.loop-place.invariant (omega arith) p.result.now p.ensures.1
    (sym c.is_solid.ensures ∙ c.if-is_solid.false) c.read_op-op.result
    c.with_op-more.result p.ensures.0 c.if-tag-eq5.true c.read_op-op.ensures c.with_op-more.ensures

pub loop-place-smaller : goal.loop-place-smaller
loop-place-smaller c =
    let l = c in
    let file = l.args.file.now in
    omega (arith, fits_here file l.loop-place.place l.loop-place.invariant.ready (omega arith), c.payload_at-p.ensures.1)

pub loop-place-preserved : goal.loop-place-preserved
loop-place-preserved c =
    let l = c in
    let file = l.args.file.now in
    let p = c.payload_at-p in
    other file l.args.at l.loop-place.place l.loop-place.ops l.loop-place.count l.loop-place.invariant (omega arith) p.result.now p.ensures.1
    (sym c.is_solid.ensures ∙ c.if-is_solid.false) c.if-tag-eq5.false

pub returns : goal.returns
returns c =
    let l = c in
    at_end l.args.file.now l.args.at l.loop-place.place l.loop-place.ops l.loop-place.count l.loop-place.invariant (omega arith)
