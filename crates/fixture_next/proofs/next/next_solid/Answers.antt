-- `fixture_next::next::next_solid` meets its contract. Assumes nothing.
use native.Mathlib.Omega.{arith}
use mathlib.Core.Path.{sym, ◌∙◌}
use Rattle.fixture_next.proofs.Here.{fits_here, sound_lent}
use Rattle.fixture_next.proofs.Reading.{start, step, found, at_end}
use Rattle.fixture_next.proofs.next.next_solid.Goals as goal

pub loop-at-init : goal.loop-at-init
loop-at-init c =
    let s = c in
    start s.args.file.now s.args.from s.args.options s.args.default s.requires

pub bounds-file-at : goal.bounds-file-at
bounds-file-at c = omega arith

pub is_solid-requires : goal.is_solid-requires
is_solid-requires c = tt

pub returns-then-is_solid : goal.returns-then-is_solid
returns-then-is_solid c =
    let l = c in
    let file = l.args.file.now in
    let s = l.args in
    found file s.from s.options s.default l.loop-at.at l.loop-at.s l.loop-at.invariant (omega arith) (sym c.is_solid.ensures ∙ c.if-is_solid.true)

pub payload_at-p-requires : goal.payload_at-p-requires
payload_at-p-requires c =
    let l = c in
    let file = l.args.file.now in
    fits_here file l.loop-at.at l.loop-at.invariant.ready (omega arith)

pub settings_after-s-requires : goal.settings_after-s-requires
settings_after-s-requires c =
    let l = c in
    let file = l.args.file.now in (
      sound_lent file l.loop-at.at l.loop-at.invariant.ready (omega arith) c.payload_at-p.result.now c.payload_at-p.ensures.0,
      omega (arith, l.loop-at.invariant.few, l.loop-at.invariant.ready.short),
    )

pub overflow_add-at : goal.overflow_add-at
overflow_add-at c =
    let l = c in
    let file = l.args.file.now in
    omega (arith, fits_here file l.loop-at.at l.loop-at.invariant.ready (omega arith))

pub overflow_add-at-in-loop-at : goal.overflow_add-at-in-loop-at
overflow_add-at-in-loop-at c =
    let l = c in
    let file = l.args.file.now in
    omega (arith, fits_here file l.loop-at.at l.loop-at.invariant.ready (omega arith), c.payload_at-p.ensures.1)

pub loop-at-smaller : goal.loop-at-smaller
loop-at-smaller c =
    let l = c in
    let file = l.args.file.now in
    omega (arith, fits_here file l.loop-at.at l.loop-at.invariant.ready (omega arith), c.payload_at-p.ensures.1)

pub loop-at-preserved : goal.loop-at-preserved
loop-at-preserved c =
    let l = c in
    let file = l.args.file.now in
    let s = l.args in
    let p = c.payload_at-p in
    step file s.from s.options s.default l.loop-at.at l.loop-at.s l.loop-at.invariant (omega arith) p.result.now c.settings_after-s.result
    p.ensures.0 p.ensures.1 (sym c.is_solid.ensures ∙ c.if-is_solid.false) c.settings_after-s.ensures

pub returns : goal.returns
returns c =
    let l = c in
    let s = l.args in
    at_end s.file.now s.from s.options s.default l.loop-at.at l.loop-at.s l.loop-at.invariant (omega arith)
