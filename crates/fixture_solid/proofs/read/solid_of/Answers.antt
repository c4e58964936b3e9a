-- `fixture_solid::read::solid_of` meets its contract. Assumes nothing.
use native.Mathlib.Omega.{arith}
use mathlib.Core.Path.{ap, ◌∙◌}
use Prim.Native.Nat.{◌-◌}
use Rattle.shape_fields.specs.Fields.{shape_of}
use Rattle.fixture_spec.specs.declared.Layout.{Layout}
use Rattle.fixture_spec.specs.Solids.{numbers_of, solid_of}
use Rattle.fixture_solid.proofs.Arms.{solid_above, numbers_here}
use Rattle.fixture_solid.proofs.read.solid_of.Goals as goal

pub numbers_of-numbers-requires : goal.numbers_of-numbers-requires
numbers_of-numbers-requires c =
    let s = c in
    numbers_here s.args.tag s.args.p.now s.requires.0 s.requires.1 c.layout_of.result c.layout_of.ensures

pub overflow_sub-tag : goal.overflow_sub-tag
overflow_sub-tag c =
    let s = c in
    omega (arith, solid_above s.args.tag s.requires.0)

pub returns : goal.returns
unfolding solid_of
returns c =
    let s = c in
    let p = s.args.p.now in
    let d = c in
    let numbers = d.numbers_of-numbers.ensures ∙ ap (λ (l : Layout). numbers_of l p) d.layout_of.ensures in
    c.shape_of.ensures
    ∙ (λ i. shape_of (s.args.tag - 16) (c.byte_at.ensures i) (c.byte_at-2.ensures i) (numbers i))
