-- `fixture_solid::field::solid_at` meets its contract. Assumes nothing.
use native.Mathlib.Omega.{arith}
use mathlib.Core.Path.{refl, ap, ◌∙◌}
use lib.ListN.{length}
use Rattle.fixture_spec.specs.Fields.{fixed_bytes}
use Rattle.fixture_solid.proofs.Lists.{is_field}
use Rattle.fixture_solid.proofs.field.solid_at.Goals as goal

pub overflow_add-result : goal.overflow_add-result
overflow_add-result c =
    let s = c in
    omega (arith, s.requires.whole, s.requires.sound, c.fixed_bytes-fixed.ensures ∙ ap fixed_bytes c.layout_of.ensures)

pub overflow_sub-result : goal.overflow_sub-result
overflow_sub-result c =
    let s = c in
    let p = c.payload_at-p in
    omega (arith, s.requires.sound, c.fixed_bytes-fixed.ensures ∙ ap fixed_bytes c.layout_of.ensures, p.ensures.1)

pub returns : goal.returns
returns c =
    let s = c in
    let p = c.payload_at-p in
    is_field s.args.file.now s.args.at s.requires c.solid_of.result p.result.now (length p.result.now) c.fixed_bytes-fixed.result _
    p.ensures.0 p.ensures.1 c.solid_of.ensures (c.fixed_bytes-fixed.ensures ∙ ap fixed_bytes c.layout_of.ensures) refl
