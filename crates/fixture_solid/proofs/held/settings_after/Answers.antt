-- `fixture_solid::held::settings_after` meets its contract. Assumes nothing.
use native.Mathlib.Omega.{arith}
use mathlib.Core.Path.{refl}
use lib.ListN.{get_or}
use lib.Dec.{eqb}
use Rattle.std.specs.Prelude.{Some}
use Rattle.fixture_spec.specs.Fields.{layout_of, fixed_bytes}
use Rattle.fixture_spec.specs.Solids.{op_of, settings_after}
use Rattle.fixture_solid.specs.Field.{counted}
use Rattle.fixture_solid.proofs.Arms.{sound_at, one_more, after_kind, after_other}
use Rattle.fixture_solid.proofs.held.settings_after.Goals as goal

pub options_of-requires : goal.options_of-requires
unfolding layout_of fixed_bytes
options_of-requires c = omega (arith, sound_at 1 c.args.p.now c.in-1.is c.requires.0)

pub bounds-p-0 : goal.bounds-p-0
unfolding layout_of fixed_bytes
bounds-p-0 c =
    omega (arith, sound_at 2 c.args.p.now c.in-2.is c.requires.0)

pub bounds-p-0-in-3 : goal.bounds-p-0-in-3
unfolding layout_of fixed_bytes
bounds-p-0-in-3 c =
    omega (arith, sound_at 3 c.args.p.now c.in-3.is c.requires.0)

pub bounds-p-0-in-4 : goal.bounds-p-0-in-4
unfolding layout_of fixed_bytes
bounds-p-0-in-4 c =
    omega (arith, sound_at 4 c.args.p.now c.in-4.is c.requires.0)

pub returns-in-1 : goal.returns-in-1
unfolding settings_after
returns-in-1 c =
    let s = c.args in
    after_kind s.s 1 s.p.now c.in-1.is refl (omega arith)
    (λ x e i. counted (c.options_of.ensures i) (e i).default (e i).own (e i).degrees (e i).count)

pub returns-in-2 : goal.returns-in-2
unfolding settings_after
returns-in-2 c =
    let s = c.args in
    after_kind s.s 2 s.p.now c.in-2.is refl (omega arith)
    (λ x e i. counted (e i).options (c.system_of.ensures i) (e i).own (e i).degrees (e i).count)

pub returns-in-3 : goal.returns-in-3
unfolding settings_after
returns-in-3 c =
    let s = c.args in
    after_kind s.s 3 s.p.now c.in-3.is refl (omega arith)
    (λ x e i. counted (e i).options (e i).default (Some (c.system_of-in-3.ensures i)) (e i).degrees (e i).count)

pub returns-in-4 : goal.returns-in-4
unfolding settings_after
returns-in-4 c =
    let s = c.args in
    after_kind s.s 4 s.p.now c.in-4.is refl (omega arith)
    (λ x e i. counted (e i).options (e i).default (e i).own (eqb (get_or s.p.now 0 0) 1) (e i).count)

pub returns-in-5 : goal.returns-in-5
unfolding settings_after
returns-in-5 c =
    let s = c.args in
    after_kind s.s 5 s.p.now c.in-5.is refl (omega arith)
    (λ x e i. counted (e i).options (e i).default (e i).own (e i).degrees (one_more x.ops (op_of s.p.now) (λ j. (e j).count) i))

pub returns-in_default : goal.returns-in_default
returns-in_default c =
    let s = c.args in
    after_other s.s s.p.now c.in_default.in_default-own.rest refl
