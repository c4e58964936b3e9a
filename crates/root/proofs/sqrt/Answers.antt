-- `root::sqrt` meets its contract. Assumes nothing.
use mathlib.Core.Bool.{true}
use mathlib.Core.Path.{◌≡◌, sym, ◌∙◌, subst}
use lib.Dec.{T}
use lib.Ieee.{Float, binary64, fits}
use Rattle.root.specs.ByCase.{ByCase}
use Rattle.root.specs.Sqrt as Ieee
use Rattle.root.proofs.ByCase.{sqrt_by_case, root_is}
use Rattle.root.proofs.sqrt.Goals as goal

-- what owning an `f64` tells: the format holds it
held : (x : Float) → fits binary64 x ≡ true → T (fits binary64 x)
held x f = subst T (sym f) tt

-- the equations of its case
cases : (x : Float) → fits binary64 x ≡ true → ByCase x (Ieee.sqrt binary64 x)
cases x f = sqrt_by_case x (held x f)

pub not_finite_root-requires : goal.not_finite_root-requires
not_finite_root-requires c = sym c.root_case.ensures ∙ c.in-NotFinite.is

pub subnormal_root-requires : goal.subnormal_root-requires
subnormal_root-requires c = sym c.root_case.ensures ∙ c.in-Subnormal.is

pub even_root-requires : goal.even_root-requires
even_root-requires c = sym c.root_case.ensures ∙ c.in-EvenExponent.is

pub odd_root-requires : goal.odd_root-requires
odd_root-requires c = sym c.root_case.ensures ∙ c.in-OddExponent.is

pub returns-in-Zero : goal.returns-in-Zero
returns-in-Zero c =
    let s = c in
    root_is _ _ (held s.args.x s.well_formed.0.1) (sym ((cases s.args.x s.well_formed.0.1).zero (sym c.root_case.ensures ∙ c.in-Zero.is)))

pub returns-in-NotFinite : goal.returns-in-NotFinite
returns-in-NotFinite c =
    let s = c in
    root_is _ _ (held s.args.x s.well_formed.0.1)
    (c.not_finite_root.ensures ∙ sym ((cases s.args.x s.well_formed.0.1).not_finite (sym c.root_case.ensures ∙ c.in-NotFinite.is)))

pub returns-in-Negative : goal.returns-in-Negative
returns-in-Negative c =
    let s = c in
    root_is _ _ (held s.args.x s.well_formed.0.1)
    (c.no_root.ensures ∙ sym ((cases s.args.x s.well_formed.0.1).negative (sym c.root_case.ensures ∙ c.in-Negative.is)))

pub returns-in-Subnormal : goal.returns-in-Subnormal
returns-in-Subnormal c =
    let s = c in
    root_is _ _ (held s.args.x s.well_formed.0.1)
    (c.subnormal_root.ensures ∙ sym ((cases s.args.x s.well_formed.0.1).subnormal (sym c.root_case.ensures ∙ c.in-Subnormal.is)))

pub returns-in-EvenExponent : goal.returns-in-EvenExponent
returns-in-EvenExponent c =
    let s = c in
    root_is _ _ (held s.args.x s.well_formed.0.1)
    (c.even_root.ensures ∙ sym ((cases s.args.x s.well_formed.0.1).even_exponent (sym c.root_case.ensures ∙ c.in-EvenExponent.is)))

pub returns-in-OddExponent : goal.returns-in-OddExponent
returns-in-OddExponent c =
    let s = c in
    root_is _ _ (held s.args.x s.well_formed.0.1)
    (c.odd_root.ensures ∙ sym ((cases s.args.x s.well_formed.0.1).odd_exponent (sym c.root_case.ensures ∙ c.in-OddExponent.is)))
