-- `root::not_finite_root` meets its contract. Assumes nothing.
use mathlib.Core.Bool.{true, not}
use mathlib.Core.Path.{◌≡◌, sym, ◌∙◌, subst}
use native.Mathlib.Omega.{arith}
use lib.Dec.{T}
use lib.Ieee.{Float, binary64, fits}
use lib.Ieee.Scale.{finite}
use Rattle.root_case.specs.Case.{root_case}
use Rattle.root_case.specs.declared.RootCase.TheVariants.{NotFinite}
use Rattle.root_case.proofs.Laws.{not_finite_is}
use Rattle.root.proofs.Steps.{infinite, not_infinite}
use Rattle.root.proofs.not_finite_root.Goals as goal

told : (x : Float) → fits binary64 x ≡ true → root_case x ≡ NotFinite → T (not (finite x))
told x f h = not_finite_is x (subst T (sym f) tt) h

pub returns-then-bits_of-eq9218868437227405312 : goal.returns-then-bits_of-eq9218868437227405312
returns-then-bits_of-eq9218868437227405312 c = let s = c in infinite s.args.x (told s.args.x s.well_formed.0.1 s.requires) (omega (arith, c.bits_of.ensures))

pub returns : goal.returns
returns c =
    let s = c in
    c.no_root.ensures ∙ not_infinite s.args.x (told s.args.x s.well_formed.0.1 s.requires) (λ e. omega (arith, c.bits_of.ensures))
