-- `root::even_root` meets its contract. Assumes nothing.
use mathlib.Core.Path.{◌≡◌, sym, ap, ◌∙◌, subst}
use mathlib.Core.Bool.{true, false}
use Prim.Native.Nat.{ℕ, ◌+◌, ◌/◌, ◌^◌}
use native.Mathlib.Omega.{arith}
use lib.Dec.{T}
use lib.Ieee.{Float, binary64, fits, to_bits, units}
use Rattle.root_case.specs.Case.{root_case}
use Rattle.root_case.specs.declared.RootCase.TheVariants.{EvenExponent}
use Rattle.root_case.proofs.Laws.{even_is}
use Rattle.root.proofs.Cases.{Normal, even_units}
use Rattle.root.proofs.even_root.Goals as goal

-- what the case says of the pattern
told : (x : Float) (b : ℕ) → b ≡ to_bits binary64 x → fits binary64 x ≡ true → root_case x ≡ EvenExponent → Normal 1 b
told x b e f h = subst (Normal 1) (sym e) (even_is x (subst T (sym f) tt) h)

pub overflow_add-significand : goal.overflow_add-significand
overflow_add-significand c = omega arith

pub near_root-q-requires : goal.near_root-q-requires
near_root-q-requires c = (omega arith, omega arith)

pub overflow_add-b : goal.overflow_add-b
overflow_add-b c = omega arith

pub of_digits-requires : goal.of_digits-requires
of_digits-requires c = (c.near_root-q.ensures.1, c.near_root-q.ensures.2, omega (arith, (told c.args.x c.bits_of-b.result c.bits_of-b.ensures c.well_formed.0.1 c.requires).1))

pub returns : goal.returns
returns c =
    let p = c in
    let k = (p.bits_of-b.result / 2 ^ 52 + 1021) / 2 in
    c.of_digits.ensures
    ∙ ap (λ (q : ℕ). units binary64 false q k) c.near_root-q.ensures.0
    ∙ sym (even_units p.args.x p.bits_of-b.result p.bits_of-b.ensures (told p.args.x p.bits_of-b.result p.bits_of-b.ensures p.well_formed.0.1 p.requires))
