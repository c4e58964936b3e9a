-- `surface_quad::guessing::guesses` meets its contract. Assumes nothing.
use mathlib.Core.Path.{◌≡◌, sym, ap, ◌∙◌}
use Prim.Native.Nat.{ℕ, ◌<◌}
use native.Mathlib.Omega.{arith}
use Rattle.surface_quad.specs.Guesses.{guesses_of}
use borrow.Author.Rules.{rules}
use Rattle.surface_quad.proofs.guessing.guesses.Goals as goal

last_face : (f : ℕ) → (f ≡ 0 → ⊥) → (f ≡ 1 → ⊥) → (f ≡ 2 → ⊥) → (f ≡ 3 → ⊥) → (f ≡ 4 → ⊥) → f < 6 → f ≡ 5
last_face f a b c d e h = omega arith

pub returns-in-0 : goal.returns-in-0
returns-in-0 c = c.numbers_from.ensures ∙ ap (guesses_of c.args.base) (sym c.in-0.is)

pub returns-in-1 : goal.returns-in-1
returns-in-1 c = c.numbers_from-in-1.ensures ∙ ap (guesses_of c.args.base) (sym c.in-1.is)

pub returns-in-2 : goal.returns-in-2
returns-in-2 c = c.numbers_from-in-2.ensures ∙ ap (guesses_of c.args.base) (sym c.in-2.is)

pub returns-in-3 : goal.returns-in-3
returns-in-3 c = c.numbers_from-in-3.ensures ∙ ap (guesses_of c.args.base) (sym c.in-3.is)

pub returns-in-4 : goal.returns-in-4
returns-in-4 c = c.numbers_from-in-4.ensures ∙ ap (guesses_of c.args.base) (sym c.in-4.is)

pub returns-in_default : goal.returns-in_default
returns-in_default c =
    let f = c.args.f in
    let n = c.in_default.in_default-own.rest in
    c.numbers_from-in_default.ensures ∙ ap (guesses_of c.args.base) (sym (last_face f n.0.0.0.0.1 n.0.0.0.1 n.0.0.1 n.0.1 n.1 c.requires.1))
