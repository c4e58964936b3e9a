-- `solid_grid::guesses::last_corner` meets its contract. Assumes nothing.
use borrow.Author.Rules.{rules}
use mathlib.Core.Path.{ap, ◌∙◌}
use mathlib.Core.Bool.{cond}
use Prim.Native.Nat.{ℕ}
use Rattle.mesh_spec.specs.Mesh.{same_point}
use Rattle.solid_grid.proofs.guesses.last_corner.Goals as goal

pub returns : goal.returns
returns c =
    let x = c.args in
    c.same_or-3.ensures
    ∙ ap (λ (n : ℕ). cond (same_point x.c x.b) x.nb n)
    (c.same_or-2.ensures ∙ ap (λ (n : ℕ). cond (same_point x.c x.d) x.nd n) c.same_or.ensures)
