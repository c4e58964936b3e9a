-- `surface_sphere::on_sphere` meets its contract. Assumes nothing.
use mathlib.Core.Path.{◌∙◌}
use Rattle.math.specs.Vec.{v_add}
use Rattle.solid_spec.specs.Sphere.{on_sphere}
use borrow.Author.Rules.{rules}
use Rattle.surface_sphere.proofs.on_sphere.Goals as goal

pub returns : goal.returns
unfolding on_sphere
returns c = c.add.ensures ∙ (λ i. v_add c.args.c (c.mul.ensures i))
