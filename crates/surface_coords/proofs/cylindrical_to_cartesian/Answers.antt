-- `surface_coords::cylindrical_to_cartesian` meets its contract. Assumes nothing.
use mathlib.Core.Path.{◌∙◌}
use Rattle.surface_coords.specs.Pieces.{cylindrical_by}
use Rattle.solid_spec.specs.Coords.{cylindrical_to_cartesian}
use borrow.Author.Rules.{rules}
use Rattle.surface_coords.proofs.cylindrical_to_cartesian.Goals as goal

pub returns : goal.returns
unfolding cylindrical_to_cartesian cylindrical_by
returns c =
    let p = c.args.p in
    c.cylindrical_by.ensures ∙ (λ i. cylindrical_by (c.sin_cos.ensures.value i) p.x p.z)
