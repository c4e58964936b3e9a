-- `surface_coords::frame1` meets its contract. Assumes nothing.
use mathlib.Core.Path.{◌∙◌}
use Rattle.math.specs.Vec.{cross, normalized}
use Rattle.surface_coords.specs.Pieces.{beside}
use Rattle.solid_spec.specs.Cylinder.{frame1}
use borrow.Author.Rules.{rules}
use Rattle.surface_coords.proofs.frame1.Goals as goal

pub returns : goal.returns
unfolding frame1 beside
returns c =
    let d = c.args.d in
    let e = c.cross.ensures ∙ (λ i. cross d (c.beside.ensures i)) in
    c.normalized.ensures ∙ (λ i. normalized (e i))
