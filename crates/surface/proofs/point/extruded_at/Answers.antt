-- `surface::point::extruded_at` meets its contract. Assumes nothing.
use mathlib.Core.Path.{◌∙◌}
use Rattle.outline.specs.Corners.{point}
use Rattle.solid_spec.specs.Outline.{plane_point}
use Rattle.surface.specs.Pieces.{on_extruded}
use Rattle.surface.proofs.Surfaces.{round_within}
use borrow.Author.Rules.{rules}
use Rattle.surface.proofs.point.extruded_at.Goals as goal

pub corner-c-requires : goal.corner-c-requires
corner-c-requires c = round_within _ _ _ _ c.requires.some c.requires.held c.round.ensures

pub returns : goal.returns
unfolding on_extruded
returns c =
    let s = c.args in
    let p = c.corner-c.ensures ∙ (λ i. point s.corners.now (c.round.ensures i)) in
    c.plane_point.ensures ∙ (λ i. plane_point s.n (p i) (c.height.ensures i))
