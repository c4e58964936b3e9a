-- `surface::point::rotated_at` meets its contract. Assumes nothing.
use mathlib.Core.Path.{◌∙◌}
use Rattle.outline.specs.Corners.{point}
use Rattle.solid_spec.specs.Outline.{spun}
use Rattle.surface.specs.Pieces.{on_rotated}
use Rattle.surface.proofs.Surfaces.{round_within}
use borrow.Author.Rules.{rules}
use Rattle.surface.proofs.point.rotated_at.Goals as goal

pub corner-c-requires : goal.corner-c-requires
corner-c-requires c = round_within _ _ _ _ c.requires.len_positive c.requires.corners_held c.round.ensures

pub returns : goal.returns
unfolding on_rotated
returns c =
    let s = c.args in
    let p = c.corner-c.ensures ∙ (λ i. point s.corners.now (c.round.ensures i)) in
    c.spun.ensures ∙ (λ i. spun s.a s.q (p i) s.t)
