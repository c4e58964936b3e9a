-- `solid_outline::outlines::swaps` meets its contract. Assumes nothing.
use mathlib.Core.Path.{◌≡◌, sym, ap, ◌∙◌}
use Prim.Native.Nat.{ℕ}
use mathlib.Core.Bool.{not}
use lib.Dec.{eqb}
use Rattle.outline.specs.declared.Axes.{Axes}
use Rattle.outline.specs.Axes.{plane_axes}
use Rattle.solid_spec.specs.Polygons.{swaps}
use Rattle.solid_outline.proofs.outlines.swaps.Goals as goal

pub returns : goal.returns
unfolding swaps
returns c = ap (λ (a : Axes). not (eqb a.u c.args.q)) c.plane_axes.ensures ∙ ap (λ (q : ℕ). not (eqb (plane_axes c.args.normal).u q)) c.requires
