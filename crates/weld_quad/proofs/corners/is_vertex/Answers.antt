-- `weld_quad::corners::is_vertex` meets its contract: a point that equals a stored vertex is finite, and `+ 0.0` makes it that vertex. Assumes nothing.
use borrow.Author.Rules.{rules}
use mathlib.Core.Path.{sym, ◌∙◌}
use lib.Ieee.{fits, binary64}
use Rattle.ieee.specs.Same.{true_T}
use Rattle.weld_vertex.proofs.At.{at_yes}
use Rattle.weld_quad.proofs.Quads.{known_at}
use Rattle.weld_quad.proofs.corners.is_vertex.Goals as goal

pub returns : goal.returns
returns c = (
  c.is_at.ensures,
  λ e.
      let s = c in
      let w = s.args.w.now in
      let vs = s.args.vertices.now in
      let p = s.args.p in
      let k = s.well_formed.1.1.1.0.1.1 in
      let q = at_yes vs w.base w.count p s.args.m (sym c.is_at.ensures ∙ e) in
      known_at w vs p s.args.m s.requires (true_T (fits binary64 p.x) k.0.1) (true_T (fits binary64 p.y) k.1.0.1)
      (true_T (fits binary64 p.z) k.1.1.0.1) q.0 q.1 q.2,
)
