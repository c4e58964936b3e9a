-- `outline_triangulate::passes::last` meets its contract. Assumes nothing.
use mathlib.Core.Path.{◌≡◌, ◌∙◌}
use native.Mathlib.Nat.{le_refl, le-add_right}
use Rattle.outline.specs.Corners.{point}
use Rattle.outline_triangle.specs.Triangle.{cross}
use Rattle.outline_triangulate.proofs.Steps.{triangle_cut, flat_cut}
use borrow.Author.Rules.{rules}
use Rattle.outline_triangulate.proofs.passes.last.Goals as goal

pub returns-then-cross-eps : goal.returns-then-cross-eps
returns-then-cross-eps c =
    let r = c in
    let d = r in
    let a = d.args in
    let v = a.v.now in
    let x : r.cross.result ≡ cross (point v a.i) (point v a.j) (point v a.k) =
    r.cross.ensures ∙ (λ t. cross (r.point_of.ensures t) (r.point_of-2.ensures t) (r.point_of-3.ensures t)) in (
      le-add_right a.cut.triangles 1,
      triangle_cut v a.eps a.i a.j a.k a.cut a.out.now d.requires.3 _ x _ c.put.auto.out c.if-cross-eps.true c.put.ensures,
    )

pub returns : goal.returns
returns c =
    let r = c in
    let d = r in
    let a = d.args in
    let v = a.v.now in
    let x : r.cross.result ≡ cross (point v a.i) (point v a.j) (point v a.k) =
    r.cross.ensures ∙ (λ t. cross (r.point_of.ensures t) (r.point_of-2.ensures t) (r.point_of-3.ensures t)) in
    (le_refl a.cut.triangles, flat_cut v a.eps a.i a.j a.k a.cut a.out.now d.requires.3 _ x c.if-cross-eps.false)
