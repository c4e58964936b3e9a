-- `mesh_move_affine::move_all` meets its contract: an affine matrix moves a finite point without a division. Assumes nothing.
use mathlib.Core.Path.{◌≡◌, ◌∙◌}
use Rattle.mesh_spec.specs.Slices.{vertex_at}
use Rattle.mesh_move_affine.specs.Affine.{affine_point}
use Rattle.mesh_move_affine.proofs.AffineLaws.{affine_vertex}
use borrow.Author.Rules.{rules}
use Rattle.mesh_move_affine.proofs.move_all.Goals as goal

pub returns : goal.returns
returns c =
    let a = c.args in
    c.move_by.ensures a.a
    (λ i h q e.
    let is : q ≡ affine_point a.a (vertex_at a.vertices.now i) = search rules in
    is ∙ affine_vertex a.vertices.now a.n a.a c.requires i h)
