-- `mesh_sums::area_term` meets its contract. Assumes nothing.
use mathlib.Core.Path.{◌∙◌, ap}
use lib.Ieee.{binary64, of_bits, of_int}
use Rattle.root.specs.Sqrt.{sqrt}
use Rattle.math.specs.Vec.{norm}
use Rattle.mesh_sums.proofs.Terms.{area_value}
use Rattle.mesh_sums.proofs.area_term.Goals as goal

pub returns : goal.returns
unfolding of_bits of_int norm
returns c =
    let d = c in
    let a = d.args in
    area_value a.vertices.now a.triangles.now a.i d.corner-a.result
    d.corner-b.result d.corner-c.result d.sub.result
    d.sub-2.result d.cross.result c.sqrt.result
    d.corner-a.ensures d.corner-b.ensures
    d.corner-c.ensures d.sub.ensures d.sub-2.ensures d.cross.ensures
    (c.sqrt.ensures.value ∙ ap (sqrt binary64) c.norm_sq.ensures)
