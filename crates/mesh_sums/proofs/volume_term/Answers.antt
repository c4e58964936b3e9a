-- `mesh_sums::volume_term` meets its contract. Assumes nothing.
use Rattle.mesh_sums.proofs.Terms.{volume_value}
use Rattle.mesh_sums.proofs.volume_term.Goals as goal

pub returns : goal.returns
returns c =
    let a = c.args in
    volume_value a.vertices.now a.triangles.now a.i c.corner-a.result c.corner-b.result
    c.corner-c.result c.cross.result c.dot.result
    c.corner-a.ensures c.corner-b.ensures c.corner-c.ensures c.cross.ensures c.dot.ensures
