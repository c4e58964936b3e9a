-- `mesh_measures::bounding_box` meets its contract. Assumes nothing.
use Rattle.mesh_check.specs.State.{state}
use Rattle.mesh_measures.proofs.Readings.{box_given}
use Rattle.mesh_measures.proofs.bounding_box.Goals as goal

pub returns : goal.returns
returns c =
    let a = c.args in
    box_given (state a.mesh a.vertices.now a.triangles.now) c.check.result c.check.ensures
