-- `mesh_check::empty_record` meets its contract: counts 0 and the empty box. Assumes nothing.
use Rattle.mesh_check.proofs.empty_record.Goals as goal

pub returns : goal.returns
returns c = cc
