-- Edges counted by hand: of the four faces of a tetrahedron, and of one triangle. Assumes nothing.
use Rattle.std.specs.Prelude.{◌≡◌, ◌∷◌}
use Rattle.mesh_balance_spec.specs.Count.{EdgesBalance}
use Rattle.mesh_balance_spec.proofs.CountLaws.{balanced_edges}
use Rattle.mesh_balance_spec.specs.Examples.{faces_balance, tetrahedron}

-- each of its edges is used once each way
pub tetrahedron_balances : EdgesBalance tetrahedron
tetrahedron_balances = balanced_edges tetrahedron faces_balance
