-- `mesh_sums::corner` meets its contract. Assumes nothing.
use mathlib.Core.Path.{ap, ◌∙◌}
use Rattle.math.specs.declared.Vec3.{Vec3}
use Prim.Native.Nat.{ℕ}
use Rattle.mesh_spec.specs.Slices.{vertex_at}
use Rattle.mesh_sums.proofs.corner.Goals as goal

pub returns : goal.returns
returns c = c.vertex.ensures ∙ ap {B = Vec3} (λ (j : ℕ). vertex_at c.args.vertices.now j) c.wide.ensures
