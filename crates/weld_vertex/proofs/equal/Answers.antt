-- `weld_vertex::equal` meets its contract. Assumes nothing.
use mathlib.Core.Path.{◌∙◌, sym}
use lib.Ieee.{eq}
use Rattle.std.proofs.Math.Bool.{and_assoc}
use Rattle.mesh_spec.specs.Mesh.{same_point}
use Rattle.weld_vertex.proofs.equal.Goals as goal

pub returns : goal.returns
unfolding same_point
returns c = let s = c.args in c.eq.ensures ∙ sym (and_assoc (eq s.a.x s.b.x) (eq s.a.y s.b.y) (eq s.a.z s.b.z))
