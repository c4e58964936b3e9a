-- `mesh_box::same_box` meets its contract. Assumes nothing.
use mathlib.Core.Path.{◌≡◌, ◌∙◌, sym}
use mathlib.Core.Bool.{◌&&◌}
use lib.Ieee.{eq}
use Rattle.std.proofs.Math.Bool.{and_assoc}
use Rattle.math.specs.declared.Vec3.{Vec3}
use Rattle.mesh_spec.specs.Mesh.{same_point}
use Rattle.mesh_spec.specs.Measures.{same_box}
use Rattle.mesh_box.proofs.same_box.Goals as goal

regrouped : (p q : Vec3) → (eq p.x q.x && (eq p.y q.y && eq p.z q.z)) ≡ same_point p q
unfolding same_point
regrouped p q = sym (and_assoc (eq p.x q.x) (eq p.y q.y) (eq p.z q.z))

pub returns : goal.returns
unfolding same_box
returns c = let s = c.args in c.eq.ensures ∙ (λ i. regrouped s.a.min s.b.min i && regrouped s.a.max s.b.max i)
