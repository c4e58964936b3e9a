-- `solid_grid::guesses::same_or` meets its contract. Assumes nothing.
use mathlib.Core.Path.{◌≡◌, ◌∙◌, sym}
use mathlib.Core.Bool.{Bool, true, false, ◌&&◌, cond}
use Prim.Native.Nat.{ℕ}
use lib.Ieee.{eq}
use Rattle.std.proofs.Math.Bool.{and_assoc}
use Rattle.math.specs.declared.Vec3.{Vec3}
use Rattle.mesh_spec.specs.Mesh.{same_point}
use Rattle.solid_grid.proofs.guesses.same_or.Goals as goal

regrouped : (p q : Vec3) → (eq p.x q.x && (eq p.y q.y && eq p.z q.z)) ≡ same_point p q
unfolding same_point
regrouped p q = sym (and_assoc (eq p.x q.x) (eq p.y q.y) (eq p.z q.z))

chosen : (b : Bool) (n other : ℕ) → b ≡ true → n ≡ cond b n other
chosen b n other p = rw p

not_chosen : (b : Bool) (n other : ℕ) → b ≡ false → other ≡ cond b n other
not_chosen b n other p = rw p

pub returns-then-eq : goal.returns-then-eq
returns-then-eq c = let s = c.args in chosen _ s.n s.other (sym (c.eq.ensures ∙ regrouped s.p s.q) ∙ c.if-eq.true)

pub returns-else-eq : goal.returns-else-eq
returns-else-eq c = let s = c.args in not_chosen _ s.n s.other (sym (c.eq.ensures ∙ regrouped s.p s.q) ∙ c.if-eq.false)
