-- The loop that looks for a point among the vertices: none of those passed is it. Assumes nothing.
use mathlib.Core.Path.{◌≡◌, refl, sym, ap, ◌∙◌}
use mathlib.Core.Bool.{Bool, true, false}
use mathlib.Core.List.{List}
use Prim.Native.Nat.{ℕ, ◌+◌, ◌<◌}
use native.Mathlib.Numerals.{add-one}
use lib.Ieee.{Float}
use Rattle.math.specs.declared.Vec3.{Vec3}
use Rattle.figures_same.specs.Vertices.{has_vertex}
use Rattle.figures_same.specs.VerticesLaws.{here, a_vertex}

module _ (v : List Float) (p : Vec3) where
  -- no vertex below m is p
  abbrev pub Passed : ℕ → Type 0
  Passed m = has_vertex v m p ≡ false

  pub none_passed : Passed 0
  unfolding has_vertex
  none_passed = refl

  pub next_passed : (m : ℕ) {b : Bool} → b ≡ here v p m → b ≡ false → Passed m → Passed (m + 1)
  unfolding has_vertex
  next_passed m is e h = simp add-one (rw (h, sym is ∙ e))

  pub found : (n m : ℕ) {b : Bool} → b ≡ here v p m → b ≡ true → m < n → true ≡ has_vertex v n p
  found n m is e k = sym (a_vertex v p n m k (sym is ∙ e))

  pub all_passed : (n m : ℕ) → m ≡ n → Passed m → false ≡ has_vertex v n p
  all_passed n m e h = sym h ∙ ap (λ (k : ℕ). has_vertex v k p) e
