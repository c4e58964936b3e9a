-- `face_point` by cases, one law for each branch of the code. Assumes nothing.
use mathlib.Core.Path.{◌≡◌, sym, ap}
use Prim.Native.Nat.{ℕ, ◌<◌}
use native.Mathlib.Omega.{arith}
use lib.Ieee.{Float}
use Rattle.math.specs.Vec.{new, with_axis}
use Rattle.surface_spec.specs.Faces.{face_point}

module _ (k : ℕ) (val a b : Float) where
  pub face_0 : k ≡ 0 → new val a b ≡ face_point k val a b
  unfolding face_point with_axis
  face_0 e = ap (λ (n : ℕ). face_point n val a b) (sym e)

  pub face_1 : k ≡ 1 → new b val a ≡ face_point k val a b
  unfolding face_point with_axis
  face_1 e = ap (λ (n : ℕ). face_point n val a b) (sym e)

  pub face_2 : k < 3 → (k ≡ 0 → ⊥) → (k ≡ 1 → ⊥) → new a b val ≡ face_point k val a b
  unfolding face_point with_axis
  face_2 l p q = let e : 2 ≡ k = omega (arith, p, q) in ap (λ (n : ℕ). face_point n val a b) e
