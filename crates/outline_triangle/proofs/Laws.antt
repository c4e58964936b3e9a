-- Laws of one triangle's tests, in the form that the code goes by. Assumes nothing.
use Prim.Native.Nat.{ℕ, ◌+◌, ◌<◌, ◌≤◌}
use mathlib.Core.Path.{◌≡◌, refl, sym, ap, ◌∙◌}
use mathlib.Core.Bool.{Bool, true, false, not, ◌&&◌, ◌||◌, and-true, and-false, and_comm}
use mathlib.Core.List.{List, [], ◌∷◌}
use Rattle.std.proofs.Common.{fold}
use lib.ListN.{length, get_or, drop, drop_of_length-le}
use lib.Seq.{drop-cons}
use lib.Dec.{eqb}
use lib.Ieee.{Float, nan, neg, le}
use borrow.Author.Tests.{eq-eqb, ne_eqb}
use Rattle.ieee.specs.Number.{absolute, maximum}
use Rattle.outline.specs.declared.Point.{Point}
use Rattle.outline.specs.Corners.{point, same}
use Rattle.outline_triangle.specs.Triangle.{cross, largest, in_triangle, blocks}
use Rattle.outline_triangle.specs.declared.Triangle.{Triangle}

-- ---- the largest absolute value of a coordinate

pub largest_is : (m : Float) (v : List Float) → largest m v ≡ fold (λ m x. maximum m (absolute x)) m v
unfolding largest
largest_is m [] = refl
largest_is m (x ∷ v) = largest_is (maximum m (absolute x)) v

-- ---- the test on a triangle, by what the code has found

none_of : (a b : Bool) → false ≡ (a && (b && false))
none_of true true = refl
none_of true false = refl
none_of false b = refl

-- the code tests the sides from c to a and from b to c at once
module _ (e : Float) (a b c p : Point) {y z : Float} (ez : z ≡ cross c a p) (ey : y ≡ cross b c p) where
  in_triangle_by : {x : Float} {u : Bool} → (le (neg e) z && le (neg e) y) ≡ u → x ≡ cross a b p → (le (neg e) x && u) ≡ in_triangle e a b c p
  unfolding in_triangle
  in_triangle_by {x} h ex = rw (← ex, ← ey, ← ez) (ap {B = Bool} (λ (t : Bool). le (neg e) x && t) (sym h ∙ and_comm (le (neg e) z) (le (neg e) y)))

  pub in_triangle_third : {x : Float} → (le (neg e) z && le (neg e) y) ≡ true → x ≡ cross a b p → le (neg e) x ≡ in_triangle e a b c p
  in_triangle_third {x} h ex = sym (and-true (le (neg e) x)) ∙ in_triangle_by h ex

  pub in_triangle_beyond : (le (neg e) z && le (neg e) y) ≡ false → false ≡ in_triangle e a b c p
  in_triangle_beyond h = sym (and-false (le (neg e) (cross a b p))) ∙ in_triangle_by h refl

-- ---- whether a corner blocks an ear, by the code's three tests

blocks_order : (a b c : Bool) → (a && (not b && not c)) ≡ (not b && (not c && a))
blocks_order a true c = and-false a
blocks_order true false c = sym (and-true (not c))
blocks_order false false c = sym (and-false (not c))

module _ (v : List Float) (e : Float) (t : Triangle) (o : ℕ) {p : Point} (hp : p ≡ point v o) where
  pub blocks_by : {a b c : Bool} → a ≡ in_triangle e t.a t.b t.c p → b ≡ (eqb o t.ip || (eqb o t.ic || eqb o t.inx))
      → c ≡ (same p t.a || (same p t.b || same p t.c)) → (a && (not b && not c)) ≡ blocks v e t o
  unfolding blocks
  blocks_by {a} {b} {c} ha hb hc = blocks_order a b c ∙ rw (ha, hb, hc, hp)

  pub blocks_outside : {a : Bool} → a ≡ in_triangle e t.a t.b t.c p → a ≡ false → false ≡ blocks v e t o
  unfolding blocks
  blocks_outside {a} ha h = blocks_by {b = eqb o t.ip || (eqb o t.ic || eqb o t.inx)} {c = same p t.a || (same p t.b || same p t.c)} (sym h ∙ ha) refl refl

  pub blocks_named : {a b : Bool} → a ≡ in_triangle e t.a t.b t.c p → b ≡ (eqb o t.ip || (eqb o t.ic || eqb o t.inx)) → not b ≡ false → false ≡ blocks v e t o
  unfolding blocks
  blocks_named {a} {b} ha hb h =
      let c = same p t.a || (same p t.b || same p t.c) in
      sym (ap (λ (x : Bool). a && (x && not c)) h ∙ and-false a) ∙ blocks_by {c = c} ha hb refl

  pub blocks_touched : {a b c : Bool} → a ≡ in_triangle e t.a t.b t.c p → b ≡ (eqb o t.ip || (eqb o t.ic || eqb o t.inx))
      → c ≡ (same p t.a || (same p t.b || same p t.c)) → a ≡ true → not b ≡ true → not c ≡ blocks v e t o
  blocks_touched {a} {b} {c} ha hb hc h k = sym (ap (λ (x : Bool). x && (not b && not c)) h ∙ ap (λ (x : Bool). x && not c) k) ∙ blocks_by ha hb hc
