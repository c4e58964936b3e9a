-- The two sums of the formula, as floats, are close to the exact ones. Assumes nothing.
use mathlib.Core.Path.{◌≡◌, subst}
use Prim.Native.Nat.{ℕ, suc, ◌+◌, ◌-◌, ◌*◌, ◌≤◌, ◌<◌}
use native.Mathlib.Nat.{mul-pos, mul-le-mul, mul-le-mul_right, le_of_mul-le-mul_right}
use native.Mathlib.Omega.{arith}
use mathlib.Core.Bool.{Bool, true, false}
use lib.Ieee.{Float, Format, round, mul}
use lib.Ieee.Exact.{HasValue}
use lib.Ieee.Scale.{grid}
use Rattle.ieee.specs.Same.{mul_swap}
use Rattle.trig_spec.specs.Formula.{factorial}
use Rattle.trig_law.proofs.Rounded.{scale, slack, Rounds, round_value}
use Rattle.trig_law.proofs.Steps.{Close, pick, close_mul}
use Rattle.trig_law.proofs.Horner.{under, part, under_pos, four, horner_in, coefficients, last, counted, close}

-- for x = ±a / b with 4 a ≤ 3 b, beside n exact terms, of which nine have a coefficient
module _ (f : Format) (a b : ℕ) (some : 0 < b) (h : 4 * a ≤ 3 * b) (much : 100 * slack f ≤ scale f) (n : ℕ) (nine : 9 ≤ n) where
  square : 16 * (a * a) ≤ 9 * (b * b)
  square = omega (arith, mul-le-mul h h)

  bounded : (y Z Q l e : ℕ) → 0 < Q → 4 * Z ≤ 3 * Q → 100 * e ≤ l → Rounds Z Q y l e → y ≤ l
  bounded y Z Q l e p s w r = le_of_mul-le-mul_right (omega (arith, mul-le-mul_right l s, mul-le-mul_right Q w, r.over)) p

  pub sum_close : (k : ℕ) → 4 * scale f ≤ slack f * factorial (suc (suc (last 8 k)))
      → Close f 58 (horner_in f (round f false (a * a) (b * b)) (round f false 1 (factorial k)) (coefficients f true 8 (suc (suc k))))
      (part (a * a) (b * b) false n k) (part (a * a) (b * b) true n k) (under (a * a) (b * b) n k)
  sum_close k big =
      let p = mul-pos some some in
      let z = round f false (a * a) (b * b) in
      let r = round_value f false (a * a) (b * b) p (omega (arith, square)) in
      let small = bounded (grid f (a * a) (b * b)) (a * a) (b * b) (scale f) (slack f) p (omega (arith, square)) much r.1 in
      subst
      (λ n. Close f 58 (horner_in f z (round f false 1 (factorial k)) (coefficients f true 8 (suc (suc k))))
      (part (a * a) (b * b) false n k) (part (a * a) (b * b) true n k) (under (a * a) (b * b) n k)) (all n nine)
      (close f z (grid f (a * a) (b * b)) (a * a) (b * b) p square r.0 r.1 small 8 (n - 9) false k big (omega (arith, much)))
    where
      all : (n : ℕ) → 9 ≤ n → counted 8 (n - 9) ≡ n
      all n h = omega arith

  -- times x
  pub product_close : (x y : Float) (s : Bool) (P N S : ℕ) → 0 < S → P + N ≤ 4 * S → HasValue x s (grid f a b) (scale f) → Close f 58 y P N S
      → Close f 63 (mul f x y) (pick s (a * P) (a * N)) (pick s (a * N) (a * P)) (b * S)
  product_close x y s P N S p g v c =
      let r = round_value f s a b some (omega (arith, h)) in
      let small = bounded (grid f a b) a b (scale f) (slack f) some h much r.1 in
      subst (λ w. Close f 63 w (pick s (a * P) (a * N)) (pick s (a * N) (a * P)) (b * S)) (mul_swap f y x)
      (close_mul f 58 y x P N S s (grid f a b) a b (record { some = p; four = g; one = omega (arith, much) }) c v r.1 small)

  pub sum_some : (k : ℕ) → 0 < under (a * a) (b * b) n k
  sum_some k = under_pos (a * a) (b * b) (mul-pos some some) square n k

  pub sum_four : (k : ℕ) → part (a * a) (b * b) false n k + part (a * a) (b * b) true n k ≤ 4 * under (a * a) (b * b) n k
  sum_four k = four (a * a) (b * b) (mul-pos some some) square n k
