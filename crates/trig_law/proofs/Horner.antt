-- Horner's rule on floats beside Horner's rule on exact fractions, for an alternating sum of 1 / k!, z / (k + 2)!, z ^ 2 / (k + 4)!, …. Assumes nothing.
use Prim.Native.Nat.{ℕ, zero, suc, ◌+◌, ◌*◌, ◌≤◌, ◌<◌}
use native.Mathlib.Nat.{le_trans, zero-lt-suc, mul-pos, mul-le-mul_left, mul-le-mul_right, mul-le-mul, le_of_mul-le-mul_right}
use native.Mathlib.Omega.{arith}
use mathlib.Core.Bool.{Bool, true, false, not}
use mathlib.Core.List.{List, [], ◌∷◌}
use lib.Ieee.{Float, Format, round, add, mul}
use lib.Ieee.Exact.{HasValue}
use lib.Ieee.Scale.{grid}
use Rattle.ieee.specs.Order.{plus, minus}
use Rattle.trig_spec.specs.Formula.{factorial}
use Rattle.trig_law.proofs.Rounded.{scale, slack, Rounds, round_value}
use Rattle.trig_law.proofs.Steps.{Close, close_mul, close_add}

pub factorial_pos : (n : ℕ) → 0 < factorial n
unfolding factorial
factorial_pos zero = zero-lt-suc 0
factorial_pos (suc n) = mul-pos (zero-lt-suc n) (factorial_pos n)

factorial_up : (k : ℕ) → factorial k ≤ factorial (suc (suc k))
unfolding factorial
factorial_up k = go (factorial k)
  where
    go : (g : ℕ) → g ≤ suc (suc k) * (suc k * g)
    go g = omega arith

-- ---- the exact sum of n terms from 1 / k! on, at z = Z / Q: the terms that are added make part false / under, those that are subtracted part true / under
module _ (Z Q : ℕ) where
  unfoldable pub under : ℕ → ℕ → ℕ
  under zero k = 1
  under (suc n) k = factorial k * (Q * under n (suc (suc k)))

  unfoldable pub part : Bool → ℕ → ℕ → ℕ
  unfolding under
  part s zero k = 0
  part s (suc n) k = plus s 1 * (Q * under n (suc (suc k))) + factorial k * (Z * part (not s) n (suc (suc k)))

-- ---- its size, for z ≤ 9 / 16
module _ (Z Q : ℕ) (some : 0 < Q) (z : 16 * Z ≤ 9 * Q) where
  pub under_pos : (n k : ℕ) → 0 < under Z Q n k
  unfolding under
  under_pos zero k = zero-lt-suc 0
  under_pos (suc n) k = mul-pos (factorial_pos k) (mul-pos some (under_pos n (suc (suc k))))

  size : (n k : ℕ) → (part Z Q false n k + part Z Q true n k) * factorial k ≤ 4 * under Z Q n k
  unfolding part under
  size zero k = omega arith
  size (suc n) k =
      go (factorial k) (factorial (suc (suc k))) (under Z Q n (suc (suc k))) (part Z Q false n (suc (suc k))) (part Z Q true n (suc (suc k)))
      (factorial_up k) (size n (suc (suc k)))
    where
      go : (F G S p m : ℕ) → F ≤ G → (p + m) * G ≤ 4 * S
          → (1 * (Q * S) + F * (Z * m) + (0 * (Q * S) + F * (Z * p))) * F ≤ 4 * (F * (Q * S))
      go F G S p m g h = omega (arith, mul-le-mul_right (Z * F) (le_trans (mul-le-mul_left (p + m) g) h), mul-le-mul_right (S * F) z)

  pub four : (n k : ℕ) → part Z Q false n k + part Z Q true n k ≤ 4 * under Z Q n k
  four n k =
      go (part Z Q false n k + part Z Q true n k) (factorial k) (mul-le-mul_left (part Z Q false n k + part Z Q true n k) (factorial_pos k)) (size n k)
    where
      go : (p F : ℕ) → p * 1 ≤ p * F → p * F ≤ 4 * under Z Q n k → p ≤ 4 * under Z Q n k
      go p F a b = omega arith

-- ---- Horner's rule on floats, in any format
unfoldable pub horner_in : Format → Float → Float → List Float → Float
horner_in f z c [] = c
horner_in f z c (d ∷ ds) = add f (mul f (horner_in f z d ds) z) c

-- n coefficients ±1 / k!, ∓1 / (k + 2)!, …, each rounded once
unfoldable pub coefficients : Format → Bool → ℕ → ℕ → List Float
coefficients f s zero k = []
coefficients f s (suc n) k = round f s 1 (factorial k) ∷ coefficients f (not s) n (suc (suc k))

-- k of the last of n coefficients after the one of k
abbrev pub last : ℕ → ℕ → ℕ
last zero k = k
last (suc n) k = last n (suc (suc k))

-- how many times `slack` Horner's rule of n steps is off
abbrev pub off : ℕ → ℕ
off zero = 2
off (suc n) = off n + 5 + 2

-- the terms of n steps and of the last coefficient, and j more, which Horner's rule leaves out
abbrev pub counted : ℕ → ℕ → ℕ
counted zero j = suc j
counted (suc n) j = suc (counted n j)

-- ±1 / F rounded, beside ±1 / F + (a − b) / (F * W), where a and b are the terms left out
base : (f : Format) (s : Bool) (F W a b : ℕ) → 0 < F → a * scale f ≤ slack f * (F * W) → b * scale f ≤ slack f * (F * W)
    → Close f 2 (round f s 1 F) (plus s 1 * W + a) (minus s 1 * W + b) (F * W)
base f s F W a b p A B = go s (round_value f s 1 F p (omega (arith, p)))
  where
    go : (s : Bool) → HasValue (round f s 1 F) s (grid f 1 F) (scale f) × Rounds 1 F (grid f 1 F) (scale f) (slack f)
        → Close f 2 (round f s 1 F) (plus s 1 * W + a) (minus s 1 * W + b) (F * W)
    go false q = record {
      sign = false;
      units = grid f 1 F;
      is = q.0;
      over = omega (arith, mul-le-mul_right W q.1.over);
      under = omega (arith, mul-le-mul_right W q.1.under);
    }
    go true q = record {
      sign = true;
      units = grid f 1 F;
      is = q.0;
      over = omega (arith, mul-le-mul_right W q.1.under);
      under = omega (arith, mul-le-mul_right W q.1.over);
    }

-- ---- z is Z / Q ≤ 9 / 16, rounded once: y units
module _
    (f : Format) (z : Float) (y Z Q : ℕ) (some : 0 < Q) (h : 16 * Z ≤ 9 * Q) (v : HasValue z false y (scale f)) (r : Rounds Z Q y (scale f) (slack f))
    (w : y ≤ scale f) where
  -- what is left out: p / S ≤ 4 / G
  tail : (p G S l e F : ℕ) → 0 < G → p * G ≤ 4 * S → 4 * l ≤ e * G → F * (Z * p) * l ≤ e * (F * (Q * S))
  tail p G S l e F P a b =
      let less : Z ≤ Q = omega (arith, h) in
      let g : p * l ≤ S * e = le_of_mul-le-mul_right (omega (arith, mul-le-mul_right l a, mul-le-mul_right S b)) P in
      omega (arith, mul-le-mul_left F (mul-le-mul less g))

  -- the last coefficient alone
  last_one : (j : ℕ) (s : Bool) (k : ℕ) → 4 * scale f ≤ slack f * factorial (suc (suc k))
      → Close f 2 (round f s 1 (factorial k)) (part Z Q s (suc j) k) (part Z Q (not s) (suc j) k) (under Z Q (suc j) k)
  unfolding part under
  last_one j s k big = go s (size Z Q some h j (suc (suc k)))
    where
      S : ℕ
      S = under Z Q j (suc (suc k))

      left_out : (p : ℕ) → p * factorial (suc (suc k)) ≤ 4 * S → factorial k * (Z * p) * scale f ≤ slack f * (factorial k * (Q * S))
      left_out p a = tail p (factorial (suc (suc k))) S (scale f) (slack f) (factorial k) (factorial_pos (suc (suc k))) a big

      go : (s : Bool) → (part Z Q false j (suc (suc k)) + part Z Q true j (suc (suc k))) * factorial (suc (suc k)) ≤ 4 * S
          → Close f 2 (round f s 1 (factorial k)) (part Z Q s (suc j) k) (part Z Q (not s) (suc j) k) (under Z Q (suc j) k)
      go false g =
          base f false (factorial k) (Q * S) _ _ (factorial_pos k) (left_out (part Z Q true j (suc (suc k))) (omega arith))
          (left_out (part Z Q false j (suc (suc k))) (omega arith))
      go true g =
          base f true (factorial k) (Q * S) _ _ (factorial_pos k) (left_out (part Z Q false j (suc (suc k))) (omega arith))
          (left_out (part Z Q true j (suc (suc k))) (omega arith))

  -- one step of Horner's rule: times z, and the next coefficient added
  step : (o : ℕ) (H : Float) (P N S : ℕ) (s : Bool) (k : ℕ) → 0 < S → P + N ≤ 4 * S → (o + 5 + 2) * slack f ≤ scale f → Close f o H P N S
      → Close f (o + 5 + 2) (add f (mul f H z) (round f s 1 (factorial k))) (plus s 1 * (Q * S) + factorial k * (Z * P))
      (minus s 1 * (Q * S) + factorial k * (Z * N)) (factorial k * (Q * S))
  step o H P N S s k p g room c =
      close_add f (o + 5) (mul f H z) (Z * P) (Z * N) (Q * S) s (factorial k) (factorial_pos k)
      (record { some = mul-pos some p; four = omega (arith, mul-le-mul_left Z g, mul-le-mul_right S h); one = omega arith })
      (close_mul f o H z P N S false y Z Q (record { some = p; four = g; one = omega arith }) c v r w)

  pub close : (n j : ℕ) (s : Bool) (k : ℕ) → 4 * scale f ≤ slack f * factorial (suc (suc (last n k))) → off n * slack f ≤ scale f
      → Close f (off n) (horner_in f z (round f s 1 (factorial k)) (coefficients f (not s) n (suc (suc k)))) (part Z Q s (counted n j) k)
      (part Z Q (not s) (counted n j) k) (under Z Q (counted n j) k)
  unfolding horner_in coefficients part under
  close zero j s k big room = last_one j s k big
  close (suc n) j false k big room =
      step (off n) _ _ _ _ false k (under_pos Z Q some h (counted n j) (suc (suc k))) (omega (arith, four Z Q some h (counted n j) (suc (suc k)))) room
      (close n j true (suc (suc k)) big (omega arith))
  close (suc n) j true k big room =
      step (off n) _ _ _ _ true k (under_pos Z Q some h (counted n j) (suc (suc k))) (four Z Q some h (counted n j) (suc (suc k))) room
      (close n j false (suc (suc k)) big (omega arith))
