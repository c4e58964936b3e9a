-- An integer as a difference of two natural numbers; and the exact series as x ^ k times the sum of Horner.antt. Assumes nothing.
use mathlib.Core.Path.{◌≡◌, refl, sym, ap, ◌∙◌, subst}
use Prim.Native.Nat.{ℕ, zero, suc, ◌+◌, ◌-◌, ◌*◌, ◌^◌, ◌≤◌, ◌<◌}
use native.Mathlib.Nat.{zero-lt-suc, mul_assoc, mul-pos, pow-zero, pow-suc}
use native.Mathlib.Omega.{arith}
use mathlib.Core.Bool.{Bool, true, false, not, cond}
use lib.Dec.{T, ltb, ltb→lt, nltb→le}
use lib.IntN.{ℤ, pos, negsuc, neg_ℤ, nat_abs, pow, one, sub_ℕ, ◌+ℤ◌, ◌-ℤ◌, ◌*ℤ◌}
use lib.Ieee.{unlike}
use Rattle.ieee.specs.Order.{plus, minus}
use Rattle.ieee_whole.specs.Whole.{signed}
use Rattle.trig_spec.specs.Formula.{factorial}
use Rattle.trig_law.specs.Series.{SignedFraction, series}
use Rattle.trig_law.proofs.Steps.{pick}
use Rattle.trig_law.proofs.Horner.{factorial_pos, under, part}

-- ---- z is above z − below z
abbrev pub above : ℤ → ℕ
above (pos n) = n
above (negsuc n) = 0

abbrev pub below : ℤ → ℕ
below (pos n) = 0
below (negsuc n) = suc n

above_neg : (z : ℤ) → above (neg_ℤ z) ≡ below z
above_neg (pos zero) = refl
above_neg (pos (suc n)) = refl
above_neg (negsuc n) = refl

below_neg : (z : ℤ) → below (neg_ℤ z) ≡ above z
below_neg (pos zero) = refl
below_neg (pos (suc n)) = refl
below_neg (negsuc n) = refl

pub above_signed : (s : Bool) (n : ℕ) → above (signed s n) ≡ plus s n
above_signed false n = refl
above_signed true n = above_neg (pos n)

pub below_signed : (s : Bool) (n : ℕ) → below (signed s n) ≡ minus s n
below_signed false n = refl
below_signed true n = below_neg (pos n)

-- a product
above_times : (a b : ℤ) → above (a *ℤ b) ≡ above a * above b + below a * below b
above_times (pos a) (pos b) = omega arith
above_times (pos a) (negsuc b) = omega (arith, above_neg (pos (a * suc b)))
above_times (negsuc a) (pos b) = omega (arith, above_neg (pos (suc a * b)))
above_times (negsuc a) (negsuc b) = omega arith

below_times : (a b : ℤ) → below (a *ℤ b) ≡ above a * below b + below a * above b
below_times (pos a) (pos b) = omega arith
below_times (pos a) (negsuc b) = omega (arith, below_neg (pos (a * suc b)))
below_times (negsuc a) (pos b) = omega (arith, below_neg (pos (suc a * b)))
below_times (negsuc a) (negsuc b) = omega arith

-- a sum, and a difference
sub_parts : (a b : ℕ) → above (sub_ℕ a b) + b ≡ below (sub_ℕ a b) + a
sub_parts a b = go (ltb a b) (ltb→lt a b) (nltb→le a b)
  where
    go : (u : Bool) → (T u → a < b) → (T (not u) → b ≤ a)
        → above (cond u (negsuc (b - suc a)) (pos (a - b))) + b ≡ below (cond u (negsuc (b - suc a)) (pos (a - b))) + a
    go true h k = omega (arith, h tt)
    go false h k = omega (arith, k tt)

plus_parts : (a b : ℤ) → above (a +ℤ b) + below a + below b ≡ below (a +ℤ b) + above a + above b
plus_parts (pos a) (pos b) = omega arith
plus_parts (pos a) (negsuc b) = omega (arith, sub_parts a (suc b))
plus_parts (negsuc a) (pos b) = omega (arith, sub_parts b (suc a))
plus_parts (negsuc a) (negsuc b) = omega arith

minus_parts : (a b : ℤ) → above (a -ℤ b) + below a + above b ≡ below (a -ℤ b) + above a + below b
minus_parts a b = omega (arith, plus_parts a (neg_ℤ b), above_neg b, below_neg b)

-- times a natural number
above_scaled : (z : ℤ) (n : ℕ) → above (z *ℤ pos n) ≡ above z * n
above_scaled z n = omega (arith, above_times z (pos n))

below_scaled : (z : ℤ) (n : ℕ) → below (z *ℤ pos n) ≡ below z * n
below_scaled z n = omega (arith, below_times z (pos n))

-- t * D − q * G, for t = u − v
pub cross : (t q : ℤ) (D G u v : ℕ) → above t ≡ u → below t ≡ v
    → above (t *ℤ pos D -ℤ q *ℤ pos G) + v * D + above q * G ≡ below (t *ℤ pos D -ℤ q *ℤ pos G) + u * D + below q * G
cross t q D G u v h k =
    omega (
      arith,
      minus_parts (t *ℤ pos D) (q *ℤ pos G),
      above_scaled t D,
      below_scaled t D,
      above_scaled q G,
      below_scaled q G,
      ap (λ x. x * D) h,
      ap (λ x. x * D) k,
    )

pub size_bound : (z : ℤ) (c d : ℕ) → above z * c ≤ below z * c + d → below z * c ≤ above z * c + d → nat_abs z * c ≤ d
size_bound (pos n) c d h k = omega arith
size_bound (negsuc n) c d h k = omega arith

-- ---- powers of ±a: t is the sign of the k-th
pub record Power (s t : Bool) (a k : ℕ) : Type 0 where
  pub over : above (pow (signed s a) k) ≡ plus t (a ^ k)
  pub under : below (pow (signed s a) k) ≡ minus t (a ^ k)

pub power_zero : (s : Bool) (a : ℕ) → Power s false a 0
unfolding pow one
power_zero s a = record { over = sym (pow-zero a); under = refl }

power_suc : (s t : Bool) (a k : ℕ) → Power s t a k → Power s (unlike t s) a (suc k)
unfolding pow
power_suc s t a k p =
    let r = go t s (a ^ k) (a ^ suc k) (pow-suc a k) in
    record {
      over = above_times (pow (signed s a) k) (signed s a) ∙ (λ i. p.over i * above_signed s a i + p.under i * below_signed s a i) ∙ r.0;
      under = below_times (pow (signed s a) k) (signed s a) ∙ (λ i. p.over i * below_signed s a i + p.under i * above_signed s a i) ∙ r.1;
    }
  where
    go : (t s : Bool) (u v : ℕ) → v ≡ u * a
        → (plus t u * plus s a + minus t u * minus s a ≡ plus (unlike t s) v) × (plus t u * minus s a + minus t u * plus s a ≡ minus (unlike t s) v)
    go false false u v h = omega arith
    go false true u v h = omega arith
    go true false u v h = omega arith
    go true true u v h = omega arith

pub power_one : (s : Bool) (a : ℕ) → Power s s a 1
power_one false a = power_suc false false a 0 (power_zero false a)
power_one true a = power_suc true false a 0 (power_zero true a)

power_next : (s t : Bool) (a k : ℕ) → Power s t a k → Power s t a (suc (suc k))
power_next false false a k p = power_suc false false a (suc k) (power_suc false false a k p)
power_next false true a k p = power_suc false true a (suc k) (power_suc false true a k p)
power_next true false a k p = power_suc true true a (suc k) (power_suc true false a k p)
power_next true true a k p = power_suc true false a (suc k) (power_suc true true a k p)

-- ---- the series from x ^ k / k! on is x ^ k times the sum from 1 / k! on. x is ±a / b, and t is the sign of x ^ k
-- q is ±(u / v) * (P − N) / S
abbrev pub Times : Bool → ℕ → ℕ → ℕ → ℕ → ℕ → SignedFraction → Type 0
Times t u v P N S q = above q.num * (v * S) + pick t (u * N) (u * P) * q.den ≡ below q.num * (v * S) + pick t (u * P) (u * N) * q.den

-- one term more: ±u / (b * F) less (i − j) / D, which is ±(u * Z / (b * Q)) * (p − m) / S by k, where W is Q * S
module _ (X Y i j D b F W u Z p m : ℕ) where
  c : ℕ
  c = b * F

  d : ℕ
  d = b * (F * W)

  -- u / b times F * W less F * Z * (p − m), both over F * W
  more : ℕ
  more = u * (1 * W + F * (Z * m))

  fewer : ℕ
  fewer = u * (0 * W + F * (Z * p))

  spread : (x y i : ℕ) → (x + y * D + i * c) * d ≡ x * d + y * D * d + i * c * d
  unfolding c d
  spread x y i = omega arith

  spread' : (i y : ℕ) → (i * (b * W) + y * D) * (c * F) ≡ i * c * d + y * D * (c * F)
  unfolding c d
  spread' i y = omega arith

  signed_sum : (t : Bool) (X1 Y1 i1 j1 : ℕ) → X1 + minus t u * D * d + i1 ≡ Y1 + plus t u * D * d + j1
      → i1 + pick t (u * Z * m) (u * Z * p) * D * (c * F) ≡ j1 + pick t (u * Z * p) (u * Z * m) * D * (c * F)
      → X1 + pick t fewer more * (b * F * D) ≡ Y1 + pick t more fewer * (b * F * D)
  unfolding c d more fewer
  signed_sum false X1 Y1 i1 j1 x y = omega arith
  signed_sum true X1 Y1 i1 j1 x y = omega arith

  one_more : (t : Bool) (u2 v2 : ℕ) → X + minus t u * D + i * (b * F) ≡ Y + plus t u * D + j * (b * F)
      → i * v2 + pick t (u2 * m) (u2 * p) * D ≡ j * v2 + pick t (u2 * p) (u2 * m) * D → v2 ≡ b * W → u2 ≡ u * Z
      → X * (b * (F * W)) + pick t (u * (0 * W + F * (Z * p))) (u * (1 * W + F * (Z * m))) * (b * F * D)
      ≡ Y * (b * (F * W)) + pick t (u * (1 * W + F * (Z * m))) (u * (0 * W + F * (Z * p))) * (b * F * D)
  unfolding c d more fewer
  one_more t u2 v2 h k e g =
      signed_sum t (X * d) (Y * d) (i * c * d) (j * c * d)
      (sym (spread X (minus t u) i) ∙ ap (λ x. x * d) h ∙ spread Y (plus t u) j)
      (sym (spread' i (pick t (u * Z * m) (u * Z * p))) ∙ ap (λ x. x * (c * F)) opened ∙ spread' j (pick t (u * Z * p) (u * Z * m)))
    where
      opened : i * (b * W) + pick t (u * Z * m) (u * Z * p) * D ≡ j * (b * W) + pick t (u * Z * p) (u * Z * m) * D
      opened = sym (λ n. i * e n + pick t (g n * m) (g n * p) * D) ∙ k ∙ (λ n. j * e n + pick t (g n * p) (g n * m) * D)

pub times : (s t : Bool) (a b n k : ℕ) → Power s t a k
    → Times t (a ^ k) (b ^ k) (part (a * a) (b * b) false n k) (part (a * a) (b * b) true n k) (under (a * a) (b * b) n k)
    (series n k (record { num = signed s a; den = b }))
unfolding series part under
times s t a b zero k p = refl
times s t a b (suc n) k p =
    let q = series n (suc (suc k)) (record { num = signed s a; den = b }) in
    let N = pow (signed s a) k *ℤ pos q.den -ℤ q.num *ℤ pos (b ^ k * factorial k) in
    let S = under (a * a) (b * b) n (suc (suc k)) in
    one_more (above N) (below N) (above q.num) (below q.num) q.den (b ^ k) (factorial k) (b * b * S) (a ^ k) (a * a)
    (part (a * a) (b * b) false n (suc (suc k))) (part (a * a) (b * b) true n (suc (suc k))) t (a ^ suc (suc k)) (b ^ suc (suc k) * S)
    (cross (pow (signed s a) k) q.num q.den (b ^ k * factorial k) (plus t (a ^ k)) (minus t (a ^ k)) p.over p.under)
    (times s t a b n (suc (suc k)) (power_next s t a k p)) (ap (λ x. x * S) (square b k) ∙ mul_assoc (b ^ k) (b * b) S) (square a k)
  where
    square : (a k : ℕ) → a ^ suc (suc k) ≡ a ^ k * (a * a)
    square a k = omega (arith, pow-suc a (suc k), ap (λ x. x * a) (pow-suc a k))

-- ---- every denominator is above 0, so that `Within` says something
power_pos : (b k : ℕ) → 0 < b → 0 < b ^ k
power_pos b zero p = subst (λ x. 0 < x) (sym (pow-zero b)) (zero-lt-suc 0)
power_pos b (suc k) p = subst (λ x. 0 < x) (sym (pow-suc b k)) (mul-pos (power_pos b k p) p)

pub series_pos : (n k : ℕ) (x : SignedFraction) → 0 < x.den → 0 < (series n k x).den
unfolding series
series_pos zero k x p = zero-lt-suc 0
series_pos (suc n) k x p = mul-pos (mul-pos (power_pos x.den k p) (factorial_pos k)) (series_pos n (suc (suc k)) x p)
