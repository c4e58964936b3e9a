-- The steps of Horner's rule on floats beside the same steps on exact fractions: how far a product and a sum move away from them. Assumes nothing.
use Prim.Native.Nat.{ℕ, ◌+◌, ◌*◌, ◌≤◌, ◌<◌}
use native.Mathlib.Nat.{le_trans, mul-le-mul_right, mul-le-mul, le_of_mul-le-mul_right}
use native.Mathlib.Omega.{arith}
use mathlib.Core.Bool.{Bool, true, false}
use lib.Pow.{pow_pos}
use lib.Ieee.{Float, Format, low, unlike, round, add, mul}
use lib.Ieee.Exact.{HasValue}
use lib.Ieee.Scale.{grid}
use Rattle.ieee.specs.Order.{plus, minus}
use Rattle.trig_law.proofs.Rounded.{scale, slack, slack_le, Rounds, round_value, Multiplied, multiplied, Added, added}

-- up / l is no more than k * e / l above P / S − N / S, where up − down is a number of units
abbrev pub Over : ℕ → ℕ → ℕ → ℕ → ℕ → ℕ → ℕ → ℕ → Type 0
Over l e k up down P N S = up * S + N * l ≤ down * S + P * l + k * (e * S)

-- x is finite, and within k * slack / scale of (P − N) / S
pub record Close (f : Format) (k : ℕ) (x : Float) (P N S : ℕ) : Type 0 where
  pub sign : Bool
  pub units : ℕ
  pub is : HasValue x sign units (scale f)
  pub over : Over (scale f) (slack f) k (plus sign units) (minus sign units) P N S
  pub under : Over (scale f) (slack f) k (minus sign units) (plus sign units) N P S

-- a fraction of at most 4, and k * slack of at most 1
pub record Small (f : Format) (k P N S : ℕ) : Type 0 where
  pub some : 0 < S
  pub four : P + N ≤ 4 * S
  pub one : k * slack f ≤ scale f

-- the first for a plus sign, the second for a minus sign
abbrev pub pick : Bool → ℕ → ℕ → ℕ
pick false a b = a
pick true a b = b

-- ---- then the float is at most 5 in size
five : (f : Format) (k : ℕ) (x : Float) (P N S : ℕ) → Small f k P N S → (c : Close f k x P N S) → c.units ≤ 5 * scale f
five f k x P N S b c =
    le_of_mul-le-mul_right
    (go c.sign c.units (scale f) (slack f) c.over c.under (mul-le-mul_right (scale f) b.four) (mul-le-mul_right S b.one)) b.some
  where
    go : (s : Bool) (u l e : ℕ) → Over l e k (plus s u) (minus s u) P N S → Over l e k (minus s u) (plus s u) N P S
        → (P + N) * l ≤ 4 * S * l → k * e * S ≤ l * S → u * S ≤ 5 * l * S
    go false u l e o d h w = omega arith
    go true u l e o d h w = omega arith

-- ---- a product with z, which is Z / Q rounded, y units, of at most 1 in size
product : (hp hn P N S Q Z y l e k tp tn : ℕ) → 0 < l → tp * l + hn * y ≤ tn * l + hp * y + l * e → Over l e k hp hn P N S
    → Rounds Z Q y l e → y ≤ l → P + N ≤ 4 * S → Over l e (k + 5) tp tn (Z * P) (Z * N) (Q * S)
product hp hn P N S Q Z y l e k tp tn L t h r w b =
    le_of_mul-le-mul_right
    (omega (
      arith,
      chain (tp * (Q * S) * l) (tn * (Q * S) * l) (hp * S * (y * Q)) (hn * S * (y * Q)) (P * (y * Q) * l) (N * (y * Q) * l) (P * Z * l * l) (N * Z * l * l)
          (P * Q * e * l) (N * Q * e * l) (k * e * S * (y * Q)) (k * (e * (Q * S) * l)) (e * (Q * S) * l)
          (omega (arith, mul-le-mul_right (Q * S) t)) (omega (arith, mul-le-mul_right (y * Q) h))
          (omega (arith, mul-le-mul_right (P * l) r.over)) (omega (arith, mul-le-mul_right (N * l) r.under))
          (omega (arith, mul-le-mul_right (k * e * S * Q) w)) (omega (arith, mul-le-mul_right (Q * e * l) b)),
    )) L
  where
    chain : (x1 x2 h1 h2 p1 n1 pz nz pe ne ke kE E : ℕ) → x1 + h2 ≤ x2 + h1 + E → h1 + n1 ≤ h2 + p1 + ke → p1 ≤ pz + pe → nz ≤ n1 + ne → ke ≤ kE
        → pe + ne ≤ 4 * E → x1 + nz ≤ x2 + pz + kE + 5 * E
    chain x1 x2 h1 h2 p1 n1 pz nz pe ne ke kE E a b c d u v = omega arith

-- what rounding says of the product's size: g * (l * l) is near a * y * l
less_l : (a y l e g : ℕ) → 0 < l → Rounds (a * y) (l * l) g l e → (g * l ≤ a * y + l * e) × (a * y ≤ g * l + l * e)
less_l a y l e g L r = (le_of_mul-le-mul_right (omega (arith, r.over)) L, le_of_mul-le-mul_right (omega (arith, r.under)) L)

pub close_mul : (f : Format) (k : ℕ) (x z : Float) (P N S : ℕ) (t : Bool) (y Z Q : ℕ) → Small f k P N S → Close f k x P N S
    → HasValue z t y (scale f) → Rounds Z Q y (scale f) (slack f) → y ≤ scale f
    → Close f (k + 5) (mul f x z) (pick t (Z * P) (Z * N)) (pick t (Z * N) (Z * P)) (Q * S)
close_mul f k x z P N S t y Z Q b c v r w =
    go c.sign t m.units m.is c.over c.under (less_l u y l (slack f) m.units (pow_pos (low f)) m.near)
  where
    l : ℕ
    l = scale f

    u : ℕ
    u = c.units

    m : Multiplied f x z c.sign t u y
    m = multiplied f x z c.sign t u y c.is v (le_trans (mul-le-mul (five f k x P N S b c) w) (omega arith))

    turned : N + P ≤ 4 * S
    turned = omega (arith, b.four)

    -- one side, for the two signs of x and of the product
    step : (hp hn P N tp tn : ℕ) → tp * l + hn * y ≤ tn * l + hp * y + l * slack f → Over l (slack f) k hp hn P N S → P + N ≤ 4 * S
        → Over l (slack f) (k + 5) tp tn (Z * P) (Z * N) (Q * S)
    step hp hn P N tp tn a h b = product hp hn P N S Q Z y l (slack f) k tp tn (pow_pos (low f)) a h r w b

    go : (s t : Bool) (g : ℕ) → HasValue (mul f x z) (unlike s t) g l → Over l (slack f) k (plus s u) (minus s u) P N S
        → Over l (slack f) k (minus s u) (plus s u) N P S → (g * l ≤ u * y + l * slack f) × (u * y ≤ g * l + l * slack f)
        → Close f (k + 5) (mul f x z) (pick t (Z * P) (Z * N)) (pick t (Z * N) (Z * P)) (Q * S)
    go false false g i o d n = record {
      sign = false;
      units = g;
      is = i;
      over = step u 0 P N g 0 (omega arith) o b.four;
      under = step 0 u N P 0 g (omega arith) d turned;
    }
    go true false g i o d n = record {
      sign = true;
      units = g;
      is = i;
      over = step 0 u P N 0 g (omega arith) o b.four;
      under = step u 0 N P g 0 (omega arith) d turned;
    }
    go false true g i o d n = record {
      sign = true;
      units = g;
      is = i;
      over = step 0 u N P 0 g (omega arith) d turned;
      under = step u 0 P N g 0 (omega arith) o b.four;
    }
    go true true g i o d n = record {
      sign = false;
      units = g;
      is = i;
      over = step u 0 N P g 0 (omega arith) d turned;
      under = step 0 u P N 0 g (omega arith) o b.four;
    }

-- ---- a sum with a coefficient, ±1 / F rounded
sum_step : (rp rn tp tn cp cn Cp Cn P N S F l e k : ℕ) → rp + tn + cn ≤ rn + tp + cp + e → Over l e k tp tn P N S → cp * F + Cn * l ≤ cn * F + Cp * l + F * e
    → Over l e (k + 2) rp rn (Cp * S + F * P) (Cn * S + F * N) (F * S)
sum_step rp rn tp tn cp cn Cp Cn P N S F l e k a h c =
    omega (
      arith,
      chain (rp * (F * S)) (rn * (F * S)) (tp * (F * S)) (tn * (F * S)) (cp * (F * S)) (cn * (F * S)) (Cn * S * l) (Cp * S * l) (F * N * l) (F * P * l)
          (e * (F * S)) (k * (e * (F * S)))
          (omega (arith, mul-le-mul_right (F * S) a)) (omega (arith, mul-le-mul_right F h)) (omega (arith, mul-le-mul_right S c)),
    )
  where
    chain : (r1 r2 t1 t2 c1 c2 C2 C1 n p E kE : ℕ) → r1 + t2 + c2 ≤ r2 + t1 + c1 + E → t1 + n ≤ t2 + p + kE → c1 + C2 ≤ c2 + C1 + E
        → r1 + C2 + n ≤ r2 + C1 + p + kE + 2 * E
    chain r1 r2 t1 t2 c1 c2 C2 C1 n p E kE a b c = omega arith

-- ±1 / F rounded, as differences
pub record Coefficient (t : Bool) (g F l e : ℕ) : Type 0 where
  pub over : plus t g * F + minus t 1 * l ≤ minus t g * F + plus t 1 * l + F * e
  pub under : minus t g * F + plus t 1 * l ≤ plus t g * F + minus t 1 * l + F * e

coefficient : (t : Bool) (g F l e : ℕ) → Rounds 1 F g l e → Coefficient t g F l e
coefficient false g F l e r = record { over = omega arith; under = omega arith }
coefficient true g F l e r = record { over = omega arith; under = omega arith }

pub close_add : (f : Format) (k : ℕ) (x : Float) (P N S : ℕ) (t : Bool) (F : ℕ) → 0 < F → Small f k P N S → Close f k x P N S
    → Close f (k + 2) (add f x (round f t 1 F)) (plus t 1 * S + F * P) (minus t 1 * S + F * N) (F * S)
close_add f k x P N S t F p b c = record {
  sign = a.sign;
  units = a.units;
  is = a.is;
  over = sum_step (plus a.sign a.units) (minus a.sign a.units) (plus c.sign c.units) (minus c.sign c.units) (plus t g) (minus t g)
      (plus t 1) (minus t 1) P N S F (scale f) (slack f) k a.over c.over n.over;
  under = sum_step (minus a.sign a.units) (plus a.sign a.units) (minus c.sign c.units) (plus c.sign c.units) (minus t g) (plus t g)
      (minus t 1) (plus t 1) N P S F (scale f) (slack f) k a.under c.under n.under;
}
  where
    g : ℕ
    g = grid f 1 F

    r : HasValue (round f t 1 F) t (grid f 1 F) (scale f) × Rounds 1 F (grid f 1 F) (scale f) (slack f)
    r = round_value f t 1 F p (omega (arith, p))

    n : Coefficient t (grid f 1 F) F (scale f) (slack f)
    n = coefficient t (grid f 1 F) F (scale f) (slack f) r.1

    two : grid f 1 F ≤ 2 * scale f
    two = le_of_mul-le-mul_right (omega (arith, r.1.over, mul-le-mul_right (scale f) p, mul-le-mul_right F (slack_le f))) p

    a : Added f (add f x (round f t 1 F)) c.sign t c.units (grid f 1 F)
    a = added f x (round f t 1 F) c.sign t c.units (grid f 1 F) c.is r.0 (omega (arith, five f k x P N S b c, two))
