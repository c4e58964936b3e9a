-- What one rounding does to a fraction of at most 8: it moves it by at most 2 ^ -(prec - 4), which is `slack` units of the format's smallest value. The same
-- of a product and of a sum. Assumes nothing.
use mathlib.Core.Path.{◌≡◌, sym, ap, ◌∙◌, subst}
use Prim.Native.Nat.{ℕ, suc, ◌+◌, ◌-◌, ◌*◌, ◌/◌, ◌%◌, ◌^◌, ◌≤◌, ◌<◌, compare}
use native.Mathlib.Nat.{le_trans, le_of_eq, lt_of_le_of_lt, mul-pos, mul-le-mul_left, mul-le-mul_right, mul-le-mul, le_of_mul-le-mul_right}
use native.Mathlib.Nat.{div-mul-le_self, lt-div-mul-add, div-lt_iff_lt-mul, div-div-eq-div-mul}
use native.Mathlib.Omega.{arith}
use mathlib.Core.Bool.{Bool, true, false, not, cond}
use lib.Dec.{T, ltb, ltb→lt, nltb→le, lit≤, lit<}
use lib.Pow.{pow-add, pow_pos, pow_mono, pow-lt}
use lib.Ieee.{Float, nan, inf, fin, Format, binary32, binary64, prec, emax, low, up, down, unlike, size, round, sum, add, mul}
use lib.Ieee.Digits.{size-le}
use lib.Ieee.Fits.{nearest-le, kept-lt, round_is, down_pos}
use lib.Ieee.Exact.{HasValue, units_val}
use lib.Ieee.Nearest.{nearest-ge}
use lib.Ieee.Order.{kept, drop}
use lib.Ieee.Scale.{round_same, grid}
use Rattle.ieee.specs.Order.{plus, minus}

-- 1.0 in units of the format's smallest value
abbrev pub scale : Format → ℕ
scale f = 2 ^ low f

-- what rounding adds or takes away at most, below 8.0, in the same units
abbrev pub slack : Format → ℕ
slack f = 2 ^ (low f + 4 - prec f)

-- ---- what is asked of a format
enough : (f : Format) → prec f ≤ low f + 4
enough binary32 = lit≤ tt
enough binary64 = lit≤ tt

wide : (f : Format) → low f + 4 < low f + suc (emax f)
wide binary32 = lit< tt
wide binary64 = lit< tt

pub slack_le : (f : Format) → slack f ≤ scale f
slack_le binary32 = lit≤ tt
slack_le binary64 = lit≤ tt

-- ---- a fraction: g / l is within e / l of a / c
pub record Rounds (a c g l e : ℕ) : Type 0 where
  pub over : g * c ≤ a * l + c * e
  pub under : a * l ≤ g * c + c * e

near_quotient : (n u w q : ℕ) → w * u ≤ n → n < w * u + u → w ≤ q → q ≤ suc w → (q * u ≤ n + u) × (n ≤ q * u + u)
near_quotient n u w q a b c d = (omega (arith, mul-le-mul_right u d), omega (arith, mul-le-mul_right u c))

-- the digits that `round` drops are at most those of `slack`
few : (f : Format) (a c : ℕ) → 0 < c → a ≤ 8 * c → drop (prec f) (a * scale f) c ≤ low f + 4 - prec f
few f a c C h = go (size (a * scale f / c)) (size-le (a * scale f / c) (low f + 4) ((div-lt_iff_lt-mul C).1 below))
  where
    below : a * scale f < 2 ^ (low f + 4) * c
    below =
        subst (λ (x : ℕ). a * scale f < x * c) (sym (pow-add 2 (low f) 4))
        (omega (arith, mul-le-mul_right (scale f) h, mul-pos (pow_pos (low f)) C))

    go : (z : ℕ) → z ≤ low f + 4 → z - prec f ≤ low f + 4 - prec f
    go z h = omega arith

-- the rounded number of units is that near, and no infinity
rounds : (f : Format) (a c : ℕ) → 0 < c → a ≤ 8 * c → Rounds a c (grid f a c) (scale f) (slack f) × (grid f a c < 2 ^ (low f + suc (emax f)))
rounds f a c C h =
    let n = a * scale f in
    let k = drop (prec f) n c in
    let u = c * 2 ^ k in
    let q = kept (prec f) n c in
    let K = few f a c C h in
    let U : u ≤ c * slack f = mul-le-mul_left c (pow_mono K) in
    let top = nearest-le (n / u) (compare (n % u * 2) u) in
    let Q : q ≤ 2 ^ prec f = le_trans top (subst (λ (x : ℕ). x < 2 ^ prec f) (div-div-eq-div-mul n c (2 ^ k)) (kept-lt (prec f) (n / c))) in
    let r = near_quotient n u (n / u) q (div-mul-le_self n u) (lt-div-mul-add (mul-pos C (pow_pos k))) (nearest-ge (n / u) (compare (n % u * 2) u)) top in
    let G : grid f a c * c ≡ q * u = regroup q (2 ^ k) in (
      record { over = omega (arith, r.0); under = omega (arith, r.1) },
      lt_of_le_of_lt (mul-le-mul Q (pow_mono K)) (lt_of_le_of_lt (le_of_eq most) (pow-lt (wide f))),
    )
  where
    regroup : (q p : ℕ) → q * p * c ≡ q * (c * p)
    regroup q p = omega arith

    back : (l : ℕ) → prec f ≤ l → prec f + (l - prec f) ≡ l
    back l h = omega arith

    most : 2 ^ prec f * slack f ≡ 2 ^ (low f + 4)
    most = sym (pow-add 2 (prec f) (low f + 4 - prec f)) ∙ ap (λ (x : ℕ). 2 ^ x) (back (low f + 4) (enough f))

pub round_value : (f : Format) (s : Bool) (a c : ℕ) → 0 < c → a ≤ 8 * c
    → HasValue (round f s a c) s (grid f a c) (scale f) × Rounds a c (grid f a c) (scale f) (slack f)
round_value f s a c C h =
    let r = rounds f a c C h in (
      subst (λ (z : Float). HasValue z s (grid f a c) (scale f)) (sym (round_is f s a c))
          (units_val f s (kept (prec f) (a * 2 ^ low f) c) (drop (prec f) (a * 2 ^ low f) c) r.1),
      r.0,
    )

-- ---- a product
mul_is : (f : Format) (x y : Float) (s t : Bool) (a b l : ℕ) → 0 < l → HasValue x s a l → HasValue y t b l
    → mul f x y ≡ round f (unlike s t) (a * b) (l * l)
unfolding mul
mul_is f nan y s t a b l L h k = absurd h
mul_is f (inf s') y s t a b l L h k = absurd h
mul_is f (fin s' m e) nan s t a b l L h k = absurd k
mul_is f (fin s' m e) (inf t') s t a b l L h k = absurd k
mul_is f (fin s' m e) (fin t' n d) s t a b l L h k =
    (λ i. round f (unlike (h.0 i) (k.0 i)) (m * up e * (n * up d)) (down e * down d))
    ∙ round_same f (unlike s t) (m * up e * (n * up d)) (down e * down d) (a * b) (l * l) (mul-pos (down_pos e) (down_pos d)) (mul-pos L L)
    (cross (m * up e) (n * up d) (down e) (down d) h.1 k.1)
  where
    cross : (x y d g : ℕ) → x * l ≡ a * d → y * l ≡ b * g → x * y * (l * l) ≡ a * b * (d * g)
    cross x y d g p q = swap x y l l ∙ ap (λ z. z * (y * l)) p ∙ ap (λ z. a * d * z) q ∙ swap a d b g
      where
        swap : (a b c d : ℕ) → a * b * (c * d) ≡ a * c * (b * d)
        swap a b c d = omega arith

pub record Multiplied (f : Format) (x y : Float) (s t : Bool) (a b : ℕ) : Type 0 where
  pub units : ℕ
  pub is : HasValue (mul f x y) (unlike s t) units (scale f)
  pub near : Rounds (a * b) (scale f * scale f) units (scale f) (slack f)

pub multiplied : (f : Format) (x y : Float) (s t : Bool) (a b : ℕ) → HasValue x s a (scale f) → HasValue y t b (scale f)
    → a * b ≤ 8 * (scale f * scale f) → Multiplied f x y s t a b
multiplied f x y s t a b h k w =
    let l = scale f in
    let r = round_value f (unlike s t) (a * b) (l * l) (mul-pos (pow_pos (low f)) (pow_pos (low f))) w in
    record {
      units = grid f (a * b) (l * l);
      is = subst (λ (z : Float). HasValue z (unlike s t) (grid f (a * b) (l * l)) l) (sym (mul_is f x y s t a b l (pow_pos (low f)) h k)) r.0;
      near = r.1;
    }

-- ---- a sum
-- one rounding, of X / C, which is (y − x) / scale
pub record Once (f : Format) (s : Bool) (X C x y : ℕ) : Type 0 where
  pub is : HasValue (round f s X C) s (grid f X C) (scale f)
  pub over : grid f X C + x ≤ y + slack f
  pub under : y ≤ grid f X C + x + slack f

once : (f : Format) (s : Bool) (X C x y : ℕ) → 0 < C → X * scale f + x * C ≡ y * C → y ≤ 8 * scale f → Once f s X C x y
once f s X C x y P h w =
    let r = round_value f s X C P (le_of_mul-le-mul_right (omega (arith, mul-le-mul_right C w)) (pow_pos (low f))) in
    record { is = r.0; over = le_of_mul-le-mul_right (omega (arith, r.1)) P; under = le_of_mul-le-mul_right (omega (arith, r.1)) P }

-- z is within slack of ±a ± b
pub record Added (f : Format) (z : Float) (s t : Bool) (a b : ℕ) : Type 0 where
  pub sign : Bool
  pub units : ℕ
  pub is : HasValue z sign units (scale f)
  pub over : plus sign units + minus s a + minus t b ≤ minus sign units + plus s a + plus t b + slack f
  pub under : minus sign units + plus s a + plus t b ≤ plus sign units + minus s a + minus t b + slack f

-- B − A, in units
less : (A B C a b l : ℕ) → A ≤ B → A * l ≡ a * C → B * l ≡ b * C → (B - A) * l + a * C ≡ b * C
less A B C a b l g h k = go (B - A) (omega arith)
  where
    go : (D : ℕ) → D + A ≡ B → D * l + a * C ≡ b * C
    go D e = omega (arith, ap (λ z. z * l) e)

module _ (f : Format) (A B C a b : ℕ) (P : 0 < C) (h : A * scale f ≡ a * C) (k : B * scale f ≡ b * C) (w : a + b ≤ 8 * scale f) where
  -- signs that are equal
  together : (s : Bool) → Added f (round f s (A + B) C) s s a b
  together s = go s (once f s (A + B) C 0 (a + b) P (omega arith) w)
    where
      go : (s : Bool) → Once f s (A + B) C 0 (a + b) → Added f (round f s (A + B) C) s s a b
      go false r = record { sign = false; units = grid f (A + B) C; is = r.is; over = omega arith; under = omega arith }
      go true r = record { sign = true; units = grid f (A + B) C; is = r.is; over = omega arith; under = omega arith }

  -- signs that differ: the larger size decides
  first_more : (s : Bool) → B ≤ A → Added f (round f s (A - B) C) s (not s) a b
  first_more s g = go s (once f s (A - B) C b a P (less B A C b a (scale f) g k h) (omega arith))
    where
      go : (s : Bool) → Once f s (A - B) C b a → Added f (round f s (A - B) C) s (not s) a b
      go false r = record { sign = false; units = grid f (A - B) C; is = r.is; over = omega arith; under = omega arith }
      go true r = record { sign = true; units = grid f (A - B) C; is = r.is; over = omega arith; under = omega arith }

  second_more : (s : Bool) → A ≤ B → Added f (round f (not s) (B - A) C) s (not s) a b
  second_more s g = go s (once f (not s) (B - A) C a b P (less A B C a b (scale f) g h k) (omega arith))
    where
      go : (s : Bool) → Once f (not s) (B - A) C a b → Added f (round f (not s) (B - A) C) s (not s) a b
      go false r = record { sign = true; units = grid f (B - A) C; is = r.is; over = omega arith; under = omega arith }
      go true r = record { sign = false; units = grid f (B - A) C; is = r.is; over = omega arith; under = omega arith }

  sum_near : (s t : Bool) → Added f (sum f s A t B C) s t a b
  unfolding sum
  sum_near false false = together false
  sum_near true true = together true
  sum_near false true = go (ltb A B) (ltb→lt A B) (nltb→le A B)
    where
      go : (u : Bool) → (T u → A < B) → (T (not u) → B ≤ A) → Added f (cond u (round f true (B - A) C) (round f false (A - B) C)) false true a b
      go true x y = second_more false (omega (arith, x tt))
      go false x y = first_more false (y tt)
  sum_near true false = go (ltb A B) (ltb→lt A B) (nltb→le A B) (ltb B A) (nltb→le B A)
    where
      go : (u : Bool) → (T u → A < B) → (T (not u) → B ≤ A) → (v : Bool) → (T (not v) → A ≤ B)
          → Added f (cond u (round f false (B - A) C) (round f v (A - B) C)) true false a b
      go true x y v z = second_more true (omega (arith, x tt))
      go false x y true z = first_more true (y tt)
      go false x y false z =
          let e : B - A ≡ A - B = omega (arith, y tt, z tt) in
          subst (λ n. Added f (round f false n C) true false a b) e (second_more true (z tt))

pub added : (f : Format) (x y : Float) (s t : Bool) (a b : ℕ) → HasValue x s a (scale f) → HasValue y t b (scale f) → a + b ≤ 8 * scale f
    → Added f (add f x y) s t a b
unfolding add
added f nan y s t a b h k w = absurd h
added f (inf s') y s t a b h k w = absurd h
added f (fin s' m e) nan s t a b h k w = absurd k
added f (fin s' m e) (inf t') s t a b h k w = absurd k
added f (fin s' m e) (fin t' n d) s t a b h k w =
    let A = m * up e * down d in
    let B = n * up d * down e in
    let C = down e * down d in
    subst (λ (u : Bool). Added f (sum f u A t' B C) s t a b) (sym h.0)
    (subst (λ (u : Bool). Added f (sum f s A u B C) s t a b) (sym k.0)
    (sum_near f A B C a b (mul-pos (down_pos e) (down_pos d)) (omega (arith, ap (λ x. x * down d) h.1)) (omega (arith, ap (λ x. x * down e) k.1)) w s t))
