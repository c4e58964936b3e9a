-- The root of a value above zero is held by the format, and is nearer to the exact root than every other value that the format holds. Assumes nothing.
use mathlib.Core.Path.{◌≡◌, sym, ap, ◌∙◌, subst}
use mathlib.Core.Logic.{inl, inr}
use mathlib.Core.Bool.{false}
use Prim.Native.Nat.{ℕ, suc, ◌+◌, ◌-◌, ◌*◌, ◌/◌, ◌^◌, ◌≤◌, ◌<◌, compare}
use native.Mathlib.Nat.{le_trans, le_of_eq, lt_irrefl, lt_of_lt_of_le, lt_of_le_of_lt, mul-le-mul_right, mul-pos, mul_assoc, mul_right_comm, one-mul, zero-mul}
use native.Mathlib.Nat.{lt_of_mul-lt-mul_right, le_of_mul-le-mul_right, eq-zero-or-pos}
use native.Mathlib.Omega.{arith}
use lib.Dec.{T}
use lib.Pow.{pow_pos, pow_mono, pow-lt, pow-add, shl_lt}
use lib.Ieee.{Float, Format, binary32, binary64, prec, emax, low, size, units, fits}
use lib.Ieee.Digits.{size-lt, size_reaches, size-le}
use lib.Ieee.Exact.{HasValue, units_val}
use lib.Ieee.Fits.{two, two-le_pos, nearest-le}
use Rattle.root_whole.specs.Whole.{isqrt, near_root}
use Rattle.root.specs.Sqrt.{root_units, sqrt}
use Rattle.root_whole.proofs.Roots.{isqrt_is, root_ge, root_lt, near_is}
use Rattle.root.proofs.Scaled.{pow_lt_back, root_units_scaled, sqrt_value}
use Rattle.root.proofs.Best.{Best, best, spaced}
use Rattle.root.proofs.Units.{same_value, InUnits, in_units, units_fits}
use Rattle.root.proofs.Means.{MeanAbove, MeanBelow, joined}

-- ---- every w that the root is taken of is R * 4 ^ k, with a root of R that has the format's number of digits

record Form (p l e w : ℕ) : Type 0 where
  R : ℕ
  k : ℕ
  whole : w ≡ R * (2 ^ k * 2 ^ k)
  lower : 2 ^ (p - 1) * 2 ^ (p - 1) ≤ R
  upper : R < 2 ^ p * 2 ^ p
  room : p + k < l + suc e

form : (p l e m J : ℕ) → 2 ≤ p → 2 * p ≤ suc l → 2 ≤ e → m < 2 ^ p → 2 ^ l ≤ m * 2 ^ J → m * 2 ^ J < 2 ^ (suc e + l + l) → Form p l e (m * 2 ^ J)
form p l e m J P L E small low high =
    let w = m * 2 ^ J in
    let z = size w in
    let a : z ≤ p + J = size-le w (p + J) (shl_lt p J small) in
    let b : z ≤ suc e + l + l = size-le w (suc e + l + l) high in
    let c : l < z = pow_lt_back l z (lt_of_le_of_lt low (size-lt w)) in
    let k = (suc z - 2 * p) / 2 in
    let d : k + k ≤ J = omega arith in
    let R = m * 2 ^ (J - (k + k)) in
    let whole : w ≡ R * (2 ^ k * 2 ^ k) =
    ap (λ (x : ℕ). m * x) (ap (λ (x : ℕ). 2 ^ x) (cut J (k + k) d) ∙ pow-add 2 (J - (k + k)) (k + k) ∙ ap (λ (x : ℕ). 2 ^ (J - (k + k)) * x) (pow-add 2 k k))
    ∙ sym (mul_assoc m (2 ^ (J - (k + k))) (2 ^ k * 2 ^ k)) in
    let reach : 2 ^ (z - 1) ≤ w = size_reaches w (z - 1) (omega arith) in
    record {
      R = R;
      k = k;
      whole = whole;
      lower = le_of_mul-le-mul_right
          (le_trans (le_of_eq (four (p - 1) k)) (le_trans (pow_mono {j = z - 1} (omega arith)) (le_trans reach (le_of_eq whole))))
          (mul-pos (pow_pos k) (pow_pos k));
      upper = lt_of_mul-lt-mul_right (2 ^ k * 2 ^ k)
          (lt_of_le_of_lt (le_of_eq (sym whole)) (lt_of_lt_of_le (size-lt w) (le_trans (pow_mono {j = p + p + (k + k)} (omega arith)) (le_of_eq (sym (four p k))))));
      room = omega arith;
    }
  where
    cut : (J k : ℕ) → k ≤ J → J ≡ J - k + k
    cut J k h = omega arith

    four : (p k : ℕ) → 2 ^ p * 2 ^ p * (2 ^ k * 2 ^ k) ≡ 2 ^ (p + p + (k + k))
    four p k = sym (pow-add 2 (p + p) (k + k) ∙ ap (λ (x : ℕ). x * 2 ^ (k + k)) (pow-add 2 p p) ∙ ap (λ (x : ℕ). 2 ^ p * 2 ^ p * x) (pow-add 2 k k))

-- ---- the root of a value above zero, in units

numbers : (f : Format) → (2 * prec f ≤ suc (low f)) × (2 ≤ emax f)
numbers binary32 = (omega arith, omega arith)
numbers binary64 = (omega arith, omega arith)

-- x is X units, and its root is that of R, of which the format drops k digits
record Taken (f : Format) (x : Float) : Type 0 where
  X : ℕ
  is : HasValue x false X (2 ^ low f)
  R : ℕ
  k : ℕ
  whole : X * 2 ^ low f ≡ R * (2 ^ k * 2 ^ k)
  lower : 2 ^ (prec f - 1) ≤ isqrt R
  upper : isqrt R < 2 ^ prec f
  room : prec f + k < low f + suc (emax f)
  root : sqrt f x ≡ units f false (near_root R) k

value_pos : (f : Format) (x : Float) (a b X : ℕ) → HasValue x false a b → 0 < a → HasValue x false X (2 ^ low f) → 0 < X
value_pos f x a b X v h u = elim (eq-zero-or-pos X) [
  | inr p ↦ p
  | inl z ↦
      let e : a * 2 ^ low f ≡ 0 = same_value x false a b X (2 ^ low f) v u ∙ ap (λ (y : ℕ). y * b) z ∙ zero-mul b in
      let p : 0 < a * 2 ^ low f = mul-pos h (pow_pos (low f)) in
      absurd (lt_irrefl 0 (subst (λ (y : ℕ). 0 < y) e p))
]

taken_by : (f : Format) (x : Float) (X w : ℕ) → HasValue x false X (2 ^ low f) → 0 < X → X * 2 ^ low f ≡ w → Form (prec f) (low f) (emax f) w → Taken f x
taken_by f x X w is X-pos e F = record {
  X = X;
  is = is;
  R = F.R;
  k = F.k;
  whole = e ∙ F.whole;
  lower = lower;
  upper = upper;
  room = F.room;
  root = sqrt_value f x X is X-pos ∙ ap (root_units f) (e ∙ F.whole) ∙ root_units_scaled f F.R F.k (isqrt F.R) (isqrt_is F.R) lower upper;
}
  where
    lower : 2 ^ (prec f - 1) ≤ isqrt F.R
    lower = root_ge F.R (isqrt F.R) (2 ^ (prec f - 1)) (isqrt_is F.R) F.lower

    upper : isqrt F.R < 2 ^ prec f
    upper = root_lt F.R (isqrt F.R) (2 ^ prec f) (isqrt_is F.R) F.upper

taken_of : (f : Format) (x : Float) (m j : ℕ) → HasValue x false (m * 2 ^ j) (2 ^ low f) → 0 < m * 2 ^ j → m < 2 ^ prec f → m * 2 ^ j < 2 ^ (suc (emax f) + low f) → Taken f x
taken_of f x m j is X-pos small under =
    taken_by f x (m * 2 ^ j) (m * 2 ^ (j + low f)) is X-pos e
    (form (prec f) (low f) (emax f) m (j + low f) (two f) (numbers f).0 (numbers f).1 small
    (le_trans (le_of_eq (sym (one-mul (2 ^ low f)))) (le_trans (mul-le-mul_right (2 ^ low f) X-pos) (le_of_eq e)))
    (lt_of_le_of_lt (le_of_eq (sym e)) (shl_lt (suc (emax f) + low f) (low f) under)))
  where
    e : m * 2 ^ j * 2 ^ low f ≡ m * 2 ^ (j + low f)
    e = mul_assoc m (2 ^ j) (2 ^ low f) ∙ ap (λ (y : ℕ). m * y) (sym (pow-add 2 j (low f)))

taken : (f : Format) (x : Float) (a b : ℕ) → T (fits f x) → HasValue x false a b → 0 < a → Taken f x
taken f x a b h v p = go (in_units f x a b h v)
  where
    go : InUnits f x → Taken f x
    go u = taken_of f x u.m u.j u.is (value_pos f x a b (u.m * 2 ^ u.j) v p u.is) u.small u.under

-- the result is at most 2 ^ prec of its units
result_le : (f : Format) (x : Float) (t : Taken f x) → near_root t.R ≤ 2 ^ prec f
result_le f x t =
    le_trans (le_of_eq (near_is t.R (isqrt t.R) (isqrt_is t.R)))
    (le_trans (nearest-le (isqrt t.R) (compare (t.R * 4) ((isqrt t.R * 2 + 1) * (isqrt t.R * 2 + 1)))) t.upper)

result_lt : (f : Format) (x : Float) (t : Taken f x) → near_root t.R * 2 ^ t.k < 2 ^ (low f + suc (emax f))
result_lt f x t = lt_of_le_of_lt (le_trans (mul-le-mul_right (2 ^ t.k) (result_le f x t)) (le_of_eq (sym (pow-add 2 (prec f) t.k)))) (pow-lt t.room)

result_value : (f : Format) (x : Float) (t : Taken f x) → HasValue (sqrt f x) false (near_root t.R * 2 ^ t.k) (2 ^ low f)
result_value f x t =
    subst (λ (r : Float). HasValue r false (near_root t.R * 2 ^ t.k) (2 ^ low f)) (sym t.root) (units_val f false (near_root t.R) t.k (result_lt f x t))

-- The root of a value above zero is a finite value of the format, and not below zero: c units.
pub sqrt_finite : (f : Format) (x : Float) (a b : ℕ) → T (fits f x) → HasValue x false a b → 0 < a
    → T (fits f (sqrt f x)) × ((c : ℕ) × HasValue (sqrt f x) false c (2 ^ low f))
sqrt_finite f x a b h v p =
    let t = taken f x a b h v p in (
      subst (λ (r : Float). T (fits f r)) (sym t.root) (units_fits f (near_root t.R) t.k (result_le f x t) (result_lt f x t)),
      (near_root t.R * 2 ^ t.k, result_value f x t),
    )

by_units : (f : Format) (x y : Float) (a b c d g h : ℕ) → 0 < b → 0 < d → 0 < h
    → HasValue x false a b → HasValue (sqrt f x) false c d → HasValue y false g h → Taken f x → InUnits f y
    → (c * h < g * d → MeanAbove a b c d g h) × (g * d < c * h → MeanBelow a b c d g h)
by_units f x y a b c d g h b-pos d-pos h-pos x-is r-is y-is t u =
    joined a b c d g h (t.X * 2 ^ low f) (near_root t.R * 2 ^ t.k) (u.m * 2 ^ u.j) (2 ^ low f) b-pos d-pos h-pos (pow_pos (low f))
    (sym (mul_assoc a (2 ^ low f) (2 ^ low f)) ∙ ap (λ (n : ℕ). n * 2 ^ low f) (same_value x false a b t.X (2 ^ low f) x-is t.is) ∙ mul_right_comm t.X b (2 ^ low f))
    (same_value (sqrt f x) false c d (near_root t.R * 2 ^ t.k) (2 ^ low f) r-is (result_value f x t))
    (same_value y false g h (u.m * 2 ^ u.j) (2 ^ low f) y-is u.is)
    (subst (λ (w : ℕ). Best w (near_root t.R * 2 ^ t.k) (u.m * 2 ^ u.j)) (sym t.whole)
    (best t.R (isqrt t.R) (2 ^ (prec f - 1)) (2 ^ t.k) (u.m * 2 ^ u.j) (isqrt_is t.R) t.lower (pow_pos t.k)
    (spaced (prec f) t.k u.m u.j (two-le_pos (prec f) (two f)) u.small)))

-- For x = a / b above zero, its root c / d and any value y = g / h of the format that is not below zero:
-- where y is above the root, x is below the square of the mean of the two, and where y is below the root, x is above it.
pub sqrt_nearest : (f : Format) (x y : Float) (a b c d g h : ℕ) → 0 < a → 0 < b → 0 < d → 0 < h
    → T (fits f x) → HasValue x false a b → HasValue (sqrt f x) false c d → T (fits f y) → HasValue y false g h
    → (c * h < g * d → MeanAbove a b c d g h) × (g * d < c * h → MeanBelow a b c d g h)
sqrt_nearest f x y a b c d g h a-pos b-pos d-pos h-pos x-held x-is r-is y-held y-is =
    by_units f x y a b c d g h b-pos d-pos h-pos x-is r-is y-is (taken f x a b x-held x-is a-pos) (in_units f y g h y-held y-is)
