-- `root_units` at a number R * 4 ^ k whose R has a root of the format's own number of digits, and `sqrt` at a value given by its size. Assumes nothing.
use mathlib.Core.Path.{◌≡◌, refl, sym, ap, ◌∙◌, subst}
use mathlib.Core.Bool.{true, false}
use Prim.Native.Nat.{ℕ, zero, suc, ◌+◌, ◌-◌, ◌*◌, ◌/◌, ◌^◌, ◌≤◌, ◌<◌, compare, Ordering}
use native.Mathlib.Nat.{le_trans, le_of_eq, lt_irrefl, lt_of_not-le, lt_of_lt_of_le, lt_of_le_of_lt, mul-le-mul_right, mul-lt-mul_of_pos_right}
use native.Mathlib.Nat.{mul-pos, mul_assoc, mul_right_comm, mul-div_cancel, le-div_iff_mul-le, div-lt_iff_lt-mul, zero-mul}
use native.Mathlib.Omega.{arith}
use lib.Dec.{T}
use lib.Pow.{pow_pos, pow_mono, pow-add}
use lib.Ieee.{Float, nan, inf, fin, Format, prec, low, up, down, size, nearest, units}
use lib.Ieee.Digits.{size-lt, size-le}
use lib.Ieee.Exact.{HasValue}
use lib.Ieee.Fits.{two, down_pos}
use Rattle.root_whole.specs.Whole.{isqrt, near_root}
use Rattle.root.specs.Sqrt.{root_units, sqrt}
use Rattle.root_whole.proofs.Roots.{IsRoot, isqrt_is, root_ge, root_lt, compare_scale, near_is}

pub pow_lt_back : (i p : ℕ) → 2 ^ i < 2 ^ p → i < p
pow_lt_back i p h = lt_of_not-le (λ (g : p ≤ i). lt_irrefl (2 ^ i) (lt_of_lt_of_le h (pow_mono g)))

-- n has p + k digits
size_is : (n p k : ℕ) → 2 ≤ p → 2 ^ (p - 1 + k) ≤ n → n < 2 ^ (p + k) → size n ≡ p + k
size_is n p k h lo hi =
    let a : size n ≤ p + k = size-le n (p + k) hi in
    let b : p - 1 + k < size n = pow_lt_back (p - 1 + k) (size n) (lt_of_le_of_lt lo (size-lt n)) in
    omega arith

-- what `root_units` works out, with the root's whole part and the number of digits dropped as arguments
abbrev cut : Format → ℕ → ℕ → ℕ → Float
cut f w q k = units f false (nearest q (compare (w * 4) ((q * 2 + 1) * 2 ^ k * ((q * 2 + 1) * 2 ^ k)))) k

root_units_is : (f : Format) (w : ℕ) → root_units f w ≡ cut f w (isqrt w / 2 ^ (size (isqrt w) - prec f)) (size (isqrt w) - prec f)
unfolding root_units
root_units_is f w = refl

module _ (f : Format) (R k q : ℕ) (h : IsRoot R q) (lo : 2 ^ (prec f - 1) ≤ q) (hi : q < 2 ^ prec f) where
  s_low : q * 2 ^ k ≤ isqrt (R * (2 ^ k * 2 ^ k))
  s_low =
      root_ge (R * (2 ^ k * 2 ^ k)) (isqrt (R * (2 ^ k * 2 ^ k))) (q * 2 ^ k) (isqrt_is (R * (2 ^ k * 2 ^ k)))
      (squares q R (2 ^ k) h.low)
    where
      squares : (q R P : ℕ) → q * q ≤ R → (q * P) * (q * P) ≤ R * (P * P)
      squares q R P h = omega (arith, mul-le-mul_right (P * P) h)

  s_high : isqrt (R * (2 ^ k * 2 ^ k)) < (q + 1) * 2 ^ k
  s_high =
      root_lt (R * (2 ^ k * 2 ^ k)) (isqrt (R * (2 ^ k * 2 ^ k))) ((q + 1) * 2 ^ k) (isqrt_is (R * (2 ^ k * 2 ^ k)))
      (squares (q + 1) R (2 ^ k) (pow_pos k) h.high)
    where
      squares : (q R P : ℕ) → 0 < P → R < q * q → R * (P * P) < (q * P) * (q * P)
      squares q R P p h = omega (arith, mul-lt-mul_of_pos_right h (mul-pos p p))

  s_cut : isqrt (R * (2 ^ k * 2 ^ k)) / 2 ^ k ≡ q
  s_cut =
      let a : q ≤ isqrt (R * (2 ^ k * 2 ^ k)) / 2 ^ k = (le-div_iff_mul-le (pow_pos k)).1 s_low in
      let b : isqrt (R * (2 ^ k * 2 ^ k)) / 2 ^ k < q + 1 = (div-lt_iff_lt-mul (pow_pos k)).1 s_high in
      omega arith

  s_size : size (isqrt (R * (2 ^ k * 2 ^ k))) - prec f ≡ k
  s_size =
      let z : size (isqrt (R * (2 ^ k * 2 ^ k))) ≡ prec f + k =
      size_is (isqrt (R * (2 ^ k * 2 ^ k))) (prec f) k (two f)
      (le_trans (le_of_eq (pow-add 2 (prec f - 1) k)) (le_trans (mul-le-mul_right (2 ^ k) lo) s_low))
      (lt_of_lt_of_le s_high (le_trans (mul-le-mul_right (2 ^ k) (up_one q (2 ^ prec f) hi)) (le_of_eq (sym (pow-add 2 (prec f) k))))) in
      omega arith
    where
      up_one : (q p : ℕ) → q < p → q + 1 ≤ p
      up_one q p h = omega arith

  same_test : compare (R * (2 ^ k * 2 ^ k) * 4) ((q * 2 + 1) * 2 ^ k * ((q * 2 + 1) * 2 ^ k)) ≡ compare (R * 4) ((q * 2 + 1) * (q * 2 + 1))
  same_test =
      ap (λ (x : ℕ). compare x ((q * 2 + 1) * 2 ^ k * ((q * 2 + 1) * 2 ^ k))) (left R (2 ^ k * 2 ^ k))
      ∙ ap (λ (x : ℕ). compare (R * 4 * (2 ^ k * 2 ^ k)) x) (right (q * 2 + 1) (2 ^ k))
      ∙ compare_scale (R * 4) ((q * 2 + 1) * (q * 2 + 1)) (2 ^ k * 2 ^ k) (mul-pos (pow_pos k) (pow_pos k))
    where
      left : (R P : ℕ) → R * P * 4 ≡ R * 4 * P
      left R P = omega arith

      right : (h P : ℕ) → h * P * (h * P) ≡ h * h * (P * P)
      right h P = omega arith

  pub root_units_scaled : root_units f (R * (2 ^ k * 2 ^ k)) ≡ units f false (near_root R) k
  root_units_scaled =
      let w = R * (2 ^ k * 2 ^ k) in
      root_units_is f w
      ∙ ap (λ (d : ℕ). cut f w (isqrt w / 2 ^ d) d) s_size
      ∙ ap (λ (x : ℕ). cut f w x k) s_cut
      ∙ ap (λ (o : Ordering). units f false (nearest q o) k) same_test
      ∙ ap (λ (x : ℕ). units f false x k) (sym (near_is R q h))

-- ---- the root of a value of a known size

no_value : (a d : ℕ) → 0 < a → 0 < d → 0 ≡ a * d → ⊥
no_value a d h k e = let p : 0 < a * d = mul-pos h k in omega arith

pub sqrt_value : (f : Format) (x : Float) (a : ℕ) → HasValue x false a (2 ^ low f) → 0 < a → sqrt f x ≡ root_units f (a * 2 ^ low f)
unfolding sqrt
sqrt_value f nan a v h = absurd v
sqrt_value f (inf s) a v h = absurd v
sqrt_value f (fin s zero e) a v h = absurd (no_value a (down e) h (down_pos e) (simp zero-mul at v.1))
sqrt_value f (fin true (suc m) e) a v h = absurd (subst T v.0 tt)
sqrt_value f (fin false (suc m) e) a v h =
    ap (root_units f)
    (ap (λ (x : ℕ). x / down e)
    (ap (λ (x : ℕ). suc m * up e * x) (pow-add 2 (low f) (low f)) ∙ sym (mul_assoc (suc m * up e) (2 ^ low f) (2 ^ low f))
    ∙ ap (λ (x : ℕ). x * 2 ^ low f) v.1 ∙ mul_right_comm a (down e) (2 ^ low f))
    ∙ mul-div_cancel (a * 2 ^ low f) (down_pos e))
