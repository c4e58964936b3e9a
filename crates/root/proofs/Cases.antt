-- What the root is where x is not finite, subnormal, or normal with an even or an odd exponent. All at binary64. Assumes nothing.
use mathlib.Core.Path.{◌≡◌, refl, sym, ap, ◌∙◌, subst}
use mathlib.Core.Bool.{true, false, not}
use Prim.Native.Nat.{ℕ, zero, suc, ◌+◌, ◌-◌, ◌*◌, ◌/◌, ◌%◌, ◌^◌, ◌≤◌, ◌<◌}
use native.Mathlib.Nat.{lt_irrefl, mul-pos, mul_assoc, add_comm, mul-le-mul_right, le_trans, le_of_eq, pow-succ'}
use native.Mathlib.Omega.{arith}
use lib.IntN.{ℤ, pos, neg_ℤ}
use lib.Dec.{T}
use lib.Pow.{pow_pos, pow_mono, pow-add}
use lib.Ieee.{Float, nan, inf, fin, binary64, minus, odd, units, size, of_bits, to_bits, fits}
use lib.Ieee.Bits.{of_bits-to_bits}
use lib.Ieee.Digits.{size-lt, size_reaches, size-le}
use lib.Ieee.Exact.{odd_sign}
use lib.Ieee.Scale.{finite}
use Rattle.root_whole.specs.Whole.{isqrt, near_root}
use Rattle.root_whole.proofs.Roots.{isqrt_is, root_ge, root_lt, four_pow}
use Rattle.root_whole.proofs.Neighbours.{near_digits}
use Rattle.root_case.specs.Case.{trailing}
use Rattle.root.specs.Sqrt.{root_units, sqrt}
use Rattle.root.specs.ByCase.{of_digits, half, not_finite_root, fours, subnormal_root, even_root, odd_root}
use Rattle.root.proofs.Patterns.{read_low, read_normal}
use Rattle.root.proofs.Scaled.{root_units_scaled, sqrt_value}
use Rattle.root.proofs.Digits.{half_is, negated, digits_units}

-- ---- the root at a pattern, in units of the format's smallest value

sqrt_units : (q k : ℕ) → 0 < q → sqrt binary64 (odd 53 false q k 1074) ≡ root_units binary64 (q * 2 ^ k * 2 ^ 1074)
sqrt_units q k h = sqrt_value binary64 (odd 53 false q k 1074) (q * 2 ^ k) (odd_sign 53 false q k 1074) (mul-pos h (pow_pos k))

join : (q k : ℕ) → q * 2 ^ k * 2 ^ 1074 ≡ q * 2 ^ (k + 1074)
join q k = mul_assoc q (2 ^ k) (2 ^ 1074) ∙ ap (λ (x : ℕ). q * x) (sym (pow-add 2 k 1074))

start_low : (b : ℕ) → 0 < b → b < 2 ^ 52 → sqrt binary64 (of_bits binary64 b) ≡ root_units binary64 (b % 2 ^ 52 * 2 ^ 1074)
start_low b p h = ap (sqrt binary64) (read_low b h) ∙ sqrt_units (b % 2 ^ 52) 0 (omega arith) ∙ ap (root_units binary64) (join (b % 2 ^ 52) 0)

start_normal : (b e : ℕ) → b / 2 ^ 52 ≡ e → 0 < e → e < 2047 → sqrt binary64 (of_bits binary64 b) ≡ root_units binary64 ((b % 2 ^ 52 + 2 ^ 52) * 2 ^ (1073 + e))
start_normal b zero d p h = absurd (lt_irrefl 0 p)
start_normal b (suc x) d p h =
    ap (sqrt binary64) (read_normal b x d h)
    ∙ sqrt_units (2 ^ 52 + b % 2 ^ 52) x (omega arith)
    ∙ ap (root_units binary64)
    (join (2 ^ 52 + b % 2 ^ 52) x
    ∙ ap (λ (q : ℕ). q * 2 ^ (x + 1074)) (add_comm (2 ^ 52) (b % 2 ^ 52))
    ∙ ap (λ (k : ℕ). (b % 2 ^ 52 + 2 ^ 52) * 2 ^ k) (omega arith))

halves : (m j k : ℕ) → j ≡ 52 + (k + k) → m * 2 ^ j ≡ m * 2 ^ 52 * (2 ^ k * 2 ^ k)
halves m j k e =
    ap (λ (x : ℕ). m * 2 ^ x) e
    ∙ ap (λ (x : ℕ). m * x) (pow-add 2 52 (k + k) ∙ ap (λ (x : ℕ). 2 ^ 52 * x) (pow-add 2 k k))
    ∙ sym (mul_assoc m (2 ^ 52) (2 ^ k * 2 ^ k))

doubled : (m j : ℕ) → 0 < j → m * 2 ^ j ≡ 2 * m * 2 ^ (j - 1)
doubled m zero h = absurd (lt_irrefl 0 h)
doubled m (suc j) h =
    let i : suc j - 1 ≡ j = omega arith in
    let e : 2 ^ (suc j - 1) ≡ 2 ^ j = ap (λ (x : ℕ). 2 ^ x) i in
    rw (pow-succ', e) (omega arith)

-- the root of m * 2 ^ j, in units, for an even j
scaled_root : (m j k : ℕ) → 2 ^ 52 ≤ m → m < 2 ^ 54 → j ≡ 52 + (k + k) → root_units binary64 (m * 2 ^ j) ≡ units binary64 false (near_root (m * 2 ^ 52)) k
scaled_root m j k a b e =
    let q = isqrt (m * 2 ^ 52) in
    let is = isqrt_is (m * 2 ^ 52) in
    ap (root_units binary64) (halves m j k e)
    ∙ root_units_scaled binary64 (m * 2 ^ 52) k q is (root_ge (m * 2 ^ 52) q (2 ^ 52) is (omega arith)) (root_lt (m * 2 ^ 52) q (2 ^ 53) is (omega arith))

-- ---- the three cases of a value above zero: b is its pattern

-- the pattern of a normal number whose field of the exponent has the remainder r by 2
abbrev pub Normal : ℕ → ℕ → Type 0
Normal r b = (2 ^ 52 ≤ b) × (b < 2047 * 2 ^ 52) × (b / 2 ^ 52 % 2 ≡ r)

at_even : (b : ℕ) → Normal 1 b
    → sqrt binary64 (of_bits binary64 b) ≡ units binary64 false (near_root ((b % 2 ^ 52 + 2 ^ 52) * 2 ^ 52)) ((b / 2 ^ 52 + 1021) / 2)
at_even b (l, h, p) =
    start_normal b (b / 2 ^ 52) refl (omega arith) (omega arith)
    ∙ scaled_root (b % 2 ^ 52 + 2 ^ 52) (1073 + b / 2 ^ 52) ((b / 2 ^ 52 + 1021) / 2) (omega arith) (omega arith) (omega arith)

at_odd : (b : ℕ) → Normal 0 b
    → sqrt binary64 (of_bits binary64 b) ≡ units binary64 false (near_root (2 * (b % 2 ^ 52 + 2 ^ 52) * 2 ^ 52)) ((b / 2 ^ 52 + 1020) / 2)
at_odd b (l, h, p) =
    start_normal b (b / 2 ^ 52) refl (omega arith) (omega arith)
    ∙ ap (root_units binary64) (doubled (b % 2 ^ 52 + 2 ^ 52) (1073 + b / 2 ^ 52) (omega arith))
    ∙ scaled_root (2 * (b % 2 ^ 52 + 2 ^ 52)) (1073 + b / 2 ^ 52 - 1) ((b / 2 ^ 52 + 1020) / 2) (omega arith) (omega arith) (omega arith)

-- f factors of 4 give 53 or 54 digits, of which the last two are 0
pub record Quadrupled (b f : ℕ) : Type 0 where
  pub few : f ≤ 26
  pub low : 2 ^ 52 ≤ b * 4 ^ f
  pub high : b * 4 ^ f + 2 ≤ 2 ^ 54

quadrupled_by : (b s f : ℕ) → 0 < s → s ≤ 52 → b < 2 ^ s → 2 ^ (s - 1) ≤ b → f ≡ (54 - s) / 2 → Quadrupled b f
quadrupled_by b s f p z u l e =
    let four : 4 ^ f ≡ 2 ^ (f + f) = four_pow f in
    let some : 2 ^ 2 ≤ 2 ^ (f + f) = pow_mono {i = 2} (omega arith) in
    let up : (b + 1) * 2 ^ (f + f) ≤ 2 ^ s * 2 ^ (f + f) = mul-le-mul_right (2 ^ (f + f)) (omega arith) in
    let top : 2 ^ s * 2 ^ (f + f) ≤ 2 ^ 54 = le_trans (le_of_eq (sym (pow-add 2 s (f + f)))) (pow_mono {j = 54} (omega arith)) in
    let low : 2 ^ 52 ≤ b * 2 ^ (f + f) =
    le_trans (pow_mono {i = 52} {j = s - 1 + (f + f)} (omega arith)) (le_trans (le_of_eq (pow-add 2 (s - 1) (f + f))) (mul-le-mul_right (2 ^ (f + f)) l)) in
    record { few = omega arith; low = rw four low; high = rw four (omega arith) }

pub quadrupled : (b : ℕ) → 0 < b → b < 2 ^ 52 → Quadrupled b ((54 - size b) / 2)
quadrupled b p h =
    let s : 0 < size b = some (size b) (size-lt b) in
    quadrupled_by b (size b) ((54 - size b) / 2) s (size-le b 52 h) (size-lt b) (size_reaches b (size b - 1) (omega arith)) refl
  where
    some : (s : ℕ) → b < 2 ^ s → 0 < s
    some zero g = absurd (let k : b < 1 = g in omega arith)
    some (suc s) g = omega arith

quarter : (b f n j : ℕ) → f + f + j ≡ n → b * 2 ^ n ≡ b * 4 ^ f * 2 ^ j
quarter b f n j e =
    ap (λ (x : ℕ). b * 2 ^ x) (sym e)
    ∙ ap (λ (x : ℕ). b * x) (pow-add 2 (f + f) j ∙ ap (λ (x : ℕ). x * 2 ^ j) (sym (four_pow f)))
    ∙ sym (mul_assoc b (4 ^ f) (2 ^ j))

at_subnormal : (b f : ℕ) → 0 < b → b < 2 ^ 52 → Quadrupled b f
    → sqrt binary64 (of_bits binary64 b) ≡ units binary64 false (near_root (b * 4 ^ f * 2 ^ 52)) (511 - f)
at_subnormal b f p h d =
    let r : b % 2 ^ 52 ≡ b = omega arith in
    let few : f ≤ 26 = d.few in
    start_low b p h
    ∙ ap (λ (x : ℕ). root_units binary64 (x * 2 ^ 1074)) r
    ∙ ap (root_units binary64) (quarter b f 1074 (1074 - (f + f)) (omega arith))
    ∙ scaled_root (b * 4 ^ f) (1074 - (f + f)) (511 - f) d.low (let u : b * 4 ^ f + 2 ≤ 2 ^ 54 = d.high in omega arith) (omega arith)

-- ---- the same from the digits and the exponent

digits_at : (m k : ℕ) (e : ℤ) → 2 ^ 52 ≤ m → m + 2 ≤ 2 ^ 54 → k < 2046 → e ≡ minus k 1022
    → of_digits (near_root (m * 2 ^ 52)) e ≡ units binary64 false (near_root (m * 2 ^ 52)) k
digits_at m k e a b room i = ap (of_digits (near_root (m * 2 ^ 52))) i ∙ digits_units (near_root (m * 2 ^ 52)) k (near_digits m a b).1 room

pub even_units : (x : Float) (b : ℕ) → b ≡ to_bits binary64 x → Normal 1 b
    → even_root x ≡ units binary64 false (near_root ((b % 2 ^ 52 + 2 ^ 52) * 2 ^ 52)) ((b / 2 ^ 52 + 1021) / 2)
unfolding even_root
even_units x b is (l, h, p) =
    let E : b % 2 ^ 63 / 2 ^ 52 ≡ b / 2 ^ 52 = omega arith in
    ap (λ (y : ℕ). of_digits (near_root ((2 ^ 52 + y % 2 ^ 52) * 2 ^ 52)) (half (minus (y % 2 ^ 63 / 2 ^ 52) 1023))) (sym is)
    ∙ ap (λ (m : ℕ). of_digits (near_root (m * 2 ^ 52)) (half (minus (b % 2 ^ 63 / 2 ^ 52) 1023))) (add_comm (2 ^ 52) (b % 2 ^ 52))
    ∙ digits_at (b % 2 ^ 52 + 2 ^ 52) ((b / 2 ^ 52 + 1021) / 2) (half (minus (b % 2 ^ 63 / 2 ^ 52) 1023)) (omega arith) (omega arith) (omega arith)
    (ap (λ (e : ℕ). half (minus e 1023)) E ∙ half_is (b / 2 ^ 52))

pub odd_units : (x : Float) (b : ℕ) → b ≡ to_bits binary64 x → Normal 0 b
    → odd_root x ≡ units binary64 false (near_root (2 * (b % 2 ^ 52 + 2 ^ 52) * 2 ^ 52)) ((b / 2 ^ 52 + 1020) / 2)
unfolding odd_root
odd_units x b is (l, h, p) =
    let E : b % 2 ^ 63 / 2 ^ 52 ≡ b / 2 ^ 52 = omega arith in
    let k : (b / 2 ^ 52 + 1021) / 2 ≡ (b / 2 ^ 52 + 1020) / 2 = omega arith in
    ap (λ (y : ℕ). of_digits (near_root (2 * (2 ^ 52 + y % 2 ^ 52) * 2 ^ 52)) (half (minus (y % 2 ^ 63 / 2 ^ 52) 1023))) (sym is)
    ∙ ap (λ (m : ℕ). of_digits (near_root (2 * m * 2 ^ 52)) (half (minus (b % 2 ^ 63 / 2 ^ 52) 1023))) (add_comm (2 ^ 52) (b % 2 ^ 52))
    ∙ digits_at (2 * (b % 2 ^ 52 + 2 ^ 52)) ((b / 2 ^ 52 + 1020) / 2) (half (minus (b % 2 ^ 63 / 2 ^ 52) 1023)) (omega arith) (omega arith) (omega arith)
    (ap (λ (e : ℕ). half (minus e 1023)) E ∙ half_is (b / 2 ^ 52) ∙ ap (λ (e : ℕ). minus e 1022) k)

pub subnormal_units : (x : Float) (b f : ℕ) → b ≡ to_bits binary64 x → 0 < b → b < 2 ^ 52 → f ≡ (54 - size b) / 2
    → subnormal_root x ≡ units binary64 false (near_root (b * 4 ^ f * 2 ^ 52)) (511 - f)
unfolding subnormal_root
subnormal_units x b f is p h e =
    let T : b % 2 ^ 52 ≡ b = omega arith in
    let d : Quadrupled b f = subst (Quadrupled b) (sym e) (quadrupled b p h) in
    let few : f ≤ 26 = d.few in
    let t : trailing x ≡ b = ap (λ (y : ℕ). y % 2 ^ 52) (sym is) ∙ T in
    let same : fours x ≡ f = ap (λ (y : ℕ). (54 - size y) / 2) t ∙ sym e in
    ap (λ (y : ℕ). of_digits (near_root (y * 4 ^ fours x * 2 ^ 52)) (neg_ℤ (pos (511 + fours x)))) t
    ∙ ap (λ (k : ℕ). of_digits (near_root (b * 4 ^ k * 2 ^ 52)) (neg_ℤ (pos (511 + k)))) same
    ∙ digits_at (b * 4 ^ f) (511 - f) (neg_ℤ (pos (511 + f))) d.low d.high (omega arith) (negated f (omega arith))

-- ---- the root of x in each case

module _ (x : Float) (h : T (fits binary64 x)) where
  back : of_bits binary64 (to_bits binary64 x) ≡ x
  back = of_bits-to_bits binary64 x h

  pub sqrt_even : Normal 1 (to_bits binary64 x) → sqrt binary64 x ≡ even_root x
  sqrt_even n = ap (sqrt binary64) (sym back) ∙ at_even (to_bits binary64 x) n ∙ sym (even_units x (to_bits binary64 x) refl n)

  pub sqrt_odd : Normal 0 (to_bits binary64 x) → sqrt binary64 x ≡ odd_root x
  sqrt_odd n = ap (sqrt binary64) (sym back) ∙ at_odd (to_bits binary64 x) n ∙ sym (odd_units x (to_bits binary64 x) refl n)

  pub sqrt_subnormal : 0 < to_bits binary64 x → to_bits binary64 x < 2 ^ 52 → sqrt binary64 x ≡ subnormal_root x
  sqrt_subnormal p l =
      let b = to_bits binary64 x in
      ap (sqrt binary64) (sym back) ∙ at_subnormal b ((54 - size b) / 2) p l (quadrupled b p l) ∙ sym (subnormal_units x b ((54 - size b) / 2) refl p l refl)

pub sqrt_not_finite : (x : Float) → T (not (finite x)) → sqrt binary64 x ≡ not_finite_root x
unfolding sqrt not_finite_root
sqrt_not_finite nan t = refl
sqrt_not_finite (inf true) t = refl
sqrt_not_finite (inf false) t = refl
sqrt_not_finite (fin s m e) t = absurd t
