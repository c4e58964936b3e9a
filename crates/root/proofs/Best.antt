-- Of whole numbers: the root, rounded to a multiple of P, is nearer to the exact root than every other value B that the format holds. Assumes nothing.
use mathlib.Core.Path.{◌≡◌, sym, ap, ◌∙◌, subst}
use mathlib.Core.Logic.{◌⊎◌, inl, inr}
use mathlib.Core.Bool.{Bool, true, false, not}
use Prim.Native.Nat.{ℕ, suc, ◌+◌, ◌-◌, ◌*◌, ◌^◌, ◌≤◌, ◌<◌}
use native.Mathlib.Nat.{le_trans, le_of_eq, le_of_lt, lt_irrefl, lt_of_lt_of_le, lt_of_le_of_lt, mul-le-mul_right, mul-lt-mul_of_pos_right, mul-pos}
use native.Mathlib.Nat.{mul_assoc, lt_of_mul-lt-mul_right}
use native.Mathlib.Omega.{arith}
use lib.Dec.{T, leb, leb→le, nleb→lt}
use lib.Pow.{pow_mono, pow-add, shl_lt}
use Rattle.root_whole.specs.Whole.{near_root}
use Rattle.root_whole.proofs.Roots.{IsRoot, square_le, near_down, near_up}

square_lt : (a b : ℕ) → a < b → a * a < b * b
square_lt a b h = let k : (a + 1) * (a + 1) ≤ b * b = square_le (omega arith) in omega arith

-- a multiple of P, or below the multiples of P that the format holds
abbrev pub Spaced : ℕ → ℕ → ℕ → Type 0
Spaced l P B = (B ≤ l * P) ⊎ ((t : ℕ) × (B ≡ t * P))

-- the next value above q * P, and the next below (q + 1) * P
after : (l q P B : ℕ) → l ≤ q → Spaced l P B → q * P < B → (q + 1) * P ≤ B
after l q P B h (inl a) g = absurd (lt_irrefl (q * P) (lt_of_lt_of_le g (le_trans a (mul-le-mul_right P h))))
after l q P B h (inr (t, e)) g =
    let k : q < t = lt_of_mul-lt-mul_right P (subst (λ (x : ℕ). q * P < x) e g) in
    let m : (q + 1) * P ≤ t * P = mul-le-mul_right P (omega arith) in
    omega arith

before : (l q P B : ℕ) → l ≤ q → Spaced l P B → B < (q + 1) * P → B ≤ q * P
before l q P B h (inl a) g = le_trans a (mul-le-mul_right P h)
before l q P B h (inr (t, e)) g =
    let k : t < q + 1 = lt_of_mul-lt-mul_right P (subst (λ (x : ℕ). x < (q + 1) * P) e g) in
    let m : t * P ≤ q * P = mul-le-mul_right P (omega arith) in
    omega arith

-- A is nearer to the root of w than B is: by the square of twice their mean
abbrev pub Best : ℕ → ℕ → ℕ → Type 0
Best w A B = (A < B → 4 * w < (A + B) * (A + B)) × (B < A → (A + B) * (A + B) < 4 * w)

best_down : (R q l P B : ℕ) → IsRoot R q → R ≤ q * q + q → l ≤ q → 0 < P → Spaced l P B → Best (R * (P * P)) (q * P) B
best_down R q l P B is k h p s = (
  λ g.
      let a : (q + 1) * P ≤ B = after l q P B h s g in
      let b : (2 * q + 1) * P * ((2 * q + 1) * P) ≤ (q * P + B) * (q * P + B) = square_le (omega arith) in
      let c : 4 * R < (2 * q + 1) * (2 * q + 1) = omega arith in
      let d : 4 * R * (P * P) < (2 * q + 1) * (2 * q + 1) * (P * P) = mul-lt-mul_of_pos_right c (mul-pos p p) in
      lt_of_lt_of_le (omega arith) b,
  λ g.
      let b : (q * P + B) * (q * P + B) < (2 * (q * P)) * (2 * (q * P)) = square_lt (q * P + B) (2 * (q * P)) (omega arith) in
      let d : q * q * (P * P) ≤ R * (P * P) = mul-le-mul_right (P * P) is.low in
      lt_of_lt_of_le b (omega arith),
)

best_up : (R q l P B : ℕ) → IsRoot R q → q * q + q < R → l ≤ q → 0 < P → Spaced l P B → Best (R * (P * P)) (suc q * P) B
best_up R q l P B is k h p s = (
  λ g.
      let b : (2 * (suc q * P)) * (2 * (suc q * P)) < (suc q * P + B) * (suc q * P + B) = square_lt (2 * (suc q * P)) (suc q * P + B) (omega arith) in
      let d : R * (P * P) < (q + 1) * (q + 1) * (P * P) = mul-lt-mul_of_pos_right is.high (mul-pos p p) in
      lt_of_le_of_lt (omega arith) b,
  λ g.
      let a : B ≤ q * P = before l q P B h s (omega arith) in
      let b : (suc q * P + B) * (suc q * P + B) ≤ (2 * q + 1) * P * ((2 * q + 1) * P) = square_le (omega arith) in
      let c : (2 * q + 1) * (2 * q + 1) < 4 * R = omega arith in
      let d : (2 * q + 1) * (2 * q + 1) * (P * P) < 4 * R * (P * P) = mul-lt-mul_of_pos_right c (mul-pos p p) in
      lt_of_le_of_lt b (omega arith),
)

pub best : (R q l P B : ℕ) → IsRoot R q → l ≤ q → 0 < P → Spaced l P B → Best (R * (P * P)) (near_root R * P) B
best R q l P B is h p s = go (leb R (q * q + q)) (leb→le R (q * q + q)) (nleb→lt R (q * q + q))
  where
    go : (b : Bool) → (T b → R ≤ q * q + q) → (T (not b) → q * q + q < R) → Best (R * (P * P)) (near_root R * P) B
    go true y n = subst (λ (r : ℕ). Best (R * (P * P)) (r * P) B) (sym (near_down R q is (y tt))) (best_down R q l P B is (y tt) h p s)
    go false y n = subst (λ (r : ℕ). Best (R * (P * P)) (r * P) B) (sym (near_up R q is (n tt))) (best_up R q l P B is (n tt) h p s)

-- the values of a format are spaced so
pub spaced : (p k n j : ℕ) → 0 < p → n < 2 ^ p → Spaced (2 ^ (p - 1)) (2 ^ k) (n * 2 ^ j)
spaced p k n j z h = go (leb k j) (leb→le k j) (nleb→lt k j)
  where
    go : (b : Bool) → (T b → k ≤ j) → (T (not b) → j < k) → Spaced (2 ^ (p - 1)) (2 ^ k) (n * 2 ^ j)
    go true y _ =
        let e : j ≡ j - k + k = (let l = y tt in omega arith) in
        inr (n * 2 ^ (j - k), ap (λ (x : ℕ). n * 2 ^ x) e ∙ ap (λ (x : ℕ). n * x) (pow-add 2 (j - k) k) ∙ sym (mul_assoc n (2 ^ (j - k)) (2 ^ k)))
    go false _ y =
        inl (le_trans (le_of_lt (shl_lt p j h)) (le_trans (pow_mono {j = p - 1 + k} (let l = y tt in omega arith)) (le_of_eq (pow-add 2 (p - 1) k))))
