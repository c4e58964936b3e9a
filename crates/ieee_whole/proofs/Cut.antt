-- What `truncating_f64_to_u64` asks and gives for a value that is not negative, the tests in front of it, and that a value from 2 ^ 52 on has no fraction.
-- `fin s m e` is ±(m * up e) / down e. Assumes nothing.
use Rattle.std.proofs.Common.{◌≡◌, ℕ, suc, ◌+◌, ◌-◌, ◌*◌, ◌/◌, ◌^◌, ◌<◌, ◌≤◌, min, Bool, true, false, T, ◌⊎◌, pos, sym, ap, ◌∙◌, subst, inl, inr, true≢false, div-lt_iff_lt-mul, lt_of_mul-lt-mul_right, mul-lt-mul_of_pos_right, one-mul, zero-mul, mul-one, mul_right_comm, arith, lt→ltb, pow_pos}
use native.Mathlib.Nat.{zero-div}
use native.Mathlib.Nat.{eq_of_mul-eq-mul_right, pow-succ'}
use lib.Ieee.{Float, nan, inf, fin, up, down, lt, to_unsigned}
use lib.Ieee.Fits.{down_pos}
use lib.Ieee.Exact.{HasValue}
use lib.Ieee.Nearest.{div_same}

uncapped : (a c : ℕ) → a < c → min a (c - 1) ≡ a
uncapped a c h = omega arith

none : (n c d : ℕ) → 0 < c → n * c ≡ 0 * d → n ≡ 0
none n c d C h = eq_of_mul-eq-mul_right c C n 0 (h ∙ zero-mul d ∙ sym (zero-mul c))

abbrev pub Cut : Float → ℕ → Type 0
Cut y n = T (lt (fin true 1 (pos 0)) y) × T (lt y (fin false 1 (pos 64))) × (to_unsigned 64 y ≡ n)

pub cut : (y : Float) (s : Bool) (a c : ℕ) → 0 < c → HasValue y s a c → (s ≡ false) ⊎ (a ≡ 0) → a < 2 ^ 64 * c → Cut y (a / c)
unfolding lt to_unsigned
cut nan s a c C v g h = absurd v
cut (inf t) s a c C v g h = absurd v
cut (fin false n d) s a c C v g h =
    let N = n * up d in
    let small : N < 2 ^ 64 * down d =
    lt_of_mul-lt-mul_right c
    (subst (λ (x : ℕ). x < 2 ^ 64 * down d * c) (sym v.1) (subst (λ (x : ℕ). a * down d < x) (mul_right_comm (2 ^ 64) c (down d)) (mul-lt-mul_of_pos_right h (down_pos d)))) in (
      lt→ltb 0 (1 * 1 * down d + N * 1) (some (down d) N (down_pos d)),
      lt→ltb (N * 1) (1 * 2 ^ 64 * down d) (subst (λ (x : ℕ). x < 1 * 2 ^ 64 * down d) (sym (mul-one N)) small),
      uncapped (N / down d) (2 ^ 64) ((div-lt_iff_lt-mul (down_pos d)).1 small) ∙ div_same N (down d) a c (down_pos d) C v.1,
    )
  where
    some : (x N : ℕ) → 0 < x → 0 < 1 * 1 * x + N * 1
    some x N h = omega arith
cut (fin true n d) s a c C v (inl g) h = absurd (true≢false (v.0 ∙ g))
cut (fin true n d) s a c C v (inr g) h =
    let N = n * up d in
    let z : N ≡ 0 = none N c (down d) C (v.1 ∙ ap (λ (x : ℕ). x * down d) g) in (
      lt→ltb (N * 1) (1 * 1 * down d) (less N (down d) z (down_pos d)),
      lt→ltb 0 (N * 1 + 1 * 2 ^ 64 * down d) (more N (down d) (down_pos d)),
      sym (ap (λ (x : ℕ). x / c) g ∙ zero-div c),
    )
  where
    less : (N x : ℕ) → N ≡ 0 → 0 < x → N * 1 < 1 * 1 * x
    less N x z h = omega arith

    more : (N x : ℕ) → 0 < x → 0 < N * 1 + 1 * 18446744073709551616 * x
    more N x h = omega arith

-- ---- a comparison of M / D with 0 and with k
pub never_below : (M D : ℕ) → M * 1 < 0 * 1 * D → ⊥
never_below M D h = omega arith

pub plain< : (k M D : ℕ) → M * 1 < 1 * k * D → M < k * D
plain< k M D h = subst (λ (x : ℕ). x < k * D) (mul-one M) (subst (λ (x : ℕ). M * 1 < x * D) (one-mul k) h)

pub plain≤ : (k M D : ℕ) → 1 * k * D ≤ M * 1 → k * D ≤ M
plain≤ k M D h = subst (λ (x : ℕ). k * D ≤ x) (mul-one M) (subst (λ (x : ℕ). x * D ≤ M * 1) (one-mul k) h)

-- ---- no fraction from 2 ^ 52 on
pub cut_off : (m k : ℕ) → m < 2 ^ 53 → 2 ^ 52 * 2 ^ suc k ≤ m * 1 → ⊥
cut_off m k h g = clash (2 ^ k) m (pow_pos k) h (subst (λ (x : ℕ). 2 ^ 52 * x ≤ m * 1) (pow-succ' 2 k) g)
  where
    clash : (a m : ℕ) → 0 < a → m < 9007199254740992 → 4503599627370496 * (2 * a) ≤ m * 1 → ⊥
    clash a m A h g = omega arith
