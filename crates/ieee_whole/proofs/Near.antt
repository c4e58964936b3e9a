-- `nearest_whole` between -2 ^ 52 and 2 ^ 52: the float doubled is exact, and the whole part of it, plus 1, halved, is the nearest whole number. Assumes
-- nothing.
use Rattle.std.proofs.Common.{◌≡◌, ℕ, ◌+◌, ◌*◌, ◌/◌, ◌%◌, ◌^◌, ◌<◌, ◌≤◌, Bool, true, false, ◌&&◌, T, eqb, ◌⊎◌, ℤ, pos, neg_ℤ, sym, refl, ap, ◌∙◌, subst, inl, inr, true≢false, le_trans, le_of_eq, lt_of_lt_of_le, le_of_suc-le-suc, mul-le-mul_right, zero-lt-suc, mul_comm, div-lt_iff_lt-mul, mul-pos, zero-mul, arith, eqb→eq, ltb→lt, leb→le, pow_pos, pow_mono, ltb-false, ltb-true}
use mathlib.Core.Bool.{false≢true}
use native.Mathlib.Nat.{add-div_right}
use native.Mathlib.Nat.{div-div-eq-div-mul}
use lib.Ieee.{Float, nan, inf, fin, binary64, up, down, neg, add, le, lt, to_unsigned, of_int, fits}
use lib.Ieee.Fits.{down_pos, and_l}
use lib.Ieee.Exact.{HasValue}
use lib.Ieee.Order.{le_of_values}
use Rattle.ieee.specs.Number.{plus_zero}
use Rattle.ieee.specs.Scaled.{doubled}
use Rattle.ieee_whole.specs.Whole.{half_up, nearest_magnitude, mod4, whole_of}
use Rattle.ieee_whole.specs.WholeLaws.{half_up_zero}
use Rattle.ieee_whole.proofs.Cut.{cut, never_below}
use Rattle.ieee_whole.specs.declared.Whole.{Whole}

-- ---- the whole number nearest to a / b

pub half_up_cut : (a b : ℕ) → 0 < b → (a * 2 / b + 1) / 2 ≡ half_up a b
unfolding half_up
half_up_cut a b B =
    ap (λ (x : ℕ). x / 2) (sym (add-div_right (a * 2) B))
    ∙ div-div-eq-div-mul (a * 2 + b) b 2
    ∙ ap (λ (x : ℕ). (x + b) / (b * 2)) (mul_comm a 2)
    ∙ ap (λ (x : ℕ). (2 * a + b) / x) (mul_comm b 2)

under : (a b : ℕ) → 0 < b → a < 4503599627370496 * b → 2 * a + b < 4503599627370497 * (2 * b)
under a b B h = omega arith

pub half_up_le : (a b : ℕ) → 0 < b → a < 2 ^ 52 * b → half_up a b ≤ 2 ^ 52
unfolding half_up
half_up_le a b B h = le_of_suc-le-suc ((div-lt_iff_lt-mul {k = 2 * b} {x = 2 * a + b} {y = 4503599627370497} (mul-pos (zero-lt-suc 1) B)).1 (under a b B h))

-- ---- `half_up_lem`

abbrev pub Halved : Float → Type 0
Halved a =
    T (lt (fin true 1 (pos 0)) (add binary64 a a)) × T (lt (add binary64 a a) (fin false 1 (pos 64)))
    × ((to_unsigned 64 (add binary64 a a) + 1) / 2 ≡ nearest_magnitude a)
    × (nearest_magnitude a ≤ 2 ^ 52)
    × (to_unsigned 64 (add binary64 a a) + 1 < 2 ^ 64)

room : (M D : ℕ) → M < 4503599627370496 * D → M * 2 < 18446744073709551616 * D
room M D h = omega arith

room' : (M D : ℕ) → M < 4503599627370496 * D → M * 2 < 9007199254740992 * D
room' M D h = omega arith

halved : (s : Bool) (m : ℕ) (e : ℤ) → T (fits binary64 (fin s m e)) → (s ≡ false) ⊎ (m * up e ≡ 0) → m * up e < 2 ^ 52 * down e → Halved (fin s m e)
unfolding nearest_magnitude
halved s m e p g h =
    let M = m * up e in
    let D = down e in
    let x = fin s m e in
    let v : HasValue (add binary64 x x) s (M * 2) D = doubled binary64 s m e p (lt_of_lt_of_le (room M D h) (mul-le-mul_right D (pow_mono {i = 64} {j = 1024} (leb→le 64 1024 tt)))) in
    let k = cut (add binary64 x x) s (M * 2) D (down_pos e) v (⊎-twice M g) (room M D h) in
    let l : M * 2 / D < 9007199254740992 = (div-lt_iff_lt-mul (down_pos e)).1 (room' M D h) in (
      k.0,
      k.1,
      ap (λ (u : ℕ). (u + 1) / 2) k.2 ∙ half_up_cut M D (down_pos e),
      half_up_le M D (down_pos e) h,
      subst (λ (u : ℕ). u + 1 < 2 ^ 64) (sym k.2) (top (M * 2 / D) l),
    )
  where
    ⊎-twice : {b : Bool} (M : ℕ) → (b ≡ false) ⊎ (M ≡ 0) → (b ≡ false) ⊎ (M * 2 ≡ 0)
    ⊎-twice M (inl g) = inl g
    ⊎-twice M (inr g) = inr (ap (λ (x : ℕ). x * 2) g)

    top : (u : ℕ) → u < 9007199254740992 → u + 1 < 18446744073709551616
    top u h = omega arith

pub half_up_lem : (a : Float) → T (fits binary64 a) → T (le plus_zero a) → T (lt a (fin false 1 (pos 52))) → Halved a
unfolding le lt
half_up_lem nan p g h = absurd g
half_up_lem (inf false) p g h = absurd h
half_up_lem (inf true) p g h = absurd g
half_up_lem (fin false m e) p g h = halved false m e p (inl refl) (plain (m * up e) (down e) (ltb→lt (m * up e * 1) (1 * 2 ^ 52 * down e) h))
  where
    plain : (M D : ℕ) → M * 1 < 1 * 4503599627370496 * D → M < 4503599627370496 * D
    plain M D h = omega arith
half_up_lem (fin true m e) p g h =
    let z : m * up e ≡ 0 = gone (m * up e) (down e) (eqb→eq (0 * 1 * down e) (m * up e * 1) (and_l (eqb (0 * 1 * down e) (m * up e * 1)) (eqb (0 * 1 * down e) 0) g)) in
    halved true m e p (inr z) (subst (λ (x : ℕ). x < 2 ^ 52 * down e) (sym z) (mul-pos (pow_pos 52) (down_pos e)))
  where
    gone : (M D : ℕ) → 0 * 1 * D ≡ M * 1 → M ≡ 0
    gone M D h = omega arith

-- ---- `nearest_whole`, by the ways through its tests

abbrev pub whole : Float → ℕ → Whole
whole v k = record { value = v; mod_4 = k }

gone≤ : (M D : ℕ) → M * 1 + 0 * 1 * D ≤ 0 → M ≡ 0
gone≤ M D h = omega arith

-- below zero, and above -2 ^ 52
pub near_neg_asks : (p : Float) → lt p plus_zero ≡ true → lt (fin true 1 (pos 52)) p ≡ true → T (le plus_zero (neg p)) × T (lt (neg p) (fin false 1 (pos 52)))
unfolding lt neg
near_neg_asks nan g h = absurd (false≢true g)
near_neg_asks (inf false) g h = absurd (false≢true g)
near_neg_asks (inf true) g h = absurd (false≢true h)
near_neg_asks (fin false m e) g h = absurd (never_below (m * up e) (down e) (ltb-true (m * up e * 1) (0 * 1 * down e) g))
near_neg_asks (fin true m e) g h = (
  le_of_values plus_zero (fin false m e) 0 1 (m * up e) (down e) (zero-lt-suc 0) (down_pos e) (refl, refl) (refl, refl)
      (le_trans (le_of_eq (zero-mul (down e))) (zero≤ (m * up e * 1))),
  subst T (sym h) tt,
)
  where
    zero≤ : (n : ℕ) → 0 ≤ n
    zero≤ n = omega arith

pub near_neg : (p : Float) (n : ℕ) → lt p plus_zero ≡ true → lt (fin true 1 (pos 52)) p ≡ true → n ≡ nearest_magnitude (neg p)
    → whole (of_int binary64 (neg_ℤ (pos n))) (mod4 (neg_ℤ (pos n))) ≡ whole_of p
unfolding lt neg nearest_magnitude whole_of
near_neg nan n g h k = absurd (false≢true g)
near_neg (inf false) n g h k = absurd (false≢true g)
near_neg (inf true) n g h k = absurd (false≢true h)
near_neg (fin false m e) n g h k = absurd (never_below (m * up e) (down e) (ltb-true (m * up e * 1) (0 * 1 * down e) g))
near_neg (fin true m e) n g h k = ap (λ (x : ℕ). whole (of_int binary64 (neg_ℤ (pos x))) (mod4 (neg_ℤ (pos x)))) k

-- not below zero, and below 2 ^ 52
pub near_pos_asks : (p : Float) → lt p plus_zero ≡ false → lt p (fin false 1 (pos 52)) ≡ true → T (le plus_zero p) × T (lt p (fin false 1 (pos 52)))
unfolding lt le
near_pos_asks nan g h = absurd (false≢true h)
near_pos_asks (inf false) g h = absurd (false≢true h)
near_pos_asks (inf true) g h = absurd (true≢false g)
near_pos_asks (fin false m e) g h = (
  le_of_values plus_zero (fin false m e) 0 1 (m * up e) (down e) (zero-lt-suc 0) (down_pos e) (refl, refl) (refl, refl)
      (le_trans (le_of_eq (zero-mul (down e))) (zero≤ (m * up e * 1))),
  subst T (sym h) tt,
)
  where
    zero≤ : (n : ℕ) → 0 ≤ n
    zero≤ n = omega arith
near_pos_asks (fin true m e) g h =
    let z : m * up e ≡ 0 = gone≤ (m * up e) (down e) (ltb-false 0 (m * up e * 1 + 0 * 1 * down e) g) in (
      subst (λ (x : ℕ). T (eqb (0 * 1 * down e) (x * 1) && eqb (0 * 1 * down e) 0)) (sym z)
          (subst (λ (x : ℕ). T (eqb x (0 * 1) && eqb x 0)) (sym (zero-mul (down e))) tt),
      subst T (sym h) tt,
    )

pub near_pos : (p : Float) (n : ℕ) → lt p plus_zero ≡ false → lt p (fin false 1 (pos 52)) ≡ true → n ≡ nearest_magnitude p
    → whole (of_int binary64 (pos n)) (n % 4) ≡ whole_of p
unfolding lt nearest_magnitude whole_of
near_pos nan n g h k = absurd (false≢true h)
near_pos (inf false) n g h k = absurd (false≢true h)
near_pos (inf true) n g h k = absurd (true≢false g)
near_pos (fin false m e) n g h k = ap (λ (x : ℕ). whole (of_int binary64 (pos x)) (x % 4)) k
near_pos (fin true m e) n g h k =
    let z : m * up e ≡ 0 = gone≤ (m * up e) (down e) (ltb-false 0 (m * up e * 1 + 0 * 1 * down e) g) in
    let y : half_up (m * up e) (down e) ≡ 0 = ap (λ (x : ℕ). half_up x (down e)) z ∙ half_up_zero (down e) (down_pos e) in
    ap (λ (x : ℕ). whole (of_int binary64 (pos x)) (x % 4)) (k ∙ y)
    ∙ sym (ap (λ (x : ℕ). whole (of_int binary64 (neg_ℤ (pos x))) (mod4 (neg_ℤ (pos x)))) y)
