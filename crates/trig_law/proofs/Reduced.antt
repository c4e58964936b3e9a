-- For |x| ≤ 0.75 the formula's q is 0 and its r is x, and its two sums are Horner's rule over ±1 / k!, each rounded once. Assumes nothing.
use mathlib.Core.Path.{◌≡◌, refl, sym, ap, ◌∙◌, subst}
use mathlib.Core.Logic.{inl, inr}
use Prim.Native.Nat.{ℕ, zero, suc, ◌+◌, ◌*◌, ◌≤◌, ◌<◌}
use native.Mathlib.Nat.{mul-pos, mul-le-mul_right, mul-lt-mul_of_pos_right, lt_of_mul-lt-mul_right, zero-mul}
use native.Mathlib.Omega.{arith}
use mathlib.Core.Bool.{Bool, true, false}
use mathlib.Core.List.{List, [], ◌∷◌}
use lib.Dec.{T, lit≤}
use lib.IntN.{ℤ, pos, neg_ℤ}
use lib.Pow.{pow_pos}
use lib.Ieee.{Float, nan, inf, fin, binary64, up, down, unlike, round, add, sub, mul, div, of_int, of_bits, fits}
use lib.Ieee.Fits.{down_pos}
use lib.Ieee.Exact.{HasValue}
use Rattle.ieee.specs.Number.{plus_zero, Same}
use Rattle.ieee.specs.Same.{add_zero_same, round_zero_at}
use Rattle.ieee.specs.Unique.{zero_exp, round_self}
use Rattle.ieee_whole.specs.Whole.{half_up, nearest_whole}
use Rattle.ieee_whole.specs.WholeLaws.{half_up_nearest}
use Rattle.trig_spec.specs.Formula.{factorial, const_h, const_a, const_b, const_c, reduced, over_factorial, horner, quadrant, from_reduced, from_whole, formula}
use Rattle.trig_spec.specs.Formula.{sine_coefficients, cosine_coefficients, sine_sum, cosine_sum}
use Rattle.trig_law.proofs.Rounded.{scale, slack, round_value}
use Rattle.trig_law.proofs.Horner.{horner_in, coefficients}

-- ---- the sums
horner_is : (z c : Float) (ds : List Float) → horner z c ds ≡ horner_in binary64 z c ds
unfolding horner horner_in
horner_is z c [] = refl
horner_is z c (d ∷ ds) = ap (λ x. add binary64 (mul binary64 x z) c) (horner_is z d ds)

sine_terms : sine_coefficients ≡ coefficients binary64 true 8 3
unfolding sine_coefficients coefficients factorial div of_int round
sine_terms = refl

cosine_terms : cosine_coefficients ≡ coefficients binary64 true 8 2
unfolding cosine_coefficients coefficients factorial div of_int round
cosine_terms = refl

first : (n : ℕ) → factorial n ≡ 1 → over_factorial n ≡ round binary64 false 1 (factorial n)
unfolding over_factorial div of_int round
first n h = subst (λ x. div binary64 (of_int binary64 (pos 1)) (of_int binary64 (pos x)) ≡ round binary64 false 1 x) (sym h) refl

-- the sum from 1 / k! on, by nine coefficients
abbrev pub sum_from : ℕ → Float → Float
sum_from k z = horner_in binary64 z (round binary64 false 1 (factorial k)) (coefficients binary64 true 8 (suc (suc k)))

sine_sum_lem : (z : Float) → sine_sum z ≡ sum_from 1 z
unfolding sine_sum factorial
sine_sum_lem z = horner_is z (over_factorial 1) sine_coefficients ∙ (λ i. horner_in binary64 z (first 1 refl i) (sine_terms i))

cosine_sum_lem : (z : Float) → cosine_sum z ≡ sum_from 0 z
unfolding cosine_sum factorial
cosine_sum_lem z = horner_is z (over_factorial 0) cosine_coefficients ∙ (λ i. horner_in binary64 z (first 0 refl i) (cosine_terms i))

-- ---- q = 0
nearest_small : (p : Float) (s : Bool) (g l : ℕ) → 0 < l → HasValue p s g l → 2 * g < l → nearest_whole p ≡ pos 0
unfolding nearest_whole
nearest_small nan s g l L v h = refl
nearest_small (inf t) s g l L v h = refl
nearest_small (fin t m e) s g l L v h = go t
  where
    small : (a b : ℕ) → a * l ≡ g * b → 0 < b → 2 * a < b
    small a b k B = lt_of_mul-lt-mul_right l (turn (mul-lt-mul_of_pos_right h B))
      where
        turn : 2 * g * b < l * b → 2 * a * l < b * l
        turn h = omega arith

    none : (q a b : ℕ) → 2 * a < b → q * (2 * b) ≤ 2 * a + b → q ≡ 0
    none zero a b k n = refl
    none (suc q) a b k n = absurd (never q k n)
      where
        never : (q : ℕ) → 2 * a < b → suc q * (2 * b) ≤ 2 * a + b → ⊥
        never q k n = omega arith

    zeroth : half_up (m * up e) (down e) ≡ 0
    zeroth =
        none (half_up (m * up e) (down e)) (m * up e) (down e) (small (m * up e) (down e) v.1 (down_pos e))
        (half_up_nearest (m * up e) (down e) (down_pos e)).0

    go : (t : Bool) → nearest_whole (fin t m e) ≡ pos 0
    go false = ap pos zeroth
    go true = ap (λ x. neg_ℤ (pos x)) zeroth

-- there is room for 100 roundings
pub room : 100 * slack binary64 ≤ scale binary64
room = lit≤ tt

times_h : (s : Bool) (m : ℕ) (e : ℤ)
    → mul binary64 (fin s m e) const_h ≡ round binary64 (unlike s false) (m * up e * (5734161139222659 * 1)) (down e * 9007199254740992)
unfolding mul const_h of_bits
times_h s m e = refl

whole_zero : (s : Bool) (m : ℕ) (e : ℤ) → 4 * (m * up e) ≤ 3 * down e → nearest_whole (mul binary64 (fin s m e) const_h) ≡ pos 0
whole_zero s m e h =
    ap nearest_whole (times_h s m e)
    ∙ (let r = round_value binary64 (unlike s false) (a * (5734161139222659 * 1)) (b * 9007199254740992) (mul-pos (down_pos e) (lit≤ tt)) (small a b h) in
    nearest_small _ (unlike s false) _ (scale binary64) (pow_pos 1074) r.0
    (lt_of_mul-lt-mul_right b (half a b _ (scale binary64) (slack binary64) h r.1.over room (mul-pos (down_pos e) (pow_pos 1074)))))
  where
    a : ℕ
    a = m * up e

    b : ℕ
    b = down e

    small : (a b : ℕ) → 4 * a ≤ 3 * b → a * (5734161139222659 * 1) ≤ 8 * (b * 9007199254740992)
    small a b h = omega arith

    half : (a b g l e : ℕ) → 4 * a ≤ 3 * b → g * (b * 9007199254740992) ≤ a * (5734161139222659 * 1) * l + b * 9007199254740992 * e → 100 * e ≤ l → 0 < b * l
        → 2 * g * b < l * b
    half a b g l e h k w p = omega (arith, mul-le-mul_right l h, mul-le-mul_right b w)

-- ---- r = x
less_zero : (x : Float) → T (fits binary64 x) → sub binary64 x plus_zero ≡ x
unfolding sub
less_zero nan t = refl
less_zero (inf s) t = refl
less_zero (fin false zero e) t = subst (λ d. sub binary64 (fin false zero d) plus_zero ≡ fin false zero d) (sym (zero_exp binary64 false e t)) refl
less_zero (fin true zero e) t = subst (λ d. sub binary64 (fin true zero d) plus_zero ≡ fin true zero d) (sym (zero_exp binary64 true e t)) refl
less_zero (fin s (suc m) e) t = go (add_zero_same binary64 (fin s (suc m) e) (fin true 0 (pos 0)) t tt)
  where
    sum : Float
    sum = add binary64 (fin s (suc m) e) (fin true 0 (pos 0))

    go : Same sum (fin s (suc m) e) → sum ≡ fin s (suc m) e
    go (inl p) = p
    go (inr z) = absurd z.1

zero_parts : (mul binary64 plus_zero const_a ≡ plus_zero) × (mul binary64 plus_zero const_b ≡ plus_zero) × (mul binary64 plus_zero const_c ≡ plus_zero)
unfolding mul const_a const_b const_c of_bits
zero_parts = (refl, refl, refl)

reduced_zero : (x : Float) → T (fits binary64 x) → reduced x plus_zero ≡ x
unfolding reduced
reduced_zero x t =
    (λ i. sub binary64 (sub binary64 (sub binary64 x (zero_parts.0 i)) (zero_parts.1 i)) (zero_parts.2 i))
    ∙ ap (λ y. sub binary64 (sub binary64 y plus_zero) plus_zero) (less_zero x t) ∙ ap (λ y. sub binary64 y plus_zero) (less_zero x t) ∙ less_zero x t

-- ---- so sine and cosine are the two sums
pub record Direct (x : Float) : Type 0 where
  pub sine : (formula x).sin ≡ mul binary64 x (sum_from 1 (mul binary64 x x))
  pub cosine : (formula x).cos ≡ sum_from 0 (mul binary64 x x)

of_zero : (x : Float) → from_whole x (pos 0) ≡ from_reduced (reduced x plus_zero) 0
unfolding from_whole of_int
of_zero x = refl

parts_of : (x : Float) → from_reduced x 0 ≡ record { sin = mul binary64 x (sine_sum (mul binary64 x x)); cos = cosine_sum (mul binary64 x x) }
unfolding from_reduced quadrant
parts_of x = refl

pub direct : (s : Bool) (m : ℕ) (e : ℤ) → T (fits binary64 (fin s m e)) → 4 * (m * up e) ≤ 3 * down e → Direct (fin s m e)
direct s m e t h =
    let x = fin s m e in
    let z = mul binary64 x x in
    let p : formula x ≡ record { sin = mul binary64 x (sine_sum z); cos = cosine_sum z } =
    opened s m e ∙ ap (from_whole x) (whole_zero s m e h) ∙ of_zero x ∙ ap (λ y. from_reduced y 0) (reduced_zero x t) ∙ parts_of x in
    record { sine = ap (λ r. r.sin) p ∙ ap (mul binary64 x) (sine_sum_lem z); cosine = ap (λ r. r.cos) p ∙ cosine_sum_lem z }
  where
    opened : (s : Bool) (m : ℕ) (e : ℤ) → formula (fin s m e) ≡ from_whole (fin s m e) (nearest_whole (mul binary64 (fin s m e) const_h))
    opened s m e = unfold formula in refl

-- ---- a float is its own fraction, rounded
pub own : (s : Bool) (m : ℕ) (e : ℤ) → T (fits binary64 (fin s m e)) → round binary64 s (m * up e) (down e) ≡ fin s m e
own s zero e t = round_zero_at binary64 s (zero * up e) (down e) (zero-mul (up e)) ∙ ap (fin s zero) (sym (zero_exp binary64 s e t))
own s (suc m) e t = round_self binary64 s m e t
