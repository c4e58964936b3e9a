-- Sine and cosine of every x from −0.75 to 0.75 lie within 63 * 2 ^ -49 of their series, and so within 2 ^ -43. Assumes nothing.
use mathlib.Core.Path.{◌≡◌, refl, sym, ap, ◌∙◌, subst}
use mathlib.Core.Logic.{inl, inr}
use Prim.Native.Nat.{ℕ, zero, suc, ◌+◌, ◌*◌, ◌^◌, ◌≤◌, ◌<◌}
use native.Mathlib.Nat.{le_trans, mul-le-mul_left, mul-pos, one-mul, pow-zero, pow-suc}
use native.Mathlib.Omega.{arith}
use mathlib.Core.Bool.{Bool, true, false, cond}
use lib.Dec.{T, lit≤}
use lib.IntN.{ℤ, pos, pow, one}
use lib.Pow.{pow_mono}
use lib.Ieee.{Float, nan, inf, fin, binary64, up, down, round, mul, neg, of_int, of_bits, le, eq, fits}
use lib.Ieee.Fits.{down_pos}
use lib.Ieee.Exact.{HasValue}
use lib.Ieee.Scale.{grid, finite}
use Rattle.ieee.specs.Order.{at_most}
use Rattle.ieee.specs.Same.{Same, is_zero, plus_zero, eq→same}
use Rattle.ieee.specs.Unique.{zero_exp}
use Rattle.ieee_whole.specs.Whole.{signed}
use Rattle.trig_spec.specs.Formula.{factorial, formula}
use Rattle.trig_spec.specs.Trig.{on_axis, sin_cos}
use Rattle.trig_spec.specs.TrigLaws.{at_small, at_zero}
use Rattle.trig_law.specs.Series.{series, terms, sine_series, cosine_series, exact_value, Within, InRange, NearSeries, SinCosOf}
use Rattle.trig_law.proofs.Rounded.{scale, slack, round_value}
use Rattle.trig_law.proofs.Steps.{pick}
use Rattle.trig_law.proofs.Horner.{under, part}
use Rattle.trig_law.proofs.Parts.{above, below, power_zero, power_one, Times, times}
use Rattle.trig_law.proofs.Fractions.{within}
use Rattle.trig_law.proofs.Sums.{sum_close, product_close, sum_some, sum_four}
use Rattle.trig_law.proofs.Reduced.{sum_from, room, direct, own}

-- ---- −0.75 ≤ x ≤ 0.75, of the fraction
in_range : (s : Bool) (m : ℕ) (e : ℤ) → InRange (fin s m e) → 4 * (m * up e) ≤ 3 * down e
unfolding le neg of_bits
in_range false m e i = omega (arith, at_most false (m * up e) _ false _ (down e) i.high)
in_range true m e i = omega (arith, at_most true _ (down e) true (m * up e) _ i.low)

number : (x : Float) → InRange x → T (finite x)
unfolding le neg of_bits
number nan i = i.high
number (inf false) i = i.high
number (inf true) i = i.low
number (fin s m e) i = tt

-- ---- the formula
squared : (s : Bool) (m : ℕ) (e : ℤ) → mul binary64 (fin s m e) (fin s m e) ≡ round binary64 false (m * up e * (m * up e)) (down e * down e)
unfolding mul
squared false m e = refl
squared true m e = refl

first_power : (n : ℕ) → n ^ 1 ≡ n
first_power n = pow-suc n 0 ∙ ap (λ x. x * n) (pow-zero n) ∙ one-mul n

-- the series has the terms of the formula, and more
nine_terms : 9 ≤ terms
nine_terms = lit≤ tt

-- x is ±a / b, and 2 ^ -c is no less than 63 * 2 ^ -49
module _ (s : Bool) (a b : ℕ) (some : 0 < b) (h : 4 * a ≤ 3 * b) (c : ℕ) (fine : 63 * slack binary64 * 2 ^ c ≤ scale binary64) where
  plus_part : ℕ → ℕ
  plus_part k = part (a * a) (b * b) false terms k

  minus_part : ℕ → ℕ
  minus_part k = part (a * a) (b * b) true terms k

  S : ℕ → ℕ
  S k = under (a * a) (b * b) terms k

  z : Float
  z = round binary64 false (a * a) (b * b)

  cosine_within : Within c (sum_from 0 z) (cosine_series (record { num = signed s a; den = b }))
  unfolding plus_part minus_part S z
  cosine_within =
      let q = cosine_series (record { num = signed s a; den = b }) in
      within binary64 c 58 _ (plus_part 0) (minus_part 0) (S 0) q (sum_some binary64 a b some h room terms nine_terms 0)
      (finer (slack binary64) (2 ^ c) (scale binary64) fine)
      (sum_close binary64 a b some h room terms nine_terms 0 (unfold factorial in lit≤ tt))
      (unit (above q.num) (below q.num) (S 0) (minus_part 0) (plus_part 0) q.den
      (subst (λ u. Times false u (b ^ 0) (plus_part 0) (minus_part 0) (S 0) q) (pow-zero a) (times s false a b terms 0 (power_zero s a))))
    where
      finer : (e p l : ℕ) → 63 * e * p ≤ l → 58 * e * p ≤ l
      finer e p l h = omega arith

      unit : (i j S N P D : ℕ) → i * (b ^ 0 * S) + 1 * N * D ≡ j * (b ^ 0 * S) + 1 * P * D → i * S + N * D ≡ j * S + P * D
      unit i j S N P D h = go (subst (λ v. i * (v * S) + 1 * N * D ≡ j * (v * S) + 1 * P * D) (pow-zero b) h)
        where
          go : i * (1 * S) + 1 * N * D ≡ j * (1 * S) + 1 * P * D → i * S + N * D ≡ j * S + P * D
          go h = omega arith

  sine_within : (y : Float) → HasValue y s (grid binary64 a b) (scale binary64)
      → Within c (mul binary64 y (sum_from 1 z)) (sine_series (record { num = signed s a; den = b }))
  unfolding plus_part minus_part S z
  sine_within y v =
      let q = sine_series (record { num = signed s a; den = b }) in
      let P = plus_part 1 in
      let N = minus_part 1 in
      let g = sum_some binary64 a b some h room terms nine_terms 1 in
      within binary64 c 63 _ (pick s (a * P) (a * N)) (pick s (a * N) (a * P)) (b * S 1) q (mul-pos some g) fine
      (product_close binary64 a b some h room terms nine_terms y _ s P N (S 1) g (sum_four binary64 a b some h room terms nine_terms 1) v
      (sum_close binary64 a b some h room terms nine_terms 1 (unfold factorial in lit≤ tt)))
      (subst (λ u. Times s u b P N (S 1) q) (first_power a)
      (subst (λ w. Times s (a ^ 1) w P N (S 1) q) (first_power b) (times s s a b terms 1 (power_one s a))))

formula_near : (s : Bool) (m : ℕ) (e : ℤ) (n : ℕ) → 63 * slack binary64 * 2 ^ n ≤ scale binary64 → T (fits binary64 (fin s m e)) → InRange (fin s m e)
    → NearSeries n (fin s m e) (formula (fin s m e))
unfolding z
formula_near s m e n fine t i =
    let x = fin s m e in
    let h = in_range s m e i in
    let d = direct s m e t h in
    let r = round_value binary64 s (m * up e) (down e) (down_pos e) (omega (arith, h)) in
    let v = subst (λ y. HasValue y s (grid binary64 (m * up e) (down e)) (scale binary64)) (own s m e t) r.0 in
    record {
      sine = subst (λ y. Within n y (sine_series (exact_value x))) (sym d.sine)
          (subst (λ z. Within n (mul binary64 x (sum_from 1 z)) (sine_series (exact_value x))) (sym (squared s m e))
          (sine_within s (m * up e) (down e) (down_pos e) h n fine x v));
      cosine = subst (λ y. Within n y (cosine_series (exact_value x))) (sym d.cosine)
          (subst (λ z. Within n (sum_from 0 z) (cosine_series (exact_value x))) (sym (squared s m e))
          (cosine_within s (m * up e) (down e) (down_pos e) h n fine));
    }

-- ---- the zeros: the sine is +0.0 and the cosine 1, which are the series
none : (p d : ℕ) → 0 * p ≤ d
none p d = omega arith

at_zeros : (s : Bool) (n : ℕ) → NearSeries n (fin s 0 (pos 0)) (on_axis 0)
unfolding on_axis of_int series pow one factorial
at_zeros false n = record { sine = record { is_finite = tt; near = none _ _ }; cosine = record { is_finite = tt; near = none _ _ } }
at_zeros true n = record { sine = record { is_finite = tt; near = none _ _ }; cosine = record { is_finite = tt; near = none _ _ } }

-- ---- the theorem
-- what is no zero is no quarter point
not_quarter : (s : Bool) (m : ℕ) (e : ℤ) → T (fits binary64 (fin s (suc m) e)) → InRange (fin s (suc m) e)
    → sin_cos (fin s (suc m) e) ≡ formula (fin s (suc m) e)
not_quarter s m e t i =
    at_small s (suc m) e (in_range s (suc m) e i)
    ∙ ap (λ b. cond b (on_axis 0) (formula x)) (never (eq x plus_zero) (λ q. not_zero (eq→same binary64 x plus_zero t (unfold fits in tt) q)))
  where
    x : Float
    x = fin s (suc m) e

    never : (u : Bool) → (T u → ⊥) → u ≡ false
    never true h = absurd (h tt)
    never false h = refl

    not_zero : Same (fin s (suc m) e) plus_zero → ⊥
    not_zero (inl p) = subst (λ y. T (is_zero y)) (sym p) tt
    not_zero (inr z) = z.0

-- 63 times what one rounding may be off, 2 ^ -49, is no more than 2 ^ -43
fine_enough : (n : ℕ) → n ≤ 43 → 63 * slack binary64 * 2 ^ n ≤ scale binary64
fine_enough n h = le_trans (mul-le-mul_left (63 * slack binary64) (pow_mono {j = 43} h)) (lit≤ tt)

-- docs/SCOPE.md T9, and finer
pub near_series : (x : Float) → T (fits binary64 x) → InRange x → (n : ℕ) → n ≤ 43 → NearSeries n x (sin_cos x)
near_series nan t i n h = absurd (number nan i)
near_series (inf s) t i n h = absurd (number (inf s) i)
near_series (fin s zero e) t i n h =
    subst (λ r. NearSeries n (fin s zero e) r) (sym (at_zero (fin s zero e) tt))
    (subst (λ d. NearSeries n (fin s zero d) (on_axis 0)) (sym (zero_exp binary64 s e t)) (at_zeros s n))
near_series (fin s (suc m) e) t i n h =
    subst (λ r. NearSeries n (fin s (suc m) e) r) (sym (not_quarter s m e t i)) (formula_near s (suc m) e n (fine_enough n h) t i)

-- what the function `sin_cos` promises is true of `sin_cos`
pub sin_cos_of : (x : Float) → T (fits binary64 x) → SinCosOf x (sin_cos x)
sin_cos_of x t = record { value = refl; near = λ i. near_series x t i _ (lit≤ tt) }
