-- full * s / TAU, rounded twice, lies from 0 to 1024 for 0 <= s <= TAU and a whole full up to 1024. Assumes nothing.
use Rattle.std.specs.Prelude.{◌≡◌, ℕ, zero, suc, ◌+◌, ◌*◌, ◌^◌, ◌<◌, ◌≤◌, true, false, not, ◌&&◌, T, ◌⊎◌, pos, negsuc, ◌==◌, ◌≢◌, nat_lt, refl, Float}
use Rattle.std.proofs.Common.{sym, ap, ◌∙◌, subst, inl, inr, zero-le, le_trans, le_of_eq, lt_of_lt_of_le, lt_of_le_of_lt, le-add_left, zero-lt-suc, zero-mul, one-mul, mul-pos, mul_assoc, mul-le-mul, arith, eqb→eq, lt→ltb, lit≤, lit<}
use Rattle.std.specs.Float.{nan, inf, fin, Format, binary64}
use Rattle.std.specs.Float.Ieee.{up, down, round, mul, div, of_int, of_bits, le, lt, eq, is_nan}
use Rattle.std.specs.Float.Ieee.Fits.{up_pos, down_pos, and_l, and_r}
use Rattle.std.specs.Float.Ieee.Scale.{finite}
use Rattle.std.specs.Float.Ieee.Order.{round_mono, le_of_values}
use Rattle.std.specs.Float.Ieee.Positive.{num, den, positive, den_pos, own_value, positive_of_value, le→cross, mul_at}
use Rattle.ieee.specs.Number.{tau, minimum, absolute}
use Rattle.ieee.specs.Total.{minimum_is}
use Rattle.ieee.specs.Same.{is_zero, plus_zero, mul_zero_r, div_zero_l, round_zero, zeros_eq, or_l, or_r, no_size}
use Rattle.ieee.specs.Ends.{of_nat_value, of_nat_finite}

-- ---- the definitions
-- docs/SCOPE.md's `arc_segments` before the ceiling, for n = max(segments, 3) and s = min(|span|, TAU): (n × s) / TAU
abbrev pub sweep : ℕ → Float → Float
sweep n s = div binary64 (mul binary64 (of_int binary64 (pos n)) s) tau

-- 1024.0
abbrev pub top : Float
top = fin false 1 (pos 10)

-- 0 ≤ y ≤ 1024
pub record Within (y : Float) : Type 0 where
  pub above : T (le plus_zero y)
  pub under : T (le y top)

-- ---- TAU as a fraction, 0x3243F6A8885A3 / 2 ^ 47
abbrev turn : Float
turn = fin false 0x3243F6A8885A3 (negsuc 46)

tau_is : tau ≡ turn
unfolding of_bits
tau_is = refl

-- 1024 times that, exactly
abbrev turns : Float
turns = fin false 0x3243F6A8885A3 (negsuc 36)

scaled : round binary64 false (1024 * num turn) (den turn) ≡ turns
unfolding round
scaled = refl

of_1024 : round binary64 false 1024 1 ≡ top
unfolding round
of_1024 = refl

-- ---- between 0 and a number: a zero, or positive
pub not_minus : (a b : ℕ) → 0 < b → T (a == b && a == 0) → ⊥
not_minus a b p t = go (eqb→eq a b (and_l (a == b) (a == 0) t)) (eqb→eq a 0 (and_r (a == b) (a == 0) t))
  where
    go : a ≡ b → a ≢ 0
    go h k = omega arith

pub zero_or_positive : (x hi : Float) → T (finite hi) → T (le plus_zero x) → T (le x hi) → T (is_zero x) ⊎ T (positive x)
unfolding le
zero_or_positive nan hi t h k = absurd h
zero_or_positive (inf true) hi t h k = absurd h
zero_or_positive (inf false) nan t h k = absurd t
zero_or_positive (inf false) (inf s) t h k = absurd t
zero_or_positive (inf false) (fin s m e) t h k = absurd k
zero_or_positive (fin false zero e) hi t h k = inl tt
zero_or_positive (fin false (suc m) e) hi t h k = inr (lt→ltb 0 (suc m) (zero-lt-suc m))
zero_or_positive (fin true zero e) hi t h k = inl tt
zero_or_positive (fin true (suc m) e) hi t h k =
    absurd (not_minus (0 * down e) (suc m * up e * 1) (mul-pos (mul-pos (zero-lt-suc m) (up_pos e)) (zero-lt-suc 0)) h)

-- ---- the two bounds
zero_le_top : (x : Float) → T (is_zero x) → T (le x top)
unfolding le
zero_le_top nan z = absurd z
zero_le_top (inf s) z = absurd z
zero_le_top (fin false zero e) z =
    or_l (nat_lt (0 * up e * 1) (1024 * down e)) (0 * up e * 1 == 1024 * down e && true)
    (lt→ltb (0 * up e * 1) (1024 * down e) (lt_of_le_of_lt (le_of_eq (no_size e (pos 0))) (mul-pos (lit< tt) (down_pos e))))
zero_le_top (fin true zero e) z =
    or_l (nat_lt 0 (0 * up e * 1 + 1024 * down e)) (0 * up e * 1 == 1024 * down e && 0 * up e * 1 == 0)
    (lt→ltb 0 (0 * up e * 1 + 1024 * down e) (lt_of_lt_of_le (mul-pos (lit< tt) (down_pos e)) (le-add_left (1024 * down e) (0 * up e * 1))))
zero_le_top (fin s (suc m) e) z = absurd z

zero_le_zero : (x : Float) → T (is_zero x) → T (le plus_zero x)
unfolding le
zero_le_zero x z = or_r (lt plus_zero x) (eq plus_zero x) (zeros_eq plus_zero x tt z)

zero_within : (x : Float) → T (is_zero x) → Within x
zero_within x z = record { above = zero_le_zero x z; under = zero_le_top x z }

rounded_above : (f : Format) (a c : ℕ) → 0 < c → T (le plus_zero (round f false a c))
rounded_above f a c C =
    subst (λ (x : Float). T (le x (round f false a c))) (round_zero f false 1)
    (round_mono f 0 1 a c (zero-lt-suc 0) C (subst (λ (x : ℕ). x ≤ a * 1) (sym (zero-mul c)) zero-le))

-- ---- full * s
grow : (n a D M d : ℕ) → n ≤ 1024 → a * D ≤ M * d → n * a * D ≤ 1024 * M * (1 * d)
grow n a D M d h k = le_trans (le_of_eq (mul_assoc n a D))
    (le_trans (mul-le-mul h k) (le_of_eq (sym (mul_assoc 1024 M d) ∙ ap (λ (x : ℕ). 1024 * M * x) (sym (one-mul d)))))

module _ (n : ℕ) (s : Float) (some : 1 ≤ n) (few : n ≤ 1024) (p : T (positive s)) where
  few' : n ≤ 2 ^ 53
  few' = le_trans few (lit≤ tt)

  product_is : mul binary64 (of_int binary64 (pos n)) s ≡ round binary64 false (n * num s) (1 * den s)
  product_is =
      mul_at binary64 (of_int binary64 (pos n)) s n 1 (num s) (den s)
      (positive_of_value (of_int binary64 (pos n)) n 1 (of_nat_value n few') some) p (zero-lt-suc 0) (den_pos s) (of_nat_value n few') (own_value s p)

  product_above : T (le plus_zero (mul binary64 (of_int binary64 (pos n)) s))
  product_above = rw product_is (rounded_above binary64 (n * num s) (1 * den s) (mul-pos (zero-lt-suc 0) (den_pos s)))

  product_under : T (le s turn) → T (le (mul binary64 (of_int binary64 (pos n)) s) turns)
  product_under h =
      rw (product_is, ← scaled)
      (round_mono binary64 (n * num s) (1 * den s) (1024 * num turn) (den turn) (mul-pos (zero-lt-suc 0) (den_pos s)) (den_pos turn)
      (grow n (num s) (den turn) (num turn) (den s) few (le→cross s turn p tt h)))

-- ---- that over TAU
quotient_is : (q : Float) → T (positive q) → div binary64 q turn ≡ round binary64 false (num q * den turn) (num turn * den q)
unfolding div
quotient_is nan p = absurd p
quotient_is (inf s) p = absurd p
quotient_is (fin true m e) p = absurd p
quotient_is (fin false m e) p = refl

shrunk : (P D : ℕ) → P * 2 ^ 37 ≤ 0x3243F6A8885A3 * D → P * 2 ^ 47 * 1 ≤ 1024 * (0x3243F6A8885A3 * D)
shrunk P D h = omega arith

quotient_within : (q : Float) → T (positive q) → T (le q turns) → Within (div binary64 q turn)
quotient_within q p h = record {
  above = rw (quotient_is q p) (rounded_above binary64 (num q * den turn) (num turn * den q) (mul-pos (lit< tt) (den_pos q)));
  under = rw (quotient_is q p, ← of_1024)
      (round_mono binary64 (num q * den turn) (num turn * den q) 1024 1 (mul-pos (lit< tt) (den_pos q)) (zero-lt-suc 0)
      (shrunk (num q) (den q) (le→cross q turns p tt h)));
}

zero_over : (q : Float) → T (is_zero q) → Within (div binary64 q turn)
zero_over q z = zero_within (div binary64 q turn) (div_zero_l binary64 q turn z tt tt)

swept : (n : ℕ) (s : Float) → 3 ≤ n → n ≤ 1024 → T (le plus_zero s) → T (le s turn) → Within (div binary64 (mul binary64 (of_int binary64 (pos n)) s) turn)
swept n s a b h k = outer (zero_or_positive s turn tt h k)
  where
    p : Float
    p = mul binary64 (of_int binary64 (pos n)) s

    a' : 1 ≤ n
    a' = omega arith

    inner : T (positive s) → T (is_zero p) ⊎ T (positive p) → Within (div binary64 p turn)
    inner q (inl z) = zero_over p z
    inner q (inr r) = quotient_within p r (product_under n s a' b q k)

    outer : T (is_zero s) ⊎ T (positive s) → Within (div binary64 p turn)
    outer (inl z) = zero_over p (mul_zero_r binary64 (of_int binary64 (pos n)) s (of_nat_finite n (le_trans b (lit≤ tt))) z)
    outer (inr q) = inner q (zero_or_positive p turns tt (product_above n s a' b q) (product_under n s a' b q k))

pub sweep_within : (n : ℕ) (s : Float) → 3 ≤ n → n ≤ 1024 → T (le plus_zero s) → T (le s tau) → Within (sweep n s)
sweep_within n s a b h =
    subst (λ (t : Float). T (le s t) → Within (div binary64 (mul binary64 (of_int binary64 (pos n)) s) t)) (sym tau_is) (swept n s a b h)

-- ---- the same with s = min(|x|, TAU), for each x that is no NaN
absolute_some : (x : Float) → T (not (is_nan x)) → T (not (is_nan (absolute x)))
unfolding is_nan absolute
absolute_some nan h = h
absolute_some (inf s) h = tt
absolute_some (fin s m e) h = tt

absolute_above : (x : Float) → T (not (is_nan x)) → T (le plus_zero (absolute x))
unfolding is_nan absolute le
absolute_above nan h = absurd h
absolute_above (inf s) h = tt
absolute_above (fin s m e) h =
    le_of_values plus_zero (fin false m e) 0 1 (m * up e) (down e) (zero-lt-suc 0) (down_pos e) (refl, refl) (refl, refl)
    (le_trans (le_of_eq (zero-mul (down e))) zero-le)

pub arc_within : (n : ℕ) (x : Float) → T (not (is_nan x)) → 3 ≤ n → n ≤ 1024 → Within (sweep n (minimum (absolute x) tau))
unfolding is_nan of_bits le
arc_within n x h a b =
    let m = minimum_is (absolute x) tau (absolute_some x h) tt in
    sweep_within n (minimum (absolute x) tau) a b (above m.one_of) m.under_b
  where
    above : (minimum (absolute x) tau ≡ absolute x) ⊎ (minimum (absolute x) tau ≡ tau) → T (le plus_zero (minimum (absolute x) tau))
    above (inl e) = subst (λ (s : Float). T (le plus_zero s)) (sym e) (absolute_above x h)
    above (inr e) = subst (λ (s : Float). T (le plus_zero s)) (sym e) tt
