-- `ceil_to_usize`, by the ways through its tests: the float cut to a whole number and one comparison below 2 ^ 52, the cut alone up to 2 ^ 64, and the two
-- ends. Assumes nothing.
use Rattle.std.proofs.Common.{◌≡◌, ℕ, suc, ◌+◌, ◌-◌, ◌*◌, ◌/◌, ◌^◌, ◌<◌, ◌≤◌, min, Bool, true, false, T, ltb, ℤ, pos, negsuc, sym, refl, ap, ◌∙◌, subst, inl, true≢false, le_trans, le_of_eq, lt_of_le_of_lt, add-zero, div-lt_iff_lt-mul, lt_of_mul-lt-mul_right, mul-lt-mul_of_pos_right, le-div_iff_mul-le, mul-one, mul_right_comm, div-mul-le_self, arith, lit≤, le→leb, ltb→lt, lt→ltb, ltb-false, ltb-true}
use native.Mathlib.Nat.{div-eq_of_lt-le}
use mathlib.Core.Bool.{false≢true}
use lib.Ieee.{Float, nan, inf, fin, binary64, up, down, of_int, to_unsigned, in_float, lt, fits}
use lib.Ieee.Fits.{down_pos}
use lib.Ieee.Exact.{HasValue}
use Rattle.ieee.specs.Number.{plus_zero}
use Rattle.ieee_whole.specs.Whole.{ceiling}
use Rattle.ieee.specs.Scaled.{held}
use Rattle.ieee.specs.Ends.{of_nat_value}
use Rattle.ieee_whole.proofs.Cut.{Cut, cut, plain<, plain≤, cut_off}

-- ---- whole numbers: the ceiling of N / D from q = N / D without its fraction
above_cut : (N D q : ℕ) → 0 < D → N / D ≡ q → q * D < N → (N + (D - 1)) / D ≡ q + 1
above_cut N D q p e h =
    let k : N < (q + 1) * D = (div-lt_iff_lt-mul p).0 (lt_of_le_of_lt (le_of_eq e) (suc_lt q)) in
    div-eq_of_lt-le D (lo k) (hi k)
  where
    suc_lt : (q : ℕ) → q < q + 1
    suc_lt q = omega arith

    lo : N < (q + 1) * D → (q + 1) * D ≤ N + (D - 1)
    lo k = omega arith

    hi : N < (q + 1) * D → N + (D - 1) < (q + 1 + 1) * D
    hi k = omega arith

at_cut : (N D q : ℕ) → 0 < D → N / D ≡ q → N ≤ q * D → (N + (D - 1)) / D ≡ q
at_cut N D q p e h =
    let k : q * D ≤ N = le_trans (le_of_eq (ap (λ (x : ℕ). x * D) (sym e))) (div-mul-le_self N D) in
    div-eq_of_lt-le D (lo k) (hi k)
  where
    lo : q * D ≤ N → q * D ≤ N + (D - 1)
    lo k = omega arith

    hi : q * D ≤ N → N + (D - 1) < (q + 1) * D
    hi k = omega arith

uncapped : (q k : ℕ) → q ≡ k → k ≤ 4503599627370497 → k ≡ min q 18446744073709551615
uncapped q k e h = omega arith

-- ---- t < y, for a whole number t as a float and y above zero, as whole numbers
both_ways : (a b : Bool) → (T a → T b) → (T b → T a) → a ≡ b
both_ways true true f g = refl
both_ways true false f g = absurd (f tt)
both_ways false true f g = absurd (g tt)
both_ways false false f g = refl

ltb_scale : (x y c : ℕ) → 0 < c → ltb (x * c) (y * c) ≡ ltb x y
ltb_scale x y c p =
    both_ways (ltb (x * c) (y * c)) (ltb x y)
    (λ t. lt→ltb x y (lt_of_mul-lt-mul_right c (ltb→lt (x * c) (y * c) t)))
    (λ t. lt→ltb (x * c) (y * c) (mul-lt-mul_of_pos_right (ltb→lt x y t) p))

whole_lt : (x : Float) (m : ℕ) (e : ℤ) (q : ℕ) → HasValue x false q 1 → lt x (fin false m e) ≡ ltb (q * down e) (m * up e)
unfolding lt
whole_lt nan m e q v = absurd v
whole_lt (inf s) m e q v = absurd v
whole_lt (fin true n d) m e q v = absurd (true≢false v.0)
whole_lt (fin false n d) m e q v =
    ap (λ (x : ℕ). ltb (x * down e) (m * up e * down d)) (sym (mul-one (n * up d)) ∙ v.1)
    ∙ ap (λ (x : ℕ). ltb x (m * up e * down d)) (mul_right_comm q (down d) (down e))
    ∙ ltb_scale (q * down e) (m * up e) (down d) (down_pos d)

-- ---- above zero and below 2 ^ 52
pub record Below (y : Float) : Type 0 where
  pub asks : Cut y (to_unsigned 64 y)
  pub few : to_unsigned 64 y ≤ 2 ^ 52
  pub in_float_lem : T (in_float binary64 (pos (to_unsigned 64 y)))
  pub rest : lt (of_int binary64 (pos (to_unsigned 64 y))) y ≡ true → to_unsigned 64 y + 1 ≡ ceiling y
  pub none : lt (of_int binary64 (pos (to_unsigned 64 y))) y ≡ false → to_unsigned 64 y ≡ ceiling y

wide : (N D : ℕ) → N < 4503599627370496 * D → N < 18446744073709551616 * D
wide N D h = omega arith

le_of_lt_52 : (q : ℕ) → q < 4503599627370496 → q ≤ 4503599627370496
le_of_lt_52 q h = omega arith

below_at : (m : ℕ) (e : ℤ) (t : ℕ) → to_unsigned 64 (fin false m e) ≡ t → t ≡ m * up e / down e → t < 2 ^ 52
    → (lt (of_int binary64 (pos t)) (fin false m e) ≡ true → t + 1 ≡ ceiling (fin false m e)) × (lt (of_int binary64 (pos t)) (fin false m e) ≡ false → t ≡ ceiling (fin false m e))
unfolding ceiling
below_at m e t u q h =
    let test : lt (of_int binary64 (pos t)) (fin false m e) ≡ ltb (t * down e) (m * up e) =
    whole_lt (of_int binary64 (pos t)) m e t (of_nat_value t (le_trans (le_of_lt_52 t h) (lit≤ tt))) in (
      (λ (g : lt (of_int binary64 (pos t)) (fin false m e) ≡ true).
          uncapped ((m * up e + (down e - 1)) / down e) (t + 1) (above_cut (m * up e) (down e) t (down_pos e) (sym q) (ltb-true (t * down e) (m * up e) (sym test ∙ g))) (more t h)),
      (λ (g : lt (of_int binary64 (pos t)) (fin false m e) ≡ false).
          uncapped ((m * up e + (down e - 1)) / down e) t (at_cut (m * up e) (down e) t (down_pos e) (sym q) (ltb-false (t * down e) (m * up e) (sym test ∙ g))) (less t h)),
    )
  where
    more : (t : ℕ) → t < 4503599627370496 → t + 1 ≤ 4503599627370497
    more t h = omega arith

    less : (t : ℕ) → t < 4503599627370496 → t ≤ 4503599627370497
    less t h = omega arith

pub below : (y : Float) → lt plus_zero y ≡ true → lt y (fin false 1 (pos 52)) ≡ true → Below y
unfolding lt in_float
below nan g h = absurd (false≢true g)
below (inf false) g h = absurd (false≢true h)
below (inf true) g h = absurd (false≢true g)
below (fin true m e) g h = absurd (false≢true g)
below (fin false m e) g h =
    let y = fin false m e in
    let small : m * up e < 2 ^ 52 * down e = plain< (2 ^ 52) (m * up e) (down e) (ltb-true (m * up e * 1) (1 * 2 ^ 52 * down e) h) in
    let k = cut y false (m * up e) (down e) (down_pos e) (refl, refl) (inl refl) (wide (m * up e) (down e) small) in
    let t : to_unsigned 64 y < 2 ^ 52 = subst (λ (x : ℕ). x < 2 ^ 52) (sym k.2) ((div-lt_iff_lt-mul (down_pos e)).1 small) in
    let b = below_at m e (to_unsigned 64 y) refl k.2 t in
    record {
      asks = (k.0, k.1, refl);
      few = le_of_lt_52 (to_unsigned 64 y) t;
      in_float_lem = le→leb (to_unsigned 64 y) (2 ^ 53) (le_trans (le_of_lt_52 (to_unsigned 64 y) t) (lit≤ tt));
      rest = b.0;
      none = b.1;
    }

-- ---- from 2 ^ 52 on, and below 2 ^ 64: no fraction
pub far_asks : (y : Float) → lt plus_zero y ≡ true → lt y (fin false 1 (pos 64)) ≡ true → Cut y (to_unsigned 64 y)
unfolding lt
far_asks nan g h = absurd (false≢true g)
far_asks (inf false) g h = absurd (false≢true h)
far_asks (inf true) g h = absurd (false≢true g)
far_asks (fin true m e) g h = absurd (false≢true g)
far_asks (fin false m e) g h =
    let k = cut (fin false m e) false (m * up e) (down e) (down_pos e) (refl, refl) (inl refl)
    (plain< (2 ^ 64) (m * up e) (down e) (ltb-true (m * up e * 1) (1 * 2 ^ 64 * down e) h)) in
    (k.0, k.1, refl)

pub far : (y : Float) → T (fits binary64 y) → lt plus_zero y ≡ true → lt y (fin false 1 (pos 52)) ≡ false → to_unsigned 64 y ≡ ceiling y
unfolding lt to_unsigned ceiling
far nan p g h = absurd (false≢true g)
far (inf s) p g h = refl
far (fin true m e) p g h = refl
far (fin false m (pos k)) p g h = sym (ap (λ (x : ℕ). min (x / 1) (2 ^ 64 - 1)) (add-zero (m * 2 ^ k)))
far (fin false m (negsuc k)) p g h =
    absurd (cut_off m k (held binary64 false m (negsuc k) p).digits
    (plain≤ (2 ^ 52) (m * 1) (2 ^ suc k) (ltb-false (m * 1 * 1) (1 * 2 ^ 52 * 2 ^ suc k) h)))

-- ---- from 2 ^ 64 on
capped : (N D q : ℕ) → 0 < D → 18446744073709551616 * D ≤ N → (N + (D - 1)) / D ≡ q → 18446744073709551615 ≡ min q 18446744073709551615
capped N D q p h e = top q (le_trans ((le-div_iff_mul-le p).1 bound) (le_of_eq e))
  where
    bound : 18446744073709551616 * D ≤ N + (D - 1)
    bound = omega arith

    top : (q : ℕ) → 18446744073709551616 ≤ q → 18446744073709551615 ≡ min q 18446744073709551615
    top q h = omega arith

pub past : (y : Float) → lt plus_zero y ≡ true → lt y (fin false 1 (pos 64)) ≡ false → 2 ^ 64 - 1 ≡ ceiling y
unfolding lt ceiling
past nan g h = absurd (false≢true g)
past (inf false) g h = refl
past (inf true) g h = absurd (false≢true g)
past (fin true m e) g h = absurd (false≢true g)
past (fin false m e) g h =
    capped (m * up e) (down e) ((m * up e + (down e - 1)) / down e) (down_pos e)
    (plain≤ (2 ^ 64) (m * up e) (down e) (ltb-false (m * up e * 1) (1 * 2 ^ 64 * down e) h)) refl

-- ---- not above zero
empty : (N D : ℕ) → 0 < D → N * 1 ≤ 0 * 1 * D → 0 ≡ min ((N + (D - 1)) / D) 18446744073709551615
empty N D p h = nothing ((N + (D - 1)) / D) ((div-lt_iff_lt-mul {k = D} {x = N + (D - 1)} {y = 1} p).1 bound)
  where
    bound : N + (D - 1) < 1 * D
    bound = omega arith

    nothing : (q : ℕ) → q < 1 → 0 ≡ min q 18446744073709551615
    nothing q h = omega arith

pub not_above : (y : Float) → lt plus_zero y ≡ false → 0 ≡ ceiling y
unfolding lt ceiling
not_above nan g = refl
not_above (inf false) g = absurd (true≢false g)
not_above (inf true) g = refl
not_above (fin true m e) g = refl
not_above (fin false m e) g = empty (m * up e) (down e) (down_pos e) (ltb-false (0 * 1 * down e) (m * up e * 1) g)
