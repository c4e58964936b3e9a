-- The left end of a subdivided interval is its low bound, and a sphere's pole is on its axis: each but for a zero's sign. Assumes nothing.
use Rattle.std.specs.Prelude.{◌≡◌, ℕ, zero, suc, ◌*◌, ◌^◌, ◌<◌, ◌≤◌, Bool, true, false, not, T, pos}
use Rattle.std.proofs.Common.{sym, ap, ◌∙◌, subst, le_trans, zero-mul, mul-pos, lt_irrefl, le→leb, lit≤}
use Rattle.std.specs.Prelude.{Float}
use Rattle.std.specs.Float.{nan, inf, fin, Format, binary64}
use Rattle.std.specs.Float.Ieee.{up, add, sub, mul, div, of_int, in_float, fits}
use Rattle.std.specs.Float.Ieee.Fits.{down_pos}
use Rattle.std.specs.Float.Ieee.Exact.{HasValue}
use Rattle.std.specs.Float.Ieee.Back.{round_whole}
use Rattle.std.specs.Float.Ieee.Scale.{finite}
use Rattle.ieee.specs.Scaled.{value_finite}
use Rattle.ieee.specs.Finite.{finite_add_r, finite_mul_l, finite_div_l}
use Rattle.ieee.specs.Same.{is_zero, Same, plus_zero, mul_zero_l, mul_zero_r, div_zero_l, add_zero_same, round_zero}

-- ---- a whole number as a float
value_not_zero : (x : Float) (s : Bool) (a c : ℕ) → 0 < a → HasValue x s a c → T (not (is_zero x))
value_not_zero nan s a c p h = tt
value_not_zero (inf t) s a c p h = tt
value_not_zero (fin t zero e) s a c p h =
    absurd (lt_irrefl 0 (subst (λ (x : ℕ). 0 < x) (sym h.1 ∙ ap (λ (x : ℕ). x * c) (zero-mul (up e)) ∙ zero-mul c) (mul-pos p (down_pos e))))
value_not_zero (fin t (suc m) e) s a c p h = tt

pub of_nat_value : (n : ℕ) → n ≤ 2 ^ 53 → HasValue (of_int binary64 (pos n)) false n 1
unfolding of_int
of_nat_value n h = round_whole binary64 false n h

pub of_nat_finite : (n : ℕ) → n ≤ 2 ^ 53 → T (finite (of_int binary64 (pos n)))
of_nat_finite n h = value_finite (of_int binary64 (pos n)) false n 1 (of_nat_value n h)

pub of_nat_not_zero : (n : ℕ) → 1 ≤ n → n ≤ 2 ^ 53 → T (not (is_zero (of_int binary64 (pos n))))
of_nat_not_zero n p h = value_not_zero (of_int binary64 (pos n)) false n 1 p (of_nat_value n h)

pub of_nat_zero : of_int binary64 (pos 0) ≡ plus_zero
unfolding of_int
of_nat_zero = round_zero binary64 false 1

-- ---- lo + (hi - lo) * 0 / n
abbrev pub left_end : Float → Float → ℕ → Float
left_end lo hi n = add binary64 lo (div binary64 (mul binary64 (sub binary64 hi lo) plus_zero) (of_int binary64 (pos n)))

pub left_end_lem : (lo hi : Float) (n : ℕ) → T (fits binary64 lo) → T (finite (sub binary64 hi lo)) → 1 ≤ n → n ≤ 1024 → Same (left_end lo hi n) lo
left_end_lem lo hi n p t a b =
    let w = sub binary64 hi lo in
    let c = of_int binary64 (pos n) in
    let b' : n ≤ 2 ^ 53 = le_trans b (lit≤ tt) in
    let z : T (is_zero (mul binary64 w plus_zero)) = mul_zero_r binary64 w plus_zero t tt in
    add_zero_same binary64 lo (div binary64 (mul binary64 w plus_zero) c) p
    (div_zero_l binary64 (mul binary64 w plus_zero) c z (of_nat_finite n b') (of_nat_not_zero n a b'))

-- for any n: where hi - lo is not finite, the end is not
pub left_end_not_finite : (lo hi : Float) (n : ℕ) → T (not (finite (sub binary64 hi lo))) → T (not (finite (left_end lo hi n)))
left_end_not_finite lo hi n h =
    let w = sub binary64 hi lo in
    let m = mul binary64 w plus_zero in
    let q = div binary64 m (of_int binary64 (pos n)) in
    flip (finite (add binary64 lo q)) (finite w)
    (λ t. finite_mul_l binary64 w plus_zero (finite_div_l binary64 m (of_int binary64 (pos n)) (finite_add_r binary64 lo q t))) h
  where
    flip : (a b : Bool) → (T a → T b) → T (not b) → T (not a)
    flip true true f k = k
    flip true false f k = f tt
    flip false b f k = tt

-- ---- a sphere's pole: cx + (0.0 * cp) * r
pub pole : (f : Format) (cx cp r : Float) → T (fits f cx) → T (finite cp) → T (finite r) → Same (add f cx (mul f (mul f plus_zero cp) r)) cx
pole f cx cp r p t u = add_zero_same f cx (mul f (mul f plus_zero cp) r) p (mul_zero_l f (mul f plus_zero cp) r (mul_zero_l f plus_zero cp tt t) u)

-- the same with the index as the program has it, i = 0 cast to a float: point i of n
abbrev pub point : Float → Float → ℕ → ℕ → Float
point lo hi n i = add binary64 lo (div binary64 (mul binary64 (sub binary64 hi lo) (of_int binary64 (pos i))) (of_int binary64 (pos n)))

pub first_point : (lo hi : Float) (n : ℕ) → T (fits binary64 lo) → T (finite (sub binary64 hi lo)) → 1 ≤ n → n ≤ 1024 → Same (point lo hi n 0) lo
first_point lo hi n p t a b = rw of_nat_zero (left_end_lem lo hi n p t a b)

pub first_point_not_finite : (lo hi : Float) (n : ℕ) → T (not (finite (sub binary64 hi lo))) → T (not (finite (point lo hi n 0)))
first_point_not_finite lo hi n h = rw of_nat_zero (left_end_not_finite lo hi n h)

-- what the cast of such a number asks
pub of_nat_in : (n : ℕ) → n ≤ 1024 → T (in_float binary64 (pos n))
unfolding in_float
of_nat_in n h = le→leb n (2 ^ 53) (le_trans h (lit≤ tt))
