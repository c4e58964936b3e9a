-- `sqrt` is IEEE 754's squareRoot: for every value that the format holds, what it gives is correctly rounded. Assumes nothing.
use mathlib.Core.Path.{◌≡◌, refl, subst}
use mathlib.Core.Bool.{Bool, true, false}
use Prim.Native.Nat.{ℕ, zero, suc, ◌+◌, ◌*◌, ◌^◌, ◌<◌}
use native.Mathlib.Nat.{mul-pos, le_antisymm, le_of_suc-le-suc, lt_of_not-le}
use native.Mathlib.Omega.{arith}
use lib.IntN.{ℤ}
use lib.Dec.{T, eqb, ltb→lt, eqb→eq}
use lib.Ieee.{Float, nan, inf, fin, Format, low, up, down, fits, lt, eq, below, level}
use lib.Ieee.Exact.{HasValue}
use lib.Ieee.Fits.{down_pos, up_pos, and_l, and_i, eq→eqb}
use Rattle.root.specs.Sqrt.{sqrt}
use Rattle.root.specs.Rounded.{size_of, Below, square_of_mean, not_below_zero, Nearest, CorrectlyRounded}
use Rattle.root.proofs.Nearest.{sqrt_finite, sqrt_nearest}

-- ---- comparisons with zero

size_pos : (m : ℕ) (e : ℤ) → 0 < suc m * up e
size_pos m e = mul-pos (omega arith) (up_pos e)

zero_not_below : (s : Bool) (e : ℤ) → T (below s (0 * up e * 1) false (0 * 1 * down e)) → ⊥
zero_not_below true e h = let k : 0 < 0 * up e * 1 + 0 * 1 * down e = ltb→lt 0 (0 * up e * 1 + 0 * 1 * down e) h in omega arith
zero_not_below false e h = let k : 0 * up e * 1 < 0 * 1 * down e = ltb→lt (0 * up e * 1) (0 * 1 * down e) h in omega arith

zero_not_above : (s : Bool) (e : ℤ) → T (below false (0 * 1 * down e) s (0 * up e * 1)) → ⊥
zero_not_above true e h = h
zero_not_above false e h = let k : 0 * 1 * down e < 0 * up e * 1 = ltb→lt (0 * 1 * down e) (0 * up e * 1) h in omega arith

not_zero : (s : Bool) (m : ℕ) (e : ℤ) → T (level s (suc m * up e * 1) false (0 * 1 * down e)) → ⊥
not_zero s m e h =
    let k : suc m * up e * 1 ≡ 0 * 1 * down e = eqb→eq (suc m * up e * 1) (0 * 1 * down e) (and_l (eqb (suc m * up e * 1) (0 * 1 * down e)) _ h) in
    omega (arith, size_pos m e)

not_negative : (m : ℕ) (e : ℤ) → T (below false (suc m * up e * 1) false (0 * 1 * down e)) → ⊥
not_negative m e h = let k : suc m * up e * 1 < 0 * 1 * down e = ltb→lt (suc m * up e * 1) (0 * 1 * down e) h in omega arith

-- ---- the theorem

-- a value that is not below zero has the size that its significand and exponent say
has_size : (y : Float) → T (not_below_zero y) → HasValue y false (size_of y).num (size_of y).den × (0 < (size_of y).den)
has_size nan h = absurd h
has_size (inf s) h = absurd h
has_size (fin true m e) h = absurd h
has_size (fin false m e) h = ((refl, refl), down_pos e)

not_below : (r : Float) (c d : ℕ) → HasValue r false c d → T (not_below_zero r)
not_below nan c d v = v
not_below (inf s) c d v = v
not_below (fin true m e) c d v = subst T v.0 tt
not_below (fin false m e) c d v = tt

module _ (f : Format) (x : Float) (h : T (fits f x)) (x-plus : T (not_below_zero x)) (x_pos : 0 < (size_of x).num) where
  r_plus : T (not_below_zero (sqrt f x))
  r_plus =
      let q = (sqrt_finite f x (size_of x).num (size_of x).den h (has_size x x-plus).0 x_pos).1 in
      not_below (sqrt f x) q.0 (2 ^ low f) q.1

  nearer : (y : Float) → T (fits f y) → T (not_below_zero y)
      → (Below (size_of (sqrt f x)) (size_of y) → Below (size_of x) (square_of_mean (size_of (sqrt f x)) (size_of y)))
      × (Below (size_of y) (size_of (sqrt f x)) → Below (square_of_mean (size_of (sqrt f x)) (size_of y)) (size_of x))
  nearer y k y-plus =
      sqrt_nearest f x y (size_of x).num (size_of x).den (size_of (sqrt f x)).num (size_of (sqrt f x)).den (size_of y).num (size_of y).den
      x_pos (has_size x x-plus).1 (has_size (sqrt f x) r_plus).1 (has_size y y-plus).1
      h (has_size x x-plus).0 (has_size (sqrt f x) r_plus).0 k (has_size y y-plus).0

  pub nearest_root : Nearest f x (sqrt f x)
  nearest_root = record {
    held = (sqrt_finite f x (size_of x).num (size_of x).den h (has_size x x-plus).0 x_pos).0;
    finite_not_below_zero = r_plus;
    than_above = λ y k z. (nearer y k z).0;
    than_below = λ y k z. (nearer y k z).1;
  }

-- the same of a value above zero that is given as a fraction
pub nearest_value : (f : Format) (x : Float) (a b : ℕ) → T (fits f x) → HasValue x false a b → 0 < a → Nearest f x (sqrt f x)
nearest_value f nan a b h v p = absurd v
nearest_value f (inf s) a b h v p = absurd v
nearest_value f (fin true m e) a b h v p = absurd (subst T v.0 tt)
nearest_value f (fin false zero e) a b h v p = absurd (none (down e) (down_pos e) v.1)
  where
    none : (d : ℕ) → 0 < d → 0 * up e * b ≡ a * d → ⊥
    none d q i = omega (arith, mul-pos p q)
nearest_value f (fin false (suc m) e) a b h v p = nearest_root f (fin false (suc m) e) h tt (size_pos m e)

-- The definition gives IEEE 754's root, for every value of the format.
pub sqrt_rounded : (f : Format) (x : Float) → T (fits f x) → CorrectlyRounded f x (sqrt f x)
unfolding sqrt lt eq
sqrt_rounded f nan h = record { zero = λ z. absurd z; not_a_number = λ e. refl; infinite = λ e. e; negative = λ z. absurd z; positive = λ y z. absurd y }
sqrt_rounded f (inf true) h = record { zero = λ z. absurd z; not_a_number = λ e. refl; infinite = λ e. cc; negative = λ z. refl; positive = λ y z. absurd y }
sqrt_rounded f (inf false) h = record { zero = λ z. absurd z; not_a_number = λ e. e; infinite = λ e. refl; negative = λ z. absurd z; positive = λ y z. absurd z }
sqrt_rounded f (fin s zero e) h = record {
  zero = λ z. refl;
  not_a_number = λ q. q;
  infinite = λ q. q;
  negative = λ z. absurd (zero_not_below s e z);
  positive = λ y z. absurd (zero_not_above s e y);
}
sqrt_rounded f (fin true (suc m) e) h = record {
  zero = λ z. absurd (not_zero true m e z);
  not_a_number = λ q. refl;
  infinite = λ q. cc;
  negative = λ z. refl;
  positive = λ y z. absurd y;
}
sqrt_rounded f (fin false (suc m) e) h = record {
  zero = λ z. absurd (not_zero false m e z);
  not_a_number = λ q. cc;
  infinite = λ q. cc;
  negative = λ z. absurd (not_negative m e z);
  positive = λ y z. nearest_root f (fin false (suc m) e) h tt (size_pos m e);
}

-- ---- and no other number is the root

clash : (a b c d g h : ℕ) → a * (2 * (d * h) * (2 * (d * h))) < (c * h + g * d) * (c * h + g * d) * b → (g * d + c * h) * (g * d + c * h) * b < a * (2 * (h * d) * (2 * (h * d))) → ⊥
clash a b c d g h k l = omega arith

module _ (f : Format) (x r s : Float) (n : Nearest f x r) (m : Nearest f x s) where
  not_above : Below (size_of r) (size_of s) → ⊥
  not_above k =
      clash (size_of x).num (size_of x).den (size_of r).num (size_of r).den (size_of s).num (size_of s).den
      (n.than_above s m.held m.finite_not_below_zero k) (m.than_below r n.held n.finite_not_below_zero k)

same_number : (r s : Float) → T (not_below_zero r) → T (not_below_zero s) → (Below (size_of r) (size_of s) → ⊥) → (Below (size_of s) (size_of r) → ⊥) → T (eq r s)
unfolding eq
same_number nan s h k a b = absurd h
same_number (inf t) s h k a b = absurd h
same_number (fin true m e) s h k a b = absurd h
same_number (fin false m e) nan h k a b = absurd k
same_number (fin false m e) (inf t) h k a b = absurd k
same_number (fin false m e) (fin true n d) h k a b = absurd k
same_number (fin false m e) (fin false n d) h k a b = and_i (eqb p q) true (eq→eqb (le_antisymm (le_of_suc-le-suc (lt_of_not-le b)) (le_of_suc-le-suc (lt_of_not-le a)))) tt
  where
    p : ℕ
    p = m * up e * down d

    q : ℕ
    q = n * up d * down e

-- Two numbers that are both nearest are equal.
pub nearest_unique : (f : Format) (x r s : Float) → Nearest f x r → Nearest f x s → T (eq r s)
nearest_unique f x r s n m = same_number r s n.finite_not_below_zero m.finite_not_below_zero (not_above f x r s n m) (not_above f x s r m n)
