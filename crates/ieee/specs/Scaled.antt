-- What `fits` says of a value, and that a value that fits, times a power of two, is rounded to itself where it does not overflow. Assumes nothing.
use Rattle.std.specs.Prelude.{◌≡◌, ℕ, zero, suc, ◌+◌, ◌-◌, ◌*◌, ◌%◌, ◌^◌, ◌<◌, ◌≤◌, Bool, true, false, cond, ◌&&◌, T, ltb, ℤ, pos, negsuc, nat_eq, nat_le, nat_lt}
use Rattle.std.specs.Prelude.{refl, Float}
use Rattle.std.proofs.Common.{sym, ap, ◌∙◌, subst, le_trans, le_of_eq, lt_of_not-le, not-le_of_lt, le_of_suc-le-suc, mul-one, one-mul, zero-mul, mul_comm, mul_assoc, mul_left_comm, mul_right_comm, mul-pos, le-mul_of_pos_right, mul-lt-mul_of_pos_right, lt_of_mul-lt-mul_right, arith, leb→le, ltb→lt, eqb→eq, pow-add, pow_pos}
use Rattle.std.proofs.Math.Pow.{pow-lt}
use Rattle.std.specs.Float.{nan, inf, fin, Format}
use Rattle.std.specs.Float.Ieee.{prec, emax, low, up, down, odd, units, round, add, sum, le, fits}
use Rattle.std.specs.Float.Ieee.Digits.{back}
use Rattle.std.specs.Float.Ieee.Fits.{up_pos, down_pos, and_l, and_r, round_is}
use Rattle.std.specs.Float.Ieee.Exact.{HasValue, round_exact}
use Rattle.std.specs.Float.Ieee.Order.{kept, drop}
use Rattle.std.specs.Float.Ieee.Scale.{round_same, finite}

-- ---- what `fits` says of m and e
pub record Held (f : Format) (m : ℕ) (e : ℤ) : Type 0 where
  pub digits : m < 2 ^ prec f
  pub lowest : down e ≤ 2 ^ low f
  pub highest : m * up e < 2 ^ suc (emax f) * down e

pub held : (f : Format) (s : Bool) (m : ℕ) (e : ℤ) → T (fits f (fin s m e)) → Held f m e
unfolding fits
held f s zero e t =
    let one : up e * down e ≡ 1 = eqb→eq (up e * down e) 1 t in
    let d : down e ≤ 1 = le_trans (le-mul_of_pos_right (down e) (up_pos e)) (le_of_eq (mul_comm (down e) (up e) ∙ one)) in
    record {
      digits = pow_pos (prec f);
      lowest = le_trans d (pow_pos (low f));
      highest = subst (λ (x : ℕ). x < 2 ^ suc (emax f) * down e) (sym (zero-mul (up e))) (mul-pos (pow_pos (suc (emax f))) (down_pos e));
    }
held f s (suc m) e t =
    let p = nat_eq (suc m % 2) 1 in
    let q = ltb (suc m) (2 ^ prec f) in
    let r = nat_le (down e) (2 ^ low f) in
    let u = ltb (suc m * up e) (2 ^ suc (emax f) * down e) in
    record {
      digits = ltb→lt (suc m) (2 ^ prec f) (and_r p q (and_l (p && q) r (and_l (p && q && r) u t)));
      lowest = leb→le (down e) (2 ^ low f) (and_r (p && q) r (and_l (p && q && r) u t));
      highest = ltb→lt (suc m * up e) (2 ^ suc (emax f) * down e) (and_r (p && q && r) u t);
    }

pub odd_digits : (f : Format) (s : Bool) (m : ℕ) (e : ℤ) → T (fits f (fin s (suc m) e)) → suc m % 2 ≡ 1
unfolding fits
odd_digits f s m e t =
    let p = nat_eq (suc m % 2) 1 in
    let q = ltb (suc m) (2 ^ prec f) in
    let r = nat_le (down e) (2 ^ low f) in
    let u = ltb (suc m * up e) (2 ^ suc (emax f) * down e) in
    eqb→eq (suc m % 2) 1 (and_l p q (and_l (p && q) r (and_l (p && q && r) u t)))

-- ---- 2 ^ e in units of the format's smallest value is a power of two
pow_le : (i j : ℕ) → 2 ^ i ≤ 2 ^ j → i ≤ j
pow_le i j h = le_of_suc-le-suc (lt_of_not-le (λ (g : suc j ≤ i). not-le_of_lt (pow-lt g) h))

pub step : (f : Format) (e : ℤ) → down e ≤ 2 ^ low f → (j : ℕ) × (up e * 2 ^ low f ≡ 2 ^ j * down e)
step f (pos k) h = (k + low f, sym (pow-add 2 k (low f)) ∙ sym (mul-one (2 ^ (k + low f))))
step f (negsuc k) h = (
  low f - suc k,
  one-mul (2 ^ low f) ∙ ap (λ (x : ℕ). 2 ^ x) (sym (back (low f) (suc k) (pow_le (suc k) (low f) h))) ∙ pow-add 2 (low f - suc k) (suc k),
)

in_units : (M U t l j d m : ℕ) → M ≡ m * U → U * l ≡ j * d → M * t * l ≡ m * (j * t) * d
in_units M U t l j d m p h =
    ap (λ (x : ℕ). x * t * l) p
    ∙ mul_right_comm (m * U) t l
    ∙ ap (λ (x : ℕ). x * t) (mul_assoc m U l ∙ ap (λ (x : ℕ). m * x) h)
    ∙ simp (mul_assoc, mul_comm, mul_left_comm)

-- ---- a value times 2 ^ t, where it does not overflow, is exact
pub scaled : (f : Format) (s : Bool) (m : ℕ) (e : ℤ) (t : ℕ) → T (fits f (fin s m e)) → m * up e * 2 ^ t < 2 ^ suc (emax f) * down e
    → HasValue (round f s (m * up e * 2 ^ t) (down e)) s (m * up e * 2 ^ t) (down e)
scaled f s m e t p h =
    let k = held f s m e p in
    let j = step f e k.lowest in
    let is : m * up e * 2 ^ t * 2 ^ low f ≡ m * 2 ^ (j.0 + t) * down e =
    in_units (m * up e) (up e) (2 ^ t) (2 ^ low f) (2 ^ j.0) (down e) m refl j.1 ∙ ap (λ (x : ℕ). m * x * down e) (sym (pow-add 2 j.0 t)) in
    let bound : 2 ^ suc (emax f) * down e * 2 ^ low f ≡ 2 ^ (low f + suc (emax f)) * down e =
    mul_right_comm (2 ^ suc (emax f)) (down e) (2 ^ low f)
    ∙ ap (λ (x : ℕ). x * down e) (mul_comm (2 ^ suc (emax f)) (2 ^ low f) ∙ sym (pow-add 2 (low f) (suc (emax f)))) in
    let fine : m * 2 ^ (j.0 + t) * down e < 2 ^ (low f + suc (emax f)) * down e =
    subst (λ (x : ℕ). x < 2 ^ (low f + suc (emax f)) * down e) is
    (subst (λ (x : ℕ). m * up e * 2 ^ t * 2 ^ low f < x) bound (mul-lt-mul_of_pos_right h (pow_pos (low f)))) in
    round_exact f s (m * up e * 2 ^ t) (down e) m (j.0 + t) (down_pos e) k.digits (lt_of_mul-lt-mul_right (down e) fine) is

pub itself : (f : Format) (s : Bool) (m : ℕ) (e : ℤ) → T (fits f (fin s m e)) → HasValue (round f s (m * up e) (down e)) s (m * up e) (down e)
itself f s m e p =
    subst (λ (x : ℕ). HasValue (round f s x (down e)) s x (down e)) (mul-one (m * up e))
    (scaled f s m e 0 p (subst (λ (x : ℕ). x < 2 ^ suc (emax f) * down e) (sym (mul-one (m * up e))) (held f s m e p).highest))

-- ---- x + x is exact
twice : (a d : ℕ) → (a * d + a * d) * d ≡ a * 2 * (d * d)
twice a d = ap (λ (x : ℕ). x * d) (dbl (a * d)) ∙ simp (mul_assoc, mul_comm, mul_left_comm)
  where
    dbl : (x : ℕ) → x + x ≡ x * 2
    dbl x = omega arith

both : (f : Format) (s : Bool) (a d : ℕ) → 0 < d → round f s (a * d + a * d) (d * d) ≡ round f s (a * 2) d
both f s a d p = round_same f s (a * d + a * d) (d * d) (a * 2) d (mul-pos p p) p (twice a d)

pub doubled : (f : Format) (s : Bool) (m : ℕ) (e : ℤ) → T (fits f (fin s m e)) → m * up e * 2 < 2 ^ suc (emax f) * down e
    → HasValue (add f (fin s m e) (fin s m e)) s (m * up e * 2) (down e)
unfolding add sum
doubled f true m e p h = subst (λ (x : Float). HasValue x true (m * up e * 2) (down e)) (sym (both f true (m * up e) (down e) (down_pos e)))
    (scaled f true m e 1 p h)
doubled f false m e p h = subst (λ (x : Float). HasValue x false (m * up e * 2) (down e)) (sym (both f false (m * up e) (down e) (down_pos e)))
    (scaled f false m e 1 p h)

-- ---- finite results of `round`
pub value_finite : (x : Float) (s : Bool) (a c : ℕ) → HasValue x s a c → T (finite x)
value_finite nan s a c h = h
value_finite (inf t) s a c h = h
value_finite (fin t m e) s a c h = tt

odd_finite : (d : ℕ) (s : Bool) (q k l : ℕ) → T (finite (odd d s q k l))
unfolding odd
odd_finite d s zero k l = tt
odd_finite d s (suc q) k l = tt

small : (f : Format) (q k : ℕ) (b : Bool) (y : Float) → T (finite y) → T (le (cond b (odd (suc (prec f)) false q k (low f)) (inf false)) y) → T b
unfolding le
small f q k true y t h = tt
small f q k false nan t h = t
small f q k false (inf u) t h = absurd t
small f q k false (fin u n d) t h = h

fine : (f : Format) (s : Bool) (q k : ℕ) (b : Bool) → T b → T (finite (cond b (odd (suc (prec f)) s q k (low f)) (inf s)))
fine f s q k true t = odd_finite (suc (prec f)) s q k (low f)
fine f s q k false t = absurd t

-- a fraction that rounds to no more than a finite value rounds to a finite value, with either sign
pub round_finite : (f : Format) (s : Bool) (a c : ℕ) (y : Float) → T (finite y) → T (le (round f false a c) y) → T (finite (round f s a c))
unfolding units
round_finite f s a c y t h =
    let q = kept (prec f) (a * 2 ^ low f) c in
    let k = drop (prec f) (a * 2 ^ low f) c in
    let o = 2 ^ (low f + suc (emax f)) in
    subst (λ (z : Float). T (finite z)) (sym (round_is f s a c))
    (fine f s q k (nat_lt (q * 2 ^ k) o) (small f q k (nat_lt (q * 2 ^ k) o) y t (subst (λ (z : Float). T (le z y)) (round_is f false a c) h)))
