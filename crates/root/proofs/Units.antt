-- The values that a format holds, in units of the format's smallest. Assumes nothing.
use mathlib.Core.Path.{◌≡◌, sym, ap, ◌∙◌, subst}
use mathlib.Core.Bool.{Bool, true, false, cond}
use Prim.Native.Nat.{ℕ, suc, ◌+◌, ◌*◌, ◌^◌, ◌≤◌, ◌<◌}
use native.Mathlib.Nat.{le_of_eq, lt_of_lt_of_le, lt_of_le_of_lt, mul-lt-mul_of_pos_right, mul_assoc, mul_right_comm, mul-pos, eq_of_mul-eq-mul_right}
use native.Mathlib.Nat.{lt_of_mul-lt-mul_right, lt-suc_self}
use lib.Dec.{T, ltb, lt→ltb}
use lib.Pow.{pow_pos, pow-lt, pow-add}
use lib.Ieee.{Float, nan, inf, fin, Format, prec, emax, low, up, down, odd, units, fits}
use lib.Ieee.Exact.{HasValue}
use lib.Ieee.Fits.{down_pos, odd-fits}
use native.Mathlib.Omega.{arith}
use Rattle.ieee.specs.Scaled.{held, step}
use Rattle.ieee.specs.Unique.{fin_unique}

-- two fractions of one size
pub same_value : (x : Float) (s : Bool) (a b c d : ℕ) → HasValue x s a b → HasValue x s c d → a * d ≡ c * b
same_value nan s a b c d v u = absurd v
same_value (inf t) s a b c d v u = absurd v
same_value (fin t m e) s a b c d v u =
    eq_of_mul-eq-mul_right (down e) (down_pos e) (a * d) (c * b)
    (mul_right_comm a d (down e) ∙ ap (λ (x : ℕ). x * d) (sym v.1) ∙ mul_right_comm (m * up e) b d ∙ ap (λ (x : ℕ). x * b) u.1 ∙ mul_right_comm c (down e) b)

-- a value that is held, not below zero, is m * 2 ^ j units
pub record InUnits (f : Format) (x : Float) : Type 0 where
  pub m : ℕ
  pub j : ℕ
  pub is : HasValue x false (m * 2 ^ j) (2 ^ low f)
  pub small : m < 2 ^ prec f
  pub under : m * 2 ^ j < 2 ^ (suc (emax f) + low f)

pub in_units : (f : Format) (x : Float) (a b : ℕ) → T (fits f x) → HasValue x false a b → InUnits f x
in_units f nan a b h v = absurd v
in_units f (inf t) a b h v = absurd v
in_units f (fin t m e) a b h v =
    let k = held f t m e h in
    let p = step f e k.lowest in
    let is : m * up e * 2 ^ low f ≡ m * 2 ^ p.0 * down e = mul_assoc m (up e) (2 ^ low f) ∙ ap (λ (x : ℕ). m * x) p.1 ∙ sym (mul_assoc m (2 ^ p.0) (down e)) in
    record { m = m; j = p.0; is = (v.0, is); small = k.digits; under = bound p.0 is k.highest }
  where
    bound : (j : ℕ) → m * up e * 2 ^ low f ≡ m * 2 ^ j * down e → m * up e < 2 ^ suc (emax f) * down e → m * 2 ^ j < 2 ^ (suc (emax f) + low f)
    bound j q g =
        lt_of_mul-lt-mul_right (down e)
        (lt_of_le_of_lt (le_of_eq (sym q))
        (lt_of_lt_of_le (mul-lt-mul_of_pos_right g (pow_pos (low f)))
        (le_of_eq (mul_right_comm (2 ^ suc (emax f)) (down e) (2 ^ low f) ∙ ap (λ (x : ℕ). x * down e) (sym (pow-add 2 (suc (emax f)) (low f)))))))

-- q * 2 ^ k units, with q of the format's number of digits, are held
pub units_fits : (f : Format) (q k : ℕ) → q ≤ 2 ^ prec f → q * 2 ^ k < 2 ^ (low f + suc (emax f)) → T (fits f (units f false q k))
unfolding units
units_fits f q k h g = go (ltb (q * 2 ^ k) (2 ^ (low f + suc (emax f)))) (lt→ltb (q * 2 ^ k) (2 ^ (low f + suc (emax f))) g)
  where
    go : (b : Bool) → T b → T (fits f (cond b (odd (suc (prec f)) false q k (low f)) (inf false)))
    go true t = odd-fits f (suc (prec f)) false q k (lt_of_le_of_lt h (pow-lt (lt-suc_self (prec f)))) h g
    go false t = absurd t

-- two values of one size
pub same_float : (f : Format) (x y : Float) (a b c d : ℕ) → T (fits f x) → T (fits f y) → HasValue x false a b → HasValue y false c d → 0 < b → 0 < d → a * d ≡ c * b
    → x ≡ y
same_float f nan y a b c d p q v u B D e = absurd v
same_float f (inf s) y a b c d p q v u B D e = absurd v
same_float f (fin s m i) nan a b c d p q v u B D e = absurd u
same_float f (fin s m i) (inf t) a b c d p q v u B D e = absurd u
same_float f (fin s m i) (fin t n j) a b c d p q v u B D e =
    ap (λ (z : Bool). fin z m i) v.0
    ∙ fin_unique f false m i n j (subst (λ (z : Bool). T (fits f (fin z m i))) v.0 p) (subst (λ (z : Bool). T (fits f (fin z n j))) u.0 q)
    (cross (m * up i) (down i) (n * up j) (down j) a b c d B D v.1 u.1 e)
    ∙ ap (λ (z : Bool). fin z n j) (sym u.0)
  where
    cross : (M I N J a b c d : ℕ) → 0 < b → 0 < d → M * b ≡ a * I → N * d ≡ c * J → a * d ≡ c * b → M * J ≡ N * I
    cross M I N J a b c d B D h k e =
        eq_of_mul-eq-mul_right (b * d) (mul-pos B D) (M * J) (N * I)
        (omega (arith, ap (λ (z : ℕ). z * (J * d)) h, ap (λ (z : ℕ). z * (I * b)) k, ap (λ (z : ℕ). z * (I * J)) e))
