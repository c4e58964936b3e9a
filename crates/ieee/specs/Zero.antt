-- A zero as an operand: `Same` as an equation of what `canon` makes, `round` of 0, sums and products commute, and no operation sees which zero it is given, but
-- for the sign of a zero result.
-- Assumes nothing.
use Rattle.std.specs.Prelude.{◌≡◌, ℕ, zero, suc, ◌+◌, ◌-◌, ◌*◌, ◌/◌, ◌%◌, ◌^◌, ◌<◌, ◌≤◌, Bool, true, false, cond, not, ◌&&◌, T, ◌⊎◌, ℤ, pos, ◌==◌, nat_lt}
use Rattle.std.proofs.Math.Path.{refl}
use Rattle.std.proofs.Common.{sym, ap, ◌∙◌, subst, inl, inr, zero-add, add_comm, zero-mul, mul_comm, mul_assoc, mul-pos, arith, ltb→lt, nltb→le}
use Prim.Native.Nat.compare
use Prim.Native.Nat.{compare}
use Rattle.std.proofs.Math.Nat.{zero-div, zero-mod, sub-zero}
use Rattle.std.specs.Bool.{beq}
use Rattle.std.proofs.Math.Dec.{eqb-suc-zero}
use Rattle.std.specs.Prelude.{Float}
use Rattle.std.specs.Float.{nan, inf, fin, Format, binary32, binary64}
use Rattle.std.specs.Float.Ieee.{prec, low, up, down, unlike, nearest, units, round, size, sum, add, mul, div}
use Rattle.std.specs.Float.Ieee.Fits.{down_pos, core, round_is}
use Rattle.std.specs.Float.Ieee.Scale.{round_same}
use Rattle.ieee.specs.Number.{is_zero, Same, plus_zero, canon}

-- ---- `Same` as an equation
pub canon_zero : (x : Float) → T (is_zero x) → canon x ≡ plus_zero
canon_zero nan t = absurd t
canon_zero (inf s) t = absurd t
canon_zero (fin s zero e) t = refl
canon_zero (fin s (suc m) e) t = absurd t

pub same→canon : (x y : Float) → Same x y → canon x ≡ canon y
same→canon x y (inl p) = ap canon p
same→canon x y (inr z) = canon_zero x z.0 ∙ sym (canon_zero y z.1)

-- what `canon` leaves is no zero, or it is +0
canon_is : (x : Float) → (canon x ≡ x) ⊎ (T (is_zero x) × (canon x ≡ plus_zero))
canon_is nan = inl refl
canon_is (inf s) = inl refl
canon_is (fin s zero e) = inr (tt, refl)
canon_is (fin s (suc m) e) = inl refl

pub canon→same : (x y : Float) → canon x ≡ canon y → Same x y
canon→same x y p = go (canon_is x) (canon_is y)
  where
    go : (canon x ≡ x) ⊎ (T (is_zero x) × (canon x ≡ plus_zero)) → (canon y ≡ y) ⊎ (T (is_zero y) × (canon y ≡ plus_zero)) → Same x y
    go (inl a) (inl b) = inl (sym a ∙ p ∙ b)
    go (inl a) (inr b) = inr (subst (λ (z : Float). T (is_zero z)) (sym b.1 ∙ sym p ∙ a) tt, b.0)
    go (inr a) (inl b) = inr (a.0, subst (λ (z : Float). T (is_zero z)) (sym a.1 ∙ p ∙ b) tt)
    go (inr a) (inr b) = inr (a.0, b.0)

pub same_refl : (x : Float) → Same x x
same_refl x = inl refl

pub same_sym : (x y : Float) → Same x y → Same y x
same_sym x y (inl p) = inl (sym p)
same_sym x y (inr z) = inr (z.1, z.0)

pub same_trans : (x y z : Float) → Same x y → Same y z → Same x z
same_trans x y z p q = canon→same x z (same→canon x y p ∙ same→canon y z q)

pub canon_canon : (x : Float) → canon (canon x) ≡ canon x
canon_canon nan = refl
canon_canon (inf s) = refl
canon_canon (fin s zero e) = refl
canon_canon (fin s (suc m) e) = refl

-- ---- `round` of 0
zero_units : (f : Format) (s : Bool) (c : ℕ) → units f s (nearest 0 (compare 0 c)) 0 ≡ fin s 0 (pos 0)
unfolding units
zero_units binary32 s zero = refl
zero_units binary64 s zero = refl
zero_units binary32 s (suc c) = rw compare.zero-suc refl
zero_units binary64 s (suc c) = rw compare.zero-suc refl

zero_drop : (f : Format) → size 0 - prec f ≡ 0
unfolding size
zero_drop binary32 = refl
zero_drop binary64 = refl

pub round_zero : (f : Format) (s : Bool) (c : ℕ) → round f s 0 c ≡ fin s 0 (pos 0)
round_zero f s c =
    round_is f s 0 c
    ∙ ap (λ (n : ℕ). core f s n c (size (n / c) - prec f)) (zero-mul (2 ^ low f))
    ∙ ap (λ (k : ℕ). units f s (nearest (0 / (c * 2 ^ k)) (compare (0 % (c * 2 ^ k) * 2) (c * 2 ^ k))) k)
    (ap (λ (n : ℕ). size n - prec f) (zero-div c) ∙ zero_drop f)
    ∙ ap (λ (q : ℕ). units f s (nearest q (compare (0 % (c * 1) * 2) (c * 1))) 0) (zero-div (c * 1))
    ∙ ap (λ (q : ℕ). units f s (nearest 0 (compare (q * 2) (c * 1))) 0) (zero-mod (c * 1))
    ∙ zero_units f s (c * 1)

pub round_zero_at : (f : Format) (s : Bool) (a c : ℕ) → a ≡ 0 → round f s a c ≡ fin s 0 (pos 0)
round_zero_at f s a c h = ap (λ (x : ℕ). round f s x c) h ∙ round_zero f s c

-- ---- `+` and `*` commute, for all floats
pub beq_eq : (s t : Bool) → T (beq s t) → s ≡ t
beq_eq true true h = refl
beq_eq true false h = absurd h
beq_eq false true h = absurd h
beq_eq false false h = refl

pub beq_refl : (s : Bool) → T (beq s s)
beq_refl true = tt
beq_refl false = tt

beq_comm : (s t : Bool) → beq s t ≡ beq t s
beq_comm true true = refl
beq_comm true false = refl
beq_comm false true = refl
beq_comm false false = refl

-- unlike signs: the larger one's sign, and +0 where neither is larger
mixed : (f : Format) (a b c : ℕ)
    → cond (nat_lt a b) (round f false (b - a) c) (round f (nat_lt b a) (a - b) c) ≡ cond (nat_lt b a) (round f true (a - b) c) (round f false (b - a) c)
mixed f a b c = go (nat_lt a b) (nat_lt b a) (ltb→lt a b) (ltb→lt b a) (nltb→le a b) (nltb→le b a)
  where
    both : a < b → b < a → ⊥
    both h k = omega arith

    neither : b ≤ a → a ≤ b → a - b ≡ b - a
    neither h k = omega arith

    go : (u v : Bool) → (T u → a < b) → (T v → b < a) → (T (not u) → b ≤ a) → (T (not v) → a ≤ b)
        → cond u (round f false (b - a) c) (round f v (a - b) c) ≡ cond v (round f true (a - b) c) (round f false (b - a) c)
    go true true h k l r = absurd (both (h tt) (k tt))
    go true false h k l r = refl
    go false true h k l r = refl
    go false false h k l r = ap (λ (x : ℕ). round f false x c) (neither (l tt) (r tt))

sum_comm : (f : Format) (s : Bool) (a : ℕ) (t : Bool) (b c : ℕ) → sum f s a t b c ≡ sum f t b s a c
unfolding sum
sum_comm f true a true b c = ap (λ (x : ℕ). round f true x c) (add_comm a b)
sum_comm f false a false b c = ap (λ (x : ℕ). round f false x c) (add_comm a b)
sum_comm f true a false b c = mixed f a b c
sum_comm f false a true b c = sym (mixed f b a c)

inf_comm : (s t : Bool) → cond (beq s t) (inf s) nan ≡ cond (beq t s) (inf t) nan
inf_comm true true = refl
inf_comm true false = refl
inf_comm false true = refl
inf_comm false false = refl

pub add_swap : (f : Format) (x y : Float) → add f x y ≡ add f y x
unfolding add
add_swap f nan nan = refl
add_swap f nan (inf t) = refl
add_swap f nan (fin t n d) = refl
add_swap f (inf s) nan = refl
add_swap f (inf s) (inf t) = inf_comm s t
add_swap f (inf s) (fin t n d) = refl
add_swap f (fin s m e) nan = refl
add_swap f (fin s m e) (inf t) = refl
add_swap f (fin s m e) (fin t n d) =
    ap (λ (c : ℕ). sum f s (m * up e * down d) t (n * up d * down e) c) (mul_comm (down e) (down d))
    ∙ sum_comm f s (m * up e * down d) t (n * up d * down e) (down d * down e)

unlike_comm : (s t : Bool) → unlike s t ≡ unlike t s
unlike_comm s t = ap not (beq_comm s t)

pub mul_swap : (f : Format) (x y : Float) → mul f x y ≡ mul f y x
unfolding mul
mul_swap f nan nan = refl
mul_swap f nan (inf t) = refl
mul_swap f nan (fin t n d) = refl
mul_swap f (inf s) nan = refl
mul_swap f (inf s) (inf t) = ap inf (unlike_comm s t)
mul_swap f (inf s) (fin t n d) = ap (λ (u : Bool). cond (n == 0) nan (inf u)) (unlike_comm s t)
mul_swap f (fin s m e) nan = refl
mul_swap f (fin s m e) (inf t) = ap (λ (u : Bool). cond (m == 0) nan (inf u)) (unlike_comm s t)
mul_swap f (fin s m e) (fin t n d) =
    λ i. round f (unlike_comm s t i) (mul_comm (m * up e) (n * up d) i) (mul_comm (down e) (down d) i)

-- ---- a zero as an operand
-- 0 + ±b / c
canon_sum_zero : (f : Format) (s t : Bool) (b c : ℕ) → canon (sum f s 0 t b c) ≡ canon (round f t b c)
unfolding sum
canon_sum_zero f s t b c = go (beq s t) (beq_eq s t)
  where
    none : b ≤ 0 → b ≡ 0
    none h = omega arith

    away : 0 - b ≡ 0
    away = omega arith

    inner : (u : Bool) → (T (not u) → b ≤ 0) → canon (cond u (round f t (b - 0) c) (round f (s && nat_lt b 0) (0 - b) c)) ≡ canon (round f t b c)
    inner true h = ap (λ (x : ℕ). canon (round f t x c)) (sub-zero b)
    inner false h = ap canon (round_zero_at f (s && nat_lt b 0) (0 - b) c away) ∙ ap canon (sym (round_zero_at f t b c (none (h tt))))

    go : (u : Bool) → (T u → s ≡ t)
        → canon (cond u (round f s (0 + b) c) (cond (nat_lt 0 b) (round f t (b - 0) c) (round f (s && nat_lt b 0) (0 - b) c))) ≡ canon (round f t b c)
    go true h = λ i. canon (round f (h tt i) (zero-add b i) c)
    go false h = inner (nat_lt 0 b) (nltb→le 0 b)

pub no_size : (e d : ℤ) → 0 * up e * down d ≡ 0
no_size e d = ap (λ (x : ℕ). x * down d) (zero-mul (up e)) ∙ zero-mul (down d)

zero_sum : (f : Format) (s : Bool) (e : ℤ) (t : Bool) (n : ℕ) (d : ℤ) → canon (add f (fin s 0 e) (fin t n d)) ≡ canon (round f t (n * up d) (down d))
unfolding add
zero_sum f s e t n d =
    ap (λ (a : ℕ). canon (sum f s a t (n * up d * down e) (down e * down d))) (no_size e d)
    ∙ canon_sum_zero f s t (n * up d * down e) (down e * down d)
    ∙ ap canon (round_same f t (n * up d * down e) (down e * down d) (n * up d) (down d) (mul-pos (down_pos e) (down_pos d)) (down_pos d)
    (mul_assoc (n * up d) (down e) (down d)))

pub zero_add_is : (f : Format) (x y : Float) → T (is_zero x) → canon (add f x y) ≡ canon (add f plus_zero y)
zero_add_is f nan y z = absurd z
zero_add_is f (inf s) y z = absurd z
zero_add_is f (fin s zero e) nan z = unfold add in refl
zero_add_is f (fin s zero e) (inf t) z = unfold add in refl
zero_add_is f (fin s zero e) (fin t n d) z = zero_sum f s e t n d ∙ sym (zero_sum f false (pos 0) t n d)
zero_add_is f (fin s (suc m) e) y z = absurd z

pub is_zero_lem : (x : Float) (s : Bool) → x ≡ fin s 0 (pos 0) → T (is_zero x)
is_zero_lem x s h = subst (λ (y : Float). T (is_zero y)) (sym h) tt

pub zero_times : (f : Format) (s : Bool) (e : ℤ) (t : Bool) (n : ℕ) (d : ℤ) → mul f (fin s 0 e) (fin t n d) ≡ fin (unlike s t) 0 (pos 0)
unfolding mul
zero_times f s e t n d = round_zero_at f (unlike s t) (0 * up e * (n * up d)) (down e * down d)
    (ap (λ (x : ℕ). x * (n * up d)) (zero-mul (up e)) ∙ zero-mul (n * up d))

pub zero_mul_is : (f : Format) (x y : Float) → T (is_zero x) → canon (mul f x y) ≡ canon (mul f plus_zero y)
zero_mul_is f nan y z = absurd z
zero_mul_is f (inf s) y z = absurd z
zero_mul_is f (fin s zero e) nan z = unfold mul in refl
zero_mul_is f (fin s zero e) (inf t) z = unfold mul in refl
zero_mul_is f (fin s zero e) (fin t n d) z = ap canon (zero_times f s e t n d) ∙ ap canon (sym (zero_times f false (pos 0) t n d))
zero_mul_is f (fin s (suc m) e) y z = absurd z

pub zero_over : (f : Format) (s : Bool) (e : ℤ) (t : Bool) (n : ℕ) (d : ℤ) → div f (fin s 0 e) (fin t (suc n) d) ≡ fin (unlike s t) 0 (pos 0)
unfolding div
zero_over f s e t n d =
    ap (λ (b : Bool). cond b nan (round f (unlike s t) (0 * up e * down d) (suc n * up d * down e))) (eqb-suc-zero n)
    ∙ round_zero_at f (unlike s t) (0 * up e * down d) (suc n * up d * down e) (no_size e d)

pub zero_div_is : (f : Format) (x y : Float) → T (is_zero x) → canon (div f x y) ≡ canon (div f plus_zero y)
zero_div_is f nan y z = absurd z
zero_div_is f (inf s) y z = absurd z
zero_div_is f (fin s zero e) nan z = unfold div in refl
zero_div_is f (fin s zero e) (inf t) z = unfold div in refl
zero_div_is f (fin s zero e) (fin t zero d) z = unfold div in refl
zero_div_is f (fin s zero e) (fin t (suc n) d) z = ap canon (zero_over f s e t n d) ∙ ap canon (sym (zero_over f false (pos 0) t n d))
zero_div_is f (fin s (suc m) e) y z = absurd z
