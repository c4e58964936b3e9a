-- Each operation respects `Same`. For values that fit, `x + 0.0` is `canon x`, and `==` between numbers is `Same`. Assumes nothing.
use Rattle.std.specs.Prelude.{◌≡◌, ℕ, zero, suc, ◌-◌, ◌*◌, ◌<◌, ◌≤◌, Bool, true, false, cond, not, ◌||◌, T, ◌⊎◌, ◌↔◌, ℤ, ◌==◌, nat_lt}
use Rattle.std.specs.Prelude.{refl, Float}
use Rattle.std.proofs.Common.{sym, ap, ◌∙◌, subst, inl, inr, lt_irrefl, zero-lt-suc, add-zero, zero-mul, mul-one, mul-pos, arith, ltb→lt, nltb→le, eqb→eq}
use Rattle.std.proofs.Math.Nat.{sub-zero}
use Rattle.std.specs.Bool.{beq}
use Rattle.std.proofs.Math.Dec.{eqb_refl}
use Rattle.std.specs.Float.{nan, inf, fin, Format}
use Rattle.std.specs.Float.Ieee.{up, down, unlike, round, neg, sum, add, sub, mul, div, level, eq, fits, is_nan}
use Rattle.std.specs.Float.Ieee.Fits.{up_pos, down_pos, add-fits, and_i, and_l, and_r}
use Rattle.std.specs.Float.Ieee.Scale.{finite}
use Rattle.ieee.specs.Unique.{round_self, zero_exp, fin_unique}
use Rattle.ieee.specs.Zero.{beq_eq, beq_refl, is_zero_lem, zero_add_is, zero_times, zero_mul_is, zero_over, zero_div_is}
pub use Rattle.ieee.specs.Number.{is_zero, Same, plus_zero, canon}
pub use Rattle.ieee.specs.Zero.{canon_zero, same→canon, canon→same, same_refl, same_sym, same_trans, canon_canon, round_zero, round_zero_at, add_swap}
pub use Rattle.ieee.specs.Zero.{mul_swap, no_size}

-- ---- each operation respects `Same`
neg_zero : (x : Float) → T (is_zero x) → T (is_zero (neg x))
unfolding neg
neg_zero nan z = absurd z
neg_zero (inf s) z = absurd z
neg_zero (fin s zero e) z = tt
neg_zero (fin s (suc m) e) z = absurd z

pub neg_same : (x y : Float) → Same x y → Same (neg x) (neg y)
neg_same x y (inl p) = inl (ap neg p)
neg_same x y (inr z) = inr (neg_zero x z.0, neg_zero y z.1)

-- an operation that `canon` makes blind to which zero it is given respects `Same`
blind : (g : Float → Float) → ((z : Float) → T (is_zero z) → canon (g z) ≡ canon (g plus_zero)) → (x y : Float) → Same x y → canon (g x) ≡ canon (g y)
blind g h x y (inl p) = ap (λ (z : Float). canon (g z)) p
blind g h x y (inr z) = h x z.0 ∙ sym (h y z.1)

pub add_same : (f : Format) (x x' y y' : Float) → Same x x' → Same y y' → Same (add f x y) (add f x' y')
add_same f x x' y y' p q =
    canon→same (add f x y) (add f x' y')
    (blind (λ z. add f z y) (λ z t. zero_add_is f z y t) x x' p
    ∙ ap canon (add_swap f x' y)
    ∙ blind (λ z. add f z x') (λ z t. zero_add_is f z x' t) y y' q
    ∙ ap canon (add_swap f y' x'))

pub sub_same : (f : Format) (x x' y y' : Float) → Same x x' → Same y y' → Same (sub f x y) (sub f x' y')
unfolding sub
sub_same f x x' y y' p q = add_same f x x' (neg y) (neg y') p (neg_same y y' q)

pub mul_same : (f : Format) (x x' y y' : Float) → Same x x' → Same y y' → Same (mul f x y) (mul f x' y')
mul_same f x x' y y' p q =
    canon→same (mul f x y) (mul f x' y')
    (blind (λ z. mul f z y) (λ z t. zero_mul_is f z y t) x x' p
    ∙ ap canon (mul_swap f x' y)
    ∙ blind (λ z. mul f z x') (λ z t. zero_mul_is f z x' t) y y' q
    ∙ ap canon (mul_swap f y' x'))

pub div_same_l : (f : Format) (x x' y : Float) → Same x x' → Same (div f x y) (div f x' y)
div_same_l f x x' y p = canon→same (div f x y) (div f x' y) (blind (λ z. div f z y) (λ z t. zero_div_is f z y t) x x' p)

-- ---- zeros
pub mul_zero_l : (f : Format) (x y : Float) → T (is_zero x) → T (finite y) → T (is_zero (mul f x y))
mul_zero_l f nan y z t = absurd z
mul_zero_l f (inf s) y z t = absurd z
mul_zero_l f (fin s zero e) nan z t = absurd t
mul_zero_l f (fin s zero e) (inf u) z t = absurd t
mul_zero_l f (fin s zero e) (fin u n d) z t = is_zero_lem (mul f (fin s 0 e) (fin u n d)) (unlike s u) (zero_times f s e u n d)
mul_zero_l f (fin s (suc m) e) y z t = absurd z

pub mul_zero_r : (f : Format) (x y : Float) → T (finite x) → T (is_zero y) → T (is_zero (mul f x y))
mul_zero_r f x y t z = subst (λ (w : Float). T (is_zero w)) (mul_swap f y x) (mul_zero_l f y x z t)

pub div_zero_l : (f : Format) (x y : Float) → T (is_zero x) → T (finite y) → T (not (is_zero y)) → T (is_zero (div f x y))
div_zero_l f nan y z t u = absurd z
div_zero_l f (inf s) y z t u = absurd z
div_zero_l f (fin s zero e) nan z t u = absurd t
div_zero_l f (fin s zero e) (inf v) z t u = absurd t
div_zero_l f (fin s zero e) (fin v zero d) z t u = absurd u
div_zero_l f (fin s zero e) (fin v (suc n) d) z t u = is_zero_lem (div f (fin s 0 e) (fin v (suc n) d)) (unlike s v) (zero_over f s e v n d)
div_zero_l f (fin s (suc m) e) y z t u = absurd z

-- ---- x + 0.0
-- ±a / c + 0, with a above 0
sum_zero_r : (f : Format) (s : Bool) (a c : ℕ) → 0 < a → sum f s a false 0 c ≡ round f s a c
unfolding sum
sum_zero_r f false a c h = ap (λ (x : ℕ). round f false x c) (add-zero a)
sum_zero_r f true a c h = go (nat_lt a 0) (nat_lt 0 a) (ltb→lt a 0) (nltb→le 0 a)
  where
    never : a < 0 → ⊥
    never k = omega arith

    nor : a ≤ 0 → ⊥
    nor k = omega arith

    go : (u v : Bool) → (T u → a < 0) → (T (not v) → a ≤ 0) → cond u (round f false (0 - a) c) (round f v (a - 0) c) ≡ round f true a c
    go true v k l = absurd (never (k tt))
    go false true k l = ap (λ (x : ℕ). round f true x c) (sub-zero a)
    go false false k l = absurd (nor (l tt))

both_zeros : (f : Format) (s : Bool) → sum f s 0 false 0 1 ≡ plus_zero
unfolding sum
both_zeros f true = round_zero f false 1
both_zeros f false = round_zero f false 1

pub plus_zero_lem : (f : Format) (x : Float) → T (fits f x) → add f x plus_zero ≡ canon x
unfolding add
plus_zero_lem f nan t = refl
plus_zero_lem f (inf s) t = refl
plus_zero_lem f (fin s zero e) t = ap (λ (d : ℤ). add f (fin s zero d) plus_zero) (zero_exp f s e t) ∙ both_zeros f s
plus_zero_lem f (fin s (suc m) e) t =
    ap (λ (b : ℕ). sum f s (suc m * up e * 1) false b (down e * 1)) (zero-mul (down e))
    ∙ sum_zero_r f s (suc m * up e * 1) (down e * 1) (mul-pos (mul-pos (zero-lt-suc m) (up_pos e)) (zero-lt-suc 0))
    ∙ (λ i. round f s (mul-one (suc m * up e) i) (mul-one (down e) i))
    ∙ round_self f s m e t

-- x + z is x but for a zero's sign, whichever zero z is
pub add_zero_same : (f : Format) (x z : Float) → T (fits f x) → T (is_zero z) → Same (add f x z) x
add_zero_same f x z t u =
    canon→same (add f x z) x
    (same→canon (add f x z) (add f x plus_zero) (add_same f x x z plus_zero (same_refl x) (inr (u, tt)))
    ∙ ap canon (plus_zero_lem f x t)
    ∙ canon_canon x)

pub zero_add_same : (f : Format) (z x : Float) → T (is_zero z) → T (fits f x) → Same (add f z x) x
zero_add_same f z x u t = subst (λ (y : Float). Same y x) (add_swap f x z) (add_zero_same f x z t u)

-- `Same` is equality after `+ 0.0`
pub same_iff_plus_zero : (f : Format) (x y : Float) → T (fits f x) → T (fits f y) → Same x y ↔ (add f x plus_zero ≡ add f y plus_zero)
same_iff_plus_zero f x y t u = (
  (λ (p : Same x y). plus_zero_lem f x t ∙ same→canon x y p ∙ sym (plus_zero_lem f y u)),
  (λ (p : add f x plus_zero ≡ add f y plus_zero). canon→same x y (sym (plus_zero_lem f x t) ∙ p ∙ plus_zero_lem f y u)),
)

-- ---- `==`
pub or_l : (a b : Bool) → T a → T (a || b)
or_l true b t = tt
or_l false b t = absurd t

pub or_r : (a b : Bool) → T b → T (a || b)
or_r true b t = tt
or_r false b t = t

pub or_split : (a b : Bool) → T (a || b) → T a ⊎ T b
or_split true b t = inl tt
or_split false b t = inr t

zero_of_size : (s : Bool) (m : ℕ) (e d : ℤ) → m * up e * down d ≡ 0 → T (is_zero (fin s m e))
zero_of_size s zero e d h = tt
zero_of_size s (suc m) e d h = absurd (lt_irrefl 0 (subst (λ (x : ℕ). 0 < x) h (mul-pos (mul-pos (zero-lt-suc m) (up_pos e)) (down_pos d))))

level→same : (f : Format) (s : Bool) (m : ℕ) (e : ℤ) (t : Bool) (n : ℕ) (d : ℤ) → T (fits f (fin s m e)) → T (fits f (fin t n d))
    → T (eq (fin s m e) (fin t n d)) → Same (fin s m e) (fin t n d)
unfolding eq
level→same f s m e t n d p q h =
    let a = m * up e * down d in
    let b = n * up d * down e in
    let v : a ≡ b = eqb→eq a b (and_l (a == b) (beq s t || a == 0) h) in
    elim (or_split (beq s t) (a == 0) (and_r (a == b) (beq s t || a == 0) h)) [
      | inl k ↦
          let k' : s ≡ t = beq_eq s t k in
          inl (ap (λ (u : Bool). fin u m e) k' ∙ fin_unique f t m e n d (subst (λ (u : Bool). T (fits f (fin u m e))) k' p) q v)
      | inr k ↦ inr (zero_of_size s m e d (eqb→eq a 0 k), zero_of_size t n d e (sym v ∙ eqb→eq a 0 k))
    ]

pub eq→same : (f : Format) (x y : Float) → T (fits f x) → T (fits f y) → T (eq x y) → Same x y
eq→same f nan y p q h = absurd (unfold eq in h)
eq→same f (inf s) nan p q h = absurd (unfold eq in h)
eq→same f (inf s) (inf t) p q h = inl (ap inf (beq_eq s t (unfold eq in h)))
eq→same f (inf s) (fin t n d) p q h = absurd (unfold eq in h)
eq→same f (fin s m e) nan p q h = absurd (unfold eq in h)
eq→same f (fin s m e) (inf t) p q h = absurd (unfold eq in h)
eq→same f (fin s m e) (fin t n d) p q h = level→same f s m e t n d p q h

-- a number, or an infinity, equals itself; and any two zeros are equal
pub eq_refl : (x : Float) → T (not (is_nan x)) → T (eq x x)
unfolding eq is_nan
eq_refl nan h = absurd h
eq_refl (inf s) h = beq_refl s
eq_refl (fin s m e) h =
    and_i (m * up e * down e == m * up e * down e) (beq s s || m * up e * down e == 0) (eqb_refl (m * up e * down e))
    (or_l (beq s s) (m * up e * down e == 0) (beq_refl s))

zeros_level : (s t : Bool) (a b : ℕ) → a ≡ 0 → b ≡ 0 → T (level s a t b)
zeros_level s t a b h k =
    subst (λ (x : ℕ). T (level s x t b)) (sym h) (subst (λ (x : ℕ). T (level s 0 t x)) (sym k) (or_r (beq s t) true tt))

pub zeros_eq : (x y : Float) → T (is_zero x) → T (is_zero y) → T (eq x y)
unfolding eq
zeros_eq nan y z w = absurd z
zeros_eq (inf s) y z w = absurd z
zeros_eq (fin s zero e) nan z w = absurd w
zeros_eq (fin s zero e) (inf t) z w = absurd w
zeros_eq (fin s zero e) (fin t zero d) z w = zeros_level s t (0 * up e * down d) (0 * up d * down e) (no_size e d) (no_size d e)
zeros_eq (fin s zero e) (fin t (suc n) d) z w = absurd w
zeros_eq (fin s (suc m) e) y z w = absurd z

pub same→eq : (x y : Float) → T (not (is_nan x)) → Same x y → T (eq x y)
same→eq x y h (inl p) = subst (λ (z : Float). T (eq x z)) p (eq_refl x h)
same→eq x y h (inr z) = zeros_eq x y z.0 z.1

pub finite_not_nan : (x : Float) → T (finite x) → T (not (is_nan x))
unfolding is_nan
finite_not_nan nan h = h
finite_not_nan (inf s) h = tt
finite_not_nan (fin s m e) h = tt

pub T_true : (b : Bool) → T b → b ≡ true
T_true true h = refl
T_true false h = absurd h

pub true_T : (b : Bool) → b ≡ true → T b
true_T b h = subst T (sym h) tt

pub eq_iff_same : (f : Format) (x y : Float) → T (fits f x) → T (fits f y) → T (finite x) → (eq x y ≡ true) ↔ Same x y
eq_iff_same f x y p q t = (
  (λ (h : eq x y ≡ true). eq→same f x y p q (true_T (eq x y) h)),
  (λ (h : Same x y). T_true (eq x y) (same→eq x y (finite_not_nan x t) h)),
)

-- x + 0.0 of a finite x is finite
pub canon_finite : (x : Float) → T (finite x) → T (finite (canon x))
canon_finite nan t = t
canon_finite (inf s) t = t
canon_finite (fin s zero e) t = tt
canon_finite (fin s (suc m) e) t = tt

-- what came out of `+ 0.0` is equal as data where `==` says so
pub eq_after_plus_zero : (f : Format) (a b : Float) → T (fits f a) → T (fits f b) → T (finite a)
    → (eq (add f a plus_zero) (add f b plus_zero) ≡ true) ↔ (add f a plus_zero ≡ add f b plus_zero)
eq_after_plus_zero f a b p q t =
    let x = add f a plus_zero in
    let y = add f b plus_zero in
    let fx : T (finite x) = subst (λ (z : Float). T (finite z)) (sym (plus_zero_lem f a p)) (canon_finite a t) in
    let i = eq_iff_same f x y (add-fits f a plus_zero) (add-fits f b plus_zero) fx in (
      (λ (h : eq x y ≡ true).
          plus_zero_lem f a p ∙ sym (canon_canon a) ∙ ap canon (sym (plus_zero_lem f a p)) ∙ same→canon x y (i.0 h) ∙ ap canon (plus_zero_lem f b q) ∙ canon_canon b
          ∙ sym (plus_zero_lem f b q)),
      (λ (h : x ≡ y). i.1 (inl h)),
    )
