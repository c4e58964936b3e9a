-- What the code of `is_finite`, `min`, `max` and `abs` computes. Assumes nothing.
use Rattle.std.specs.Prelude.{◌≡◌, ℕ, zero, suc, ◌+◌, ◌-◌, ◌*◌, ◌<◌, Bool, true, false, cond, not, T, ℤ, ◌≢◌, nat_lt}
use Rattle.std.proofs.Math.Path.{refl}
use Rattle.std.proofs.Common.{sym, ap, ◌∙◌, subst, lt_of_lt_of_le, le-add_right, zero-mul, mul-pos, zero-lt-suc, arith, true≢false, ltb→lt, lt→ltb}
use Rattle.std.proofs.Math.Nat.{sub_self}
use Rattle.std.proofs.lemmas.Bool.{false≢true}
use Rattle.std.specs.Prelude.{Float}
use Rattle.std.specs.Float.{nan, inf, fin, Format}
use Rattle.std.specs.Float.Ieee.{up, down, lt, eq, neg, sum, add, sub, round, fits, is_nan}
use Rattle.std.specs.Float.Ieee.Fits.{up_pos}
use Rattle.std.specs.Float.Ieee.Scale.{finite}
use Rattle.ieee.specs.Unique.{zero_exp}
unfoldable pub use Rattle.ieee.specs.Number.{minimum, maximum, absolute}
use Rattle.ieee.specs.Same.{plus_zero, canon, plus_zero_lem, eq_refl, finite_not_nan, T_true, true_T, round_zero_at}

-- ---- is_finite
cond_finite : (b : Bool) (x y : Float) → T (finite x) → T (finite y) → T (finite (cond b x y))
cond_finite true x y h k = h
cond_finite false x y h k = k

round_zero_finite : (f : Format) (s : Bool) (a c : ℕ) → T (finite (round f s (a - a) c))
round_zero_finite f s a c = subst (λ (x : Float). T (finite x)) (sym (round_zero_at f s (a - a) c (sub_self a))) tt

self_minus_finite : (f : Format) (s : Bool) (a c : ℕ) → T (finite (sum f s a (not s) a c))
unfolding sum
self_minus_finite f true a c =
    cond_finite (nat_lt a a) (round f false (a - a) c) (round f (nat_lt a a) (a - a) c) (round_zero_finite f false a c) (round_zero_finite f (nat_lt a a) a c)
self_minus_finite f false a c =
    cond_finite (nat_lt a a) (round f true (a - a) c) (round f false (a - a) c) (round_zero_finite f true a c) (round_zero_finite f false a c)

finite_eq : (z : Float) → T (finite z) → eq z z ≡ true
finite_eq z h = T_true (eq z z) (eq_refl z (finite_not_nan z h))

pub self_minus : (f : Format) (x : Float) → eq (sub f x x) (sub f x x) ≡ finite x
unfolding sub eq
self_minus f nan = refl
self_minus f (inf true) = refl
self_minus f (inf false) = refl
self_minus f (fin s m e) = finite_eq (sum f s (m * up e * down e) (not s) (m * up e * down e) (down e * down e))
    (self_minus_finite f s (m * up e * down e) (down e * down e))

-- ---- min and max
eq_self : (a : Float) → eq a a ≡ not (is_nan a)
eq_self nan = unfold eq is_nan in refl
eq_self (inf s) = T_true (eq (inf s) (inf s)) (eq_refl (inf s) (unfold is_nan in tt)) ∙ (unfold is_nan in refl)
eq_self (fin s m e) = T_true (eq (fin s m e) (fin s m e)) (eq_refl (fin s m e) (unfold is_nan in tt)) ∙ (unfold is_nan in refl)

-- v says which of the two, where neither is a NaN
module _ (a b : Float) where
  pub picks_second : (v : Bool) → v ≡ true → b ≡ cond (is_nan a) b (cond v b a)
  picks_second v h = go (is_nan a)
    where
      go : (u : Bool) → b ≡ cond u b (cond v b a)
      go true = refl
      go false = sym (ap (λ (w : Bool). cond w b a) h)

  pub picks_first : (v : Bool) → v ≡ false → eq a a ≡ true → a ≡ cond (is_nan a) b (cond v b a)
  picks_first v h k = go (is_nan a) (sym k ∙ eq_self a)
    where
      go : (u : Bool) → true ≡ not u → a ≡ cond u b (cond v b a)
      go true n = absurd (true≢false n)
      go false n = sym (ap (λ (w : Bool). cond w b a) h)

  pub picks_other : (v : Bool) → eq a a ≡ false → b ≡ cond (is_nan a) b (cond v b a)
  picks_other v k = go (is_nan a) (sym k ∙ eq_self a)
    where
      go : (u : Bool) → false ≡ not u → b ≡ cond u b (cond v b a)
      go true n = refl
      go false n = absurd (false≢true n)

-- ---- abs
pub negated : (x : Float) → lt x plus_zero ≡ true → neg x ≡ absolute x
unfolding lt neg absolute
negated nan h = refl
negated (inf true) h = refl
negated (inf false) h = absurd (false≢true h)
negated (fin true m e) h = refl
negated (fin false m e) h = absurd
    (never (m * up e * 1) (0 * down e) (ltb→lt (m * up e * 1) (0 * down e) (true_T (nat_lt (m * up e * 1) (0 * down e)) h)) (zero-mul (down e)))
  where
    never : (a b : ℕ) → a < b → b ≢ 0
    never a b h k = omega arith

canon_absolute : (f : Format) (x : Float) → T (fits f x) → lt x plus_zero ≡ false → canon x ≡ absolute x
unfolding lt absolute
canon_absolute f nan t h = refl
canon_absolute f (inf true) t h = absurd (true≢false h)
canon_absolute f (inf false) t h = refl
canon_absolute f (fin s zero e) t h = ap (λ (d : ℤ). fin false zero d) (sym (zero_exp f s e t))
canon_absolute f (fin false (suc m) e) t h = refl
canon_absolute f (fin true (suc m) e) t h =
    let a = suc m * up e * 1 + 0 * down e in
    absurd (true≢false (sym (T_true (nat_lt 0 a)
    (lt→ltb 0 a (lt_of_lt_of_le (mul-pos (mul-pos (zero-lt-suc m) (up_pos e)) (zero-lt-suc 0)) (le-add_right (suc m * up e * 1) (0 * down e))))) ∙ h))

pub kept : (f : Format) (x : Float) → T (fits f x) → lt x plus_zero ≡ false → add f x plus_zero ≡ absolute x
kept f x t h = plus_zero_lem f x t ∙ canon_absolute f x t h
