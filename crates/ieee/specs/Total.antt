-- The order of the floats that are no NaN is total. `minimum` is the least and `maximum` the greatest of two such floats; where one is a NaN, each is the
-- other. Assumes nothing.
use Rattle.std.specs.Prelude.{◌≡◌, ℕ, ◌+◌, ◌*◌, ◌≤◌, Bool, true, false, cond, not, ◌&&◌, ◌||◌, T, ◌⊎◌, ◌==◌, nat_lt}
use Rattle.std.specs.Prelude.{refl, Float}
use Rattle.std.proofs.Common.{sym, ◌∙◌, inl, inr, eq-or-lt_of_le, arith, lt→ltb, nltb→le}
use Rattle.std.specs.Float.{nan, inf, fin}
use Rattle.std.specs.Float.Ieee.{up, down, below, level, lt, eq, le, is_nan}
use Rattle.std.specs.Float.Ieee.Fits.{and_i, eq→eqb}
use Rattle.ieee.specs.Same.{or_l, or_r, eq_refl}
use Rattle.ieee.specs.Number.{minimum, maximum}

-- ±a ≤ ±b
at_or_below : (a b : ℕ) → a ≤ b → T (nat_lt a b || (a == b && true))
at_or_below a b h = elim (eq-or-lt_of_le h)
    [ inl e ↦ or_r (nat_lt a b) (a == b && true) (and_i (a == b) true (eq→eqb e) tt) | inr l ↦ or_l (nat_lt a b) (a == b && true) (lt→ltb a b l) ]

opposite : (a b : ℕ) → a ≡ 0 → b ≡ 0 → T (a == b && a == 0)
opposite a b h k = and_i (a == b) (a == 0) (eq→eqb (h ∙ sym k)) (eq→eqb h)

opposed : (a b : ℕ) → T (nat_lt 0 (a + b) || (a == b && a == 0))
opposed a b = go (nat_lt 0 (a + b)) (nltb→le 0 (a + b))
  where
    l : a + b ≤ 0 → a ≡ 0
    l h = omega arith

    r : a + b ≤ 0 → b ≡ 0
    r h = omega arith

    go : (t : Bool) → (T (not t) → a + b ≤ 0) → T (t || (a == b && a == 0))
    go true h = tt
    go false h = opposite a b (l (h tt)) (r (h tt))

not_below : (s : Bool) (a : ℕ) (t : Bool) (b : ℕ) → T (not (below s a t b)) → T (below t b s a || level t b s a)
not_below false a false b h = at_or_below b a (nltb→le a b h)
not_below false a true b h = opposed b a
not_below true a false b h =
    opposite b a (r (nltb→le 0 (a + b) h)) (l (nltb→le 0 (a + b) h))
  where
    l : a + b ≤ 0 → a ≡ 0
    l h = omega arith

    r : a + b ≤ 0 → b ≡ 0
    r h = omega arith
not_below true a true b h =
    elim (eq-or-lt_of_le (nltb→le b a h)) [
      | inl e ↦ or_r (nat_lt a b) (b == a && true) (and_i (b == a) true (eq→eqb (sym e)) tt)
      | inr l ↦ or_l (nat_lt a b) (b == a && true) (lt→ltb a b l)
    ]

pub total : (x y : Float) → T (not (is_nan x)) → T (not (is_nan y)) → T (not (lt x y)) → T (le y x)
unfolding is_nan lt le
total nan y p q h = absurd p
total (inf s) nan p q h = absurd q
total (inf true) (inf true) p q h = tt
total (inf true) (inf false) p q h = absurd h
total (inf false) (inf true) p q h = tt
total (inf false) (inf false) p q h = tt
total (inf true) (fin t n d) p q h = absurd h
total (inf false) (fin t n d) p q h = tt
total (fin s m e) nan p q h = absurd q
total (fin s m e) (inf true) p q h = tt
total (fin s m e) (inf false) p q h = absurd h
total (fin s m e) (fin t n d) p q h = not_below s (m * up e * down d) t (n * up d * down e) h

pub lt→le : (x y : Float) → T (lt x y) → T (le x y)
unfolding le
lt→le x y h = or_l (lt x y) (eq x y) h

pub le_refl : (x : Float) → T (not (is_nan x)) → T (le x x)
unfolding le
le_refl x h = or_r (lt x x) (eq x x) (eq_refl x h)

pub record Least (a b r : Float) : Type 0 where
  pub one_of : (r ≡ a) ⊎ (r ≡ b)
  pub under_a : T (le r a)
  pub under_b : T (le r b)

pub record Greatest (a b r : Float) : Type 0 where
  pub one_of : (r ≡ a) ⊎ (r ≡ b)
  pub over_a : T (le a r)
  pub over_b : T (le b r)

pub minimum_is : (a b : Float) → T (not (is_nan a)) → T (not (is_nan b)) → Least a b (minimum a b)
unfolding minimum
minimum_is a b p q = go (is_nan a) (lt b a) p (λ t. t) (λ t. t)
  where
    go : (u v : Bool) → T (not u) → (T v → T (lt b a)) → (T (not v) → T (not (lt b a))) → Least a b (cond u b (cond v b a))
    go true v n h k = absurd n
    go false true n h k = record { one_of = inr refl; under_a = lt→le b a (h tt); under_b = le_refl b q }
    go false false n h k = record { one_of = inl refl; under_a = le_refl a p; under_b = total b a q p (k tt) }

pub maximum_is : (a b : Float) → T (not (is_nan a)) → T (not (is_nan b)) → Greatest a b (maximum a b)
unfolding maximum
maximum_is a b p q = go (is_nan a) (lt a b) p (λ t. t) (λ t. t)
  where
    go : (u v : Bool) → T (not u) → (T v → T (lt a b)) → (T (not v) → T (not (lt a b))) → Greatest a b (cond u b (cond v b a))
    go true v n h k = absurd n
    go false true n h k = record { one_of = inr refl; over_a = lt→le a b (h tt); over_b = le_refl b q }
    go false false n h k = record { one_of = inl refl; over_a = le_refl a p; over_b = total a b p q (k tt) }

-- where one is a NaN, the other
pub minimum_nan_l : (b : Float) → minimum nan b ≡ b
unfolding minimum is_nan
minimum_nan_l b = refl

pub maximum_nan_l : (b : Float) → maximum nan b ≡ b
unfolding maximum is_nan
maximum_nan_l b = refl

pub minimum_nan_r : (a : Float) → minimum a nan ≡ a
unfolding minimum is_nan lt
minimum_nan_r nan = refl
minimum_nan_r (inf s) = refl
minimum_nan_r (fin s m e) = refl

pub maximum_nan_r : (a : Float) → maximum a nan ≡ a
unfolding maximum is_nan lt
maximum_nan_r nan = refl
maximum_nan_r (inf s) = refl
maximum_nan_r (fin s m e) = refl
