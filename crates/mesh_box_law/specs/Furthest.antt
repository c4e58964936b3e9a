-- The least and the greatest float of a list, stated once for both: the side is false for the least, true for the greatest. A NaN in the list does not count.
-- With + 0.0 after it, the furthest of two lists together is the further of their furthest, as data. Assumes nothing.
use Rattle.std.specs.Prelude.{◌≡◌, refl, ◌⊎◌, Bool, true, false, not, ◌&&◌, List, [], ◌∷◌, ◌++◌, ℕ, zero, suc, ◌+◌, ◌*◌, ◌≤◌, T, eqb, Float}
use Rattle.std.proofs.Common.{sym, ap, ◌∙◌, subst, inl, inr, arith}
use Rattle.std.specs.Float.{nan, inf, fin, Format}
use Rattle.std.specs.Float.Ieee.{up, down, level, lt, eq, le, add, fits, is_nan}
use Rattle.std.specs.Float.Ieee.Fits.{and_i, eq→eqb, inf-fits, add-fits}
use Rattle.ieee.specs.Number.{minimum, maximum, canon, plus_zero, Same}
use Rattle.ieee.specs.Same.{or_r, add_zero_same, plus_zero_lem, eq→same, same→eq, same_sym, same→canon, canon_canon}
use Rattle.ieee.specs.Total.{le_refl, minimum_is, maximum_is, minimum_nan_r, maximum_nan_r}
use Rattle.ieee.specs.Order.{plus, minus, at_most, le_trans}

-- no NaN: a number or an infinity
abbrev pub NotNan : Float → Type 0
NotNan x = T (not (is_nan x))

-- x <= y on the lower side, x >= y on the upper
abbrev pub beyond : Bool → Float → Float → Bool
beyond false x y = le x y
beyond true x y = le y x

-- the lesser, or the greater, of two
abbrev pub further : Bool → Float → Float → Float
further false a b = minimum a b
further true a b = maximum a b

-- the least, or the greatest, of a start and a list
abbrev pub furthest : Bool → Float → List Float → Float
furthest s a [] = a
furthest s a (x ∷ xs) = furthest s (further s a x) xs

-- at or beyond each of a list that is no NaN
abbrev pub BeyondAll : Bool → Float → List Float → Type 0
BeyondAll s l [] = Unit
BeyondAll s l (x ∷ xs) = (NotNan x → T (beyond s l x)) × BeyondAll s l xs

-- the format holds all of a list
abbrev pub AllFit : Format → List Float → Type 0
AllFit f [] = Unit
AllFit f (x ∷ xs) = T (fits f x) × AllFit f xs

-- ---- `beyond` is an order
like : (a b : ℕ) → a ≡ b → T (eqb a b && true)
like a b h = and_i (eqb a b) true (eq→eqb h) tt

none : (a b : ℕ) → a + b ≡ 0 → T (eqb a b && eqb a 0)
none a b h = and_i (eqb a b) (eqb a 0) (eq→eqb {a = a} {b = b} (omega arith)) (eq→eqb {a = a} {b = 0} (omega arith))

-- ±x / c and ±y / d, each at most the other
level_of : (s : Bool) (x d : ℕ) (t : Bool) (y c : ℕ) → plus s x * d + minus t y * c ≤ plus t y * c + minus s x * d
    → plus t y * c + minus s x * d ≤ plus s x * d + minus t y * c → T (level s (x * d) t (y * c))
level_of false x d false y c h k = like (x * d) (y * c) (omega arith)
level_of false x d true y c h k = none (x * d) (y * c) (omega arith)
level_of true x d false y c h k = none (x * d) (y * c) (omega arith)
level_of true x d true y c h k = like (x * d) (y * c) (omega arith)

le_both : (x y : Float) → T (le x y) → T (le y x) → T (eq x y)
unfolding lt eq le
le_both nan y h k = absurd h
le_both (inf s) nan h k = absurd h
le_both (inf true) (inf true) h k = tt
le_both (inf true) (inf false) h k = absurd k
le_both (inf false) (inf true) h k = absurd h
le_both (inf false) (inf false) h k = tt
le_both (inf true) (fin t n d) h k = absurd k
le_both (inf false) (fin t n d) h k = absurd h
le_both (fin s m e) nan h k = absurd h
le_both (fin s m e) (inf true) h k = absurd h
le_both (fin s m e) (inf false) h k = absurd k
le_both (fin s m e) (fin t n d) h k = level_of s (m * up e) (down d) t (n * up d) (down e)
    (at_most s (m * up e) (down d) t (n * up d) (down e) h) (at_most t (n * up d) (down e) s (m * up e) (down d) k)

beyond_refl : (s : Bool) (x : Float) → NotNan x → T (beyond s x x)
beyond_refl false x h = le_refl x h
beyond_refl true x h = le_refl x h

pub beyond_trans : (s : Bool) (x y z : Float) → T (beyond s x y) → T (beyond s y z) → T (beyond s x z)
beyond_trans false x y z h k = le_trans x y z h k
beyond_trans true x y z h k = le_trans z y x k h

-- each at or beyond the other: the same number
beyond_both : (f : Format) (s : Bool) (x y : Float) → T (fits f x) → T (fits f y) → T (beyond s x y) → T (beyond s y x) → canon x ≡ canon y
beyond_both f false x y p q h k = same→canon x y (eq→same f x y p q (le_both x y h k))
beyond_both f true x y p q h k = same→canon x y (eq→same f x y p q (le_both x y k h))

same_beyond : (s : Bool) (x y : Float) → NotNan x → NotNan y → Same x y → T (beyond s x y)
unfolding le
same_beyond false x y p q e = or_r (lt x y) (eq x y) (same→eq x y p e)
same_beyond true x y p q e = or_r (lt y x) (eq y x) (same→eq y x q (same_sym x y e))

pub start_not_nan : (s : Bool) → NotNan (inf s)
unfolding is_nan
start_not_nan s = tt

-- the infinity that a box starts from: every float but a NaN is at or beyond it
beyond_start : (s : Bool) (x : Float) → NotNan x → T (beyond s x (inf s))
unfolding lt eq le is_nan
beyond_start s nan h = absurd h
beyond_start false (inf true) h = tt
beyond_start false (inf false) h = tt
beyond_start false (fin t m e) h = tt
beyond_start true (inf true) h = tt
beyond_start true (inf false) h = tt
beyond_start true (fin t m e) h = tt

-- ---- the further of two
record Further (s : Bool) (a b r : Float) : Type 0 where
  one_of : (r ≡ a) ⊎ ((r ≡ b) × NotNan b)
  past_a : T (beyond s r a)
  past_b : NotNan b → T (beyond s r b)

not_nan_or_nan : (x : Float) → NotNan x ⊎ (x ≡ nan)
unfolding is_nan
not_nan_or_nan nan = inr refl
not_nan_or_nan (inf s) = inl tt
not_nan_or_nan (fin s m e) = inl tt

further_nan : (s : Bool) (a : Float) → further s a nan ≡ a
further_nan false a = minimum_nan_r a
further_nan true a = maximum_nan_r a

with_nan : (s : Bool) (a r : Float) → NotNan a → r ≡ a → Further s a nan r
unfolding is_nan
with_nan s a r p e = record { one_of = inl e; past_a = subst (λ (x : Float). T (beyond s x a)) (sym e) (beyond_refl s a p); past_b = λ n. absurd n }

with_not_nan : (s : Bool) (a b : Float) → NotNan a → NotNan b → Further s a b (further s a b)
with_not_nan false a b p q =
    let m = minimum_is a b p q in
    record { one_of = elim m.one_of [ inl e ↦ inl e | inr e ↦ inr (e, q) ]; past_a = m.under_a; past_b = λ n. m.under_b }
with_not_nan true a b p q =
    let m = maximum_is a b p q in
    record { one_of = elim m.one_of [ inl e ↦ inl e | inr e ↦ inr (e, q) ]; past_a = m.over_a; past_b = λ n. m.over_b }

further_is : (s : Bool) (a b : Float) → NotNan a → Further s a b (further s a b)
further_is s a b p = go (not_nan_or_nan b)
  where
    go : NotNan b ⊎ (b ≡ nan) → Further s a b (further s a b)
    go (inl q) = with_not_nan s a b p q
    go (inr e) = subst (λ (x : Float). Further s a x (further s a x)) (sym e) (with_nan s a (further s a nan) p (further_nan s a))

further_has : (P : Float → Type 0) (s : Bool) (a b : Float) → NotNan a → P a → (NotNan b → P b) → P (further s a b)
further_has P s a b p h k = elim (further_is s a b p).one_of [ inl e ↦ subst P (sym e) h | inr e ↦ subst P (sym e.0) (k e.1) ]

further_not_nan : (s : Bool) (a b : Float) → NotNan a → NotNan (further s a b)
further_not_nan s a b p = further_has NotNan s a b p p (λ q. q)

-- ---- the furthest of a list
module _ (s : Bool) where
  pub furthest_not_nan : (a : Float) (xs : List Float) → NotNan a → NotNan (furthest s a xs)
  furthest_not_nan a [] p = p
  furthest_not_nan a (x ∷ xs) p = furthest_not_nan (further s a x) xs (further_not_nan s a x p)

  pub furthest_fits : (f : Format) (a : Float) (xs : List Float) → NotNan a → T (fits f a) → AllFit f xs → T (fits f (furthest s a xs))
  furthest_fits f a [] p h k = h
  furthest_fits f a (x ∷ xs) p h k =
      furthest_fits f (further s a x) xs (further_not_nan s a x p) (further_has (λ y. T (fits f y)) s a x p h (λ q. k.0)) k.1

  -- what is at or beyond the furthest is so of the start and of all in the list, and the other way round
  pub beyond_furthest : (l a : Float) (xs : List Float) → NotNan a → T (beyond s l (furthest s a xs)) → T (beyond s l a) × BeyondAll s l xs
  beyond_furthest l a [] p h = (h, tt)
  beyond_furthest l a (x ∷ xs) p h =
      let r = further s a x in
      let i = further_is s a x p in
      let k = beyond_furthest l r xs (further_not_nan s a x p) h in
      (beyond_trans s l r a k.0 i.past_a, ((λ q. beyond_trans s l r x k.0 (i.past_b q)), k.1))

  furthest_beyond : (l a : Float) (xs : List Float) → NotNan a → T (beyond s l a) → BeyondAll s l xs → T (beyond s l (furthest s a xs))
  furthest_beyond l a [] p h k = h
  furthest_beyond l a (x ∷ xs) p h k =
      furthest_beyond l (further s a x) xs (further_not_nan s a x p) (further_has (λ y. T (beyond s l y)) s a x p h k.0) k.1

  furthest_through : (a : Float) (xs ys : List Float) → furthest s a (xs ++ ys) ≡ furthest s (furthest s a xs) ys
  furthest_through a [] ys = refl
  furthest_through a (x ∷ xs) ys = furthest_through (further s a x) xs ys

-- ---- with + 0.0 after it
canon_not_nan : (x : Float) → NotNan x → NotNan (canon x)
unfolding is_nan
canon_not_nan nan h = h
canon_not_nan (inf s) h = tt
canon_not_nan (fin s zero e) h = tt
canon_not_nan (fin s (suc m) e) h = tt

-- a + 0.0 is the same number as a
module _ (f : Format) (a : Float) (p : NotNan a) (h : T (fits f a)) where
  plus_same : Same (add f a plus_zero) a
  plus_same = add_zero_same f a plus_zero h tt

  plus_not_nan : NotNan (add f a plus_zero)
  plus_not_nan = subst NotNan (sym (plus_zero_lem f a h)) (canon_not_nan a p)

  pub plus_beyond : (s : Bool) → T (beyond s (add f a plus_zero) a)
  plus_beyond s = same_beyond s (add f a plus_zero) a plus_not_nan p plus_same

  beyond_plus : (s : Bool) → T (beyond s a (add f a plus_zero))
  beyond_plus s = same_beyond s a (add f a plus_zero) p plus_not_nan (same_sym (add f a plus_zero) a plus_same)

  plus_canon : canon (add f a plus_zero) ≡ add f a plus_zero
  plus_canon = ap canon (plus_zero_lem f a h) ∙ canon_canon a ∙ sym (plus_zero_lem f a h)

-- r, the furthest from a start a, and m, the further of a and of the furthest b from an infinity: each is at or beyond the other
furthest_plus : (f : Format) (s : Bool) (a : Float) (xs : List Float) → NotNan a → T (fits f a) → AllFit f xs
    → add f (furthest s a xs) plus_zero ≡ further s (add f a plus_zero) (add f (furthest s (inf s) xs) plus_zero)
furthest_plus f s a xs p h k =
    let b = furthest s (inf s) xs in
    let pb = furthest_not_nan s (inf s) xs (start_not_nan s) in
    let fb = furthest_fits s f (inf s) xs (start_not_nan s) (inf-fits f s) k in
    let r = furthest s a xs in
    let pr = furthest_not_nan s a xs p in
    let fr = furthest_fits s f a xs p h k in
    let a₀ = add f a plus_zero in
    let b₀ = add f b plus_zero in
    let pa₀ = plus_not_nan f a p h in
    let m = further s a₀ b₀ in
    let fm = further_has (λ y. T (fits f y)) s a₀ b₀ pa₀ (add-fits f a plus_zero) (λ q. add-fits f b plus_zero) in
    let i = further_is s a₀ b₀ pa₀ in
    let past = beyond_furthest s r a xs p (beyond_refl s r pr) in
    let rb : T (beyond s r b) = furthest_beyond s r (inf s) xs (start_not_nan s) (beyond_start s r pr) past.1 in
    let rm : T (beyond s r m) =
    further_has (λ y. T (beyond s r y)) s a₀ b₀ pa₀
    (beyond_trans s r a a₀ past.0 (beyond_plus f a p h s)) (λ q. beyond_trans s r b b₀ rb (beyond_plus f b pb fb s)) in
    let mb : T (beyond s m b) = beyond_trans s m b₀ b (i.past_b (plus_not_nan f b pb fb)) (plus_beyond f b pb fb s) in
    let mr : T (beyond s m r) =
    furthest_beyond s m a xs p (beyond_trans s m a₀ a i.past_a (plus_beyond f a p h s)) (beyond_furthest s m (inf s) xs (start_not_nan s) mb).1 in
    plus_zero_lem f r fr
    ∙ beyond_both f s r m fr fm rm mr
    ∙ further_has (λ y. canon y ≡ y) s a₀ b₀ pa₀ (plus_canon f a p h) (λ q. plus_canon f b pb fb)

-- the furthest of two lists
pub furthest_append : (f : Format) (s : Bool) (xs ys : List Float) → AllFit f xs → AllFit f ys
    → add f (furthest s (inf s) (xs ++ ys)) plus_zero ≡ further s (add f (furthest s (inf s) xs) plus_zero) (add f (furthest s (inf s) ys) plus_zero)
furthest_append f s xs ys h k =
    ap (λ (x : Float). add f x plus_zero) (furthest_through s (inf s) xs ys)
    ∙ furthest_plus f s (furthest s (inf s) xs) ys (furthest_not_nan s (inf s) xs (start_not_nan s))
    (furthest_fits s f (inf s) xs (start_not_nan s) (inf-fits f s) h) k
