-- `<=` of floats is transitive. A number p that a bound does not hold for goes beyond all the numbers that it holds for. Assumes nothing.
use Rattle.std.specs.Prelude.{ℕ, ◌+◌, ◌*◌, ◌<◌, ◌≤◌, Bool, true, false, not, ◌||◌, T, ◌⊎◌, ◌==◌}
use Rattle.std.proofs.Common.{mul-le-mul_right, mul-lt-mul_of_pos_right, arith, inl, inr, ltb→lt, eqb→eq, T_not}
use Rattle.std.proofs.Math.Dec.{not_T}
use Rattle.std.specs.Prelude.{Float}
use Rattle.std.specs.Float.{nan, inf, fin}
use Rattle.std.specs.Float.Ieee.{up, down, below, level, lt, le, is_nan}
use Rattle.std.specs.Float.Ieee.Fits.{down_pos, and_l, and_r}
use Rattle.ieee.specs.Same.{or_split}
use Rattle.ieee.specs.Total.{total, lt→le}

-- ---- finite numbers as differences: ±a is plus − minus
abbrev pub plus : Bool → ℕ → ℕ
plus false a = a
plus true a = 0

abbrev pub minus : Bool → ℕ → ℕ
minus false a = 0
minus true a = a

-- ±x / c < ±y / d
below_less : (s : Bool) (x d : ℕ) (t : Bool) (y c : ℕ) → T (below s (x * d) t (y * c)) → plus s x * d + minus t y * c < plus t y * c + minus s x * d
below_less false x d false y c h = omega (arith, ltb→lt (x * d) (y * c) h)
below_less false x d true y c h = absurd h
below_less true x d false y c h = omega (arith, ltb→lt 0 (x * d + y * c) h)
below_less true x d true y c h = omega (arith, ltb→lt (y * c) (x * d) h)

level_same : (s : Bool) (x d : ℕ) (t : Bool) (y c : ℕ) → T (level s (x * d) t (y * c)) → plus s x * d + minus t y * c ≤ plus t y * c + minus s x * d
level_same false x d false y c h = omega (arith, eqb→eq (x * d) (y * c) (and_l (x * d == y * c) true h))
level_same false x d true y c h =
    omega (arith, eqb→eq (x * d) (y * c) (and_l (x * d == y * c) (x * d == 0) h), eqb→eq (x * d) 0 (and_r (x * d == y * c) (x * d == 0) h))
level_same true x d false y c h = omega arith
level_same true x d true y c h = omega (arith, eqb→eq (x * d) (y * c) (and_l (x * d == y * c) true h))

-- ±x / c ≤ ±y / d
pub at_most : (s : Bool) (x d : ℕ) (t : Bool) (y c : ℕ) → T (below s (x * d) t (y * c) || level s (x * d) t (y * c))
    → plus s x * d + minus t y * c ≤ plus t y * c + minus s x * d
at_most s x d t y c h = go (or_split (below s (x * d) t (y * c)) (level s (x * d) t (y * c)) h)
  where
    go : T (below s (x * d) t (y * c)) ⊎ T (level s (x * d) t (y * c)) → plus s x * d + minus t y * c ≤ plus t y * c + minus s x * d
    go (inl k) = omega (arith, below_less s x d t y c k)
    go (inr k) = level_same s x d t y c k

-- three differences of fractions do not go around: (x − x') / a ≤ (y − y') / b ≤ (z − z') / c < (x − x') / a
around : (x x' a y y' b z z' c : ℕ) → 0 < b → x * b + y' * a ≤ y * a + x' * b → y * c + z' * b ≤ z * b + y' * c → z * a + x' * c < x * c + z' * a → ⊥
around x x' a y y' b z z' c B h k l =
    omega (arith, mul-le-mul_right c h, mul-le-mul_right a k, mul-lt-mul_of_pos_right l B)

cycle : (x y z : Float) → T (le x y) → T (le y z) → T (lt z x) → ⊥
unfolding lt le
cycle nan y z h k l = h
cycle (inf true) y nan h k l = l
cycle (inf true) y (inf true) h k l = l
cycle (inf true) y (inf false) h k l = l
cycle (inf true) y (fin u n g) h k l = l
cycle (inf false) nan z h k l = h
cycle (inf false) (inf true) z h k l = h
cycle (inf false) (inf false) nan h k l = k
cycle (inf false) (inf false) (inf true) h k l = k
cycle (inf false) (inf false) (inf false) h k l = l
cycle (inf false) (inf false) (fin u n g) h k l = k
cycle (inf false) (fin t m d) z h k l = h
cycle (fin s j e) nan z h k l = h
cycle (fin s j e) (inf true) z h k l = h
cycle (fin s j e) (inf false) nan h k l = k
cycle (fin s j e) (inf false) (inf true) h k l = k
cycle (fin s j e) (inf false) (inf false) h k l = l
cycle (fin s j e) (inf false) (fin u n g) h k l = k
cycle (fin s j e) (fin t m d) nan h k l = k
cycle (fin s j e) (fin t m d) (inf true) h k l = k
cycle (fin s j e) (fin t m d) (inf false) h k l = l
cycle (fin s j e) (fin t m d) (fin u n g) h k l =
    around (plus s (j * up e)) (minus s (j * up e)) (down e) (plus t (m * up d)) (minus t (m * up d)) (down d) (plus u (n * up g)) (minus u (n * up g))
    (down g) (down_pos d)
    (at_most s (j * up e) (down d) t (m * up d) (down e) h) (at_most t (m * up d) (down g) u (n * up g) (down d) k)
    (below_less u (n * up g) (down e) s (j * up e) (down g) l)

-- ---- the laws
some_left : (x y : Float) → T (le x y) → T (not (is_nan x))
unfolding lt le is_nan
some_left nan y h = h
some_left (inf s) y h = tt
some_left (fin s m e) y h = tt

some_right : (x y : Float) → T (le x y) → T (not (is_nan y))
unfolding lt le is_nan
some_right nan nan h = h
some_right (inf s) nan h = h
some_right (fin s m e) nan h = h
some_right x (inf s) h = tt
some_right x (fin s m e) h = tt

pub le_trans : (x y z : Float) → T (le x y) → T (le y z) → T (le x z)
le_trans x y z h k = total z x (some_right y z k) (some_left x y h) (not_T (lt z x) (cycle x y z h k))

not_less : (x y : Float) → T (not (le x y)) → T (not (lt x y))
not_less x y h = not_T (lt x y) (λ l. T_not (le x y) h (lt→le x y l))

-- a is at or below q, and not at or below p: then p is at or below q
pub past_lower : (a p q : Float) → T (not (is_nan p)) → T (not (le a p)) → T (le a q) → T (le p q)
past_lower a p q n h k = le_trans p a q (total a p (some_left a q k) n (not_less a p h)) k

-- q is at or below a, and p is not: then q is at or below p
pub past_upper : (a p q : Float) → T (not (is_nan p)) → T (not (le p a)) → T (le q a) → T (le q p)
past_upper a p q n h k = le_trans q a p k (total p a n (some_right q a k) (not_less p a h))
