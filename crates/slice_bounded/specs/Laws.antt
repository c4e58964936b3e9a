-- A float whose size is at most a power of two: products and sums of such floats are bounded by higher powers, and finite while the format holds those. Assumes
-- nothing.
use Rattle.std.specs.Prelude.{◌≡◌, refl, ℕ, zero, suc, ◌+◌, ◌-◌, ◌*◌, ◌^◌, ◌≤◌, ◌<◌, Bool, true, false, ◌&&◌, ◌||◌, cond, List, [], ◌∷◌, ℤ, pos, T, ltb, eqb, Float}
use Rattle.std.proofs.Common.{sym, ap, ◌∙◌, subst, inl, inr, le_trans, le_of_eq, le_of_lt, zero-lt-suc, mul-one, one-mul, mul_comm, mul_assoc, mul_left_comm, mul_right_comm, mul-pos, mul-le-mul, mul-le-mul_right, le_of_mul-le-mul_right, add-le-add, arith, true≢false, ltb→lt, eqb→eq, lit≤, pow-add, pow_mono}
use Rattle.std.proofs.Math.Nat.{two-pow-succ}
use Rattle.std.specs.Bool.{beq}
use Rattle.std.proofs.lemmas.Bool.{false≢true}
use Rattle.std.proofs.Math.Pow.{pow-lt}
use Rattle.std.specs.Float.{nan, inf, fin, Format, binary64}
use Rattle.std.specs.Float.Ieee.{prec, emax, low, up, down, unlike, odd, units, round, sum, add, mul, le}
use Rattle.std.specs.Float.Ieee.Fits.{two, down_pos, and_l, and_r, round_is}
use Rattle.std.specs.Float.Ieee.Exact.{HasValue, round_exact}
use Rattle.std.specs.Float.Ieee.Order.{kept, drop, round_mono}
use Rattle.std.specs.Float.Ieee.Scale.{finite}
use Rattle.std.specs.Float.Ieee.Bits.{is_true}
use Rattle.ieee.specs.Same.{or_split}
use Rattle.slice.specs.Every.{every}
use Rattle.slice_bounded.specs.Bounded.{within_power, is_bounded}

-- |x| ≤ 2 ^ k
abbrev pub AtMost : ℕ → Float → Type 0
AtMost k nan = ⊥
AtMost k (inf s) = ⊥
AtMost k (fin s m e) = m * up e ≤ 2 ^ k * down e

pub at_most_finite : (k : ℕ) (x : Float) → AtMost k x → T (finite x)
at_most_finite k nan h = h
at_most_finite k (inf s) h = h
at_most_finite k (fin s m e) h = tt

pub at_most_more : (j k : ℕ) (x : Float) → j ≤ k → AtMost j x → AtMost k x
at_most_more j k nan p h = h
at_most_more j k (inf s) p h = h
at_most_more j k (fin s m e) p h = le_trans h (mul-le-mul_right (down e) (pow_mono {i = j} {j = k} p))

-- ---- the test
less_or_same : (a b : ℕ) → T (ltb a b || (eqb a b && true)) → a ≤ b
less_or_same a b t = elim (or_split (ltb a b) (eqb a b && true) t) [ inl u ↦ le_of_lt (ltb→lt a b u) | inr u ↦ le_of_eq (eqb→eq a b (and_l (eqb a b) true u)) ]

more_or_same : (a b : ℕ) → T (ltb a b || (eqb b a && true)) → a ≤ b
more_or_same a b t = elim (or_split (ltb a b) (eqb b a && true) t)
    [ inl u ↦ le_of_lt (ltb→lt a b u) | inr u ↦ le_of_eq (sym (eqb→eq b a (and_l (eqb b a) true u))) ]

plain : (a p d : ℕ) → a * 1 ≤ 1 * p * d → a ≤ p * d
plain a p d h = le_trans (le_of_eq (sym (mul-one a))) (le_trans h (le_of_eq (ap (λ (x : ℕ). x * d) (one-mul p))))

pub within_power_lem : (k : ℕ) (x : Float) → T (within_power k x) → AtMost k x
unfolding within_power le
within_power_lem k nan t = and_l false false t
within_power_lem k (inf true) t = and_l false true t
within_power_lem k (inf false) t = and_r true false t
within_power_lem k (fin true m e) t =
    plain (m * up e) (2 ^ k) (down e)
    (more_or_same (m * up e * 1) (1 * 2 ^ k * down e) (and_l (le (fin true 1 (pos k)) (fin true m e)) (le (fin true m e) (fin false 1 (pos k))) t))
within_power_lem k (fin false m e) t =
    plain (m * up e) (2 ^ k) (down e)
    (less_or_same (m * up e * 1) (1 * 2 ^ k * down e) (and_r (le (fin true 1 (pos k)) (fin false m e)) (le (fin false m e) (fin false 1 (pos k))) t))

-- ---- rounding
power : (f : Format) (k : ℕ) → k ≤ emax f → HasValue (round f false (2 ^ k) 1) false (2 ^ k) 1
power f k h =
    let small : 1 < 2 ^ prec f = pow-lt {i = 0} {j = prec f} (le_trans (lit≤ tt) (two f)) in
    let fine : 1 * 2 ^ (k + low f) < 2 ^ (low f + suc (emax f)) =
    subst (λ (x : ℕ). x < 2 ^ (low f + suc (emax f))) (sym (one-mul (2 ^ (k + low f)))) (pow-lt {i = k + low f} {j = low f + suc (emax f)} (omega arith)) in
    round_exact f false (2 ^ k) 1 1 (k + low f) (zero-lt-suc 0) small fine
    (sym (pow-add 2 k (low f)) ∙ sym (one-mul (2 ^ (k + low f))) ∙ sym (mul-one (1 * 2 ^ (k + low f))))

cancel : (x q p d D : ℕ) → 0 < d → q * 1 ≡ p * d → x * d ≤ q * D → x ≤ p * D
cancel x q p d D h e g =
    le_of_mul-le-mul_right {m = x} {n = p * D} {k = d}
    (le_trans g (le_of_eq (ap (λ (y : ℕ). y * D) (sym (mul-one q) ∙ e) ∙ mul_right_comm p d D))) h

under : (k : ℕ) (y : Float) → HasValue y false (2 ^ k) 1 → (s : Bool) (m : ℕ) (e : ℤ) → T (le (fin false m e) y) → AtMost k (fin s m e)
unfolding le
under k nan v s m e h = absurd v
under k (inf t) v s m e h = absurd v
under k (fin true n d) v s m e h = absurd (true≢false v.0)
under k (fin false n d) v s m e h =
    cancel (m * up e) (n * up d) (2 ^ k) (down d) (down e) (down_pos d) v.1 (less_or_same (m * up e * down d) (n * up d * down e) h)

infinite : (k : ℕ) (y : Float) → HasValue y false (2 ^ k) 1 → T (le (inf false) y) → ⊥
unfolding le
infinite k nan v h = v
infinite k (inf t) v h = v
infinite k (fin t n d) v h = h

in_units : (f : Format) (s : Bool) (k q j : ℕ) (b : Bool) (y : Float) → HasValue y false (2 ^ k) 1
    → T (le (cond b (odd (suc (prec f)) false q j (low f)) (inf false)) y)
    → AtMost k (cond b (odd (suc (prec f)) s q j (low f)) (inf s))
unfolding odd
in_units f s k q j false y v h = infinite k y v h
in_units f s k zero j true y v h = under k y v s zero (pos zero) h
in_units f s k (suc q) j true y v h = under k y v s _ _ h

-- a fraction of at most 2 ^ k, rounded
pub round_at_most : (f : Format) (s : Bool) (k a c : ℕ) → k ≤ emax f → 0 < c → a ≤ 2 ^ k * c → AtMost k (round f s a c)
unfolding units
round_at_most f s k a c h p g =
    let q = kept (prec f) (a * 2 ^ low f) c in
    let j = drop (prec f) (a * 2 ^ low f) c in
    let y = round f false (2 ^ k) 1 in
    let below : T (le (round f false a c) y) = round_mono f a c (2 ^ k) 1 p (zero-lt-suc 0) (le_trans (le_of_eq (mul-one a)) g) in
    subst (λ (z : Float). AtMost k z) (sym (round_is f s a c))
    (in_units f s k q j (ltb (q * 2 ^ j) (2 ^ (low f + suc (emax f)))) y (power f k h) (subst (λ (z : Float). T (le z y)) (round_is f false a c) below))

-- ---- products and sums
crossed : (a b c d : ℕ) → a * b * (c * d) ≡ a * c * (b * d)
crossed a b c d = simp (mul_assoc, mul_left_comm)

pub mul_at_most : (f : Format) (j k : ℕ) (x y : Float) → AtMost j x → AtMost k y → j + k ≤ emax f → AtMost (j + k) (mul f x y)
unfolding mul
mul_at_most f j k nan y p q h = absurd p
mul_at_most f j k (inf s) y p q h = absurd p
mul_at_most f j k (fin s m e) nan p q h = absurd q
mul_at_most f j k (fin s m e) (inf t) p q h = absurd q
mul_at_most f j k (fin s m e) (fin t n d) p q h =
    round_at_most f (unlike s t) (j + k) (m * up e * (n * up d)) (down e * down d) h (mul-pos (down_pos e) (down_pos d))
    (le_trans (mul-le-mul p q) (le_of_eq (crossed (2 ^ j) (down e) (2 ^ k) (down d) ∙ ap (λ (z : ℕ). z * (down e * down d)) (sym (pow-add 2 j k)))))

either : (k : ℕ) (b : Bool) (x y : Float) → AtMost k x → AtMost k y → AtMost k (cond b x y)
either k true x y p q = p
either k false x y p q = q

-- A / c + B / c, where each is at most 2 ^ k
sum_at_most : (f : Format) (k : ℕ) (s : Bool) (A : ℕ) (t : Bool) (B c : ℕ) → 0 < c → suc k ≤ emax f → A ≤ 2 ^ k * c → B ≤ 2 ^ k * c
    → AtMost (suc k) (sum f s A t B c)
unfolding sum
sum_at_most f k s A t B c p h a b =
    let twice : 2 ^ k * c + 2 ^ k * c ≡ 2 ^ suc k * c = omega (arith, ap (λ (z : ℕ). z * c) (two-pow-succ k)) in
    let all : A + B ≤ 2 ^ suc k * c = le_trans (add-le-add a b) (le_of_eq twice) in
    let fewer : (n : ℕ) → n ≤ A + B → n ≤ 2 ^ suc k * c = λ n g. le_trans g all in
    either (suc k) (beq s t) (round f s (A + B) c) (cond (ltb A B) (round f t (B - A) c) (round f (s && ltb B A) (A - B) c))
    (round_at_most f s (suc k) (A + B) c h p all)
    (either (suc k) (ltb A B) (round f t (B - A) c) (round f (s && ltb B A) (A - B) c)
    (round_at_most f t (suc k) (B - A) c h p (fewer (B - A) (omega arith)))
    (round_at_most f (s && ltb B A) (suc k) (A - B) c h p (fewer (A - B) (omega arith))))

pub add_at_most : (f : Format) (k : ℕ) (x y : Float) → AtMost k x → AtMost k y → suc k ≤ emax f → AtMost (suc k) (add f x y)
unfolding add
add_at_most f k nan y p q h = absurd p
add_at_most f k (inf s) y p q h = absurd p
add_at_most f k (fin s m e) nan p q h = absurd q
add_at_most f k (fin s m e) (inf t) p q h = absurd q
add_at_most f k (fin s m e) (fin t n d) p q h =
    sum_at_most f k s (m * up e * down d) t (n * up d * down e) (down e * down d) (mul-pos (down_pos e) (down_pos d)) h
    (le_trans (mul-le-mul_right (down d) p) (le_of_eq (mul_assoc (2 ^ k) (down e) (down d))))
    (le_trans (mul-le-mul_right (down e) q) (le_of_eq (mul_assoc (2 ^ k) (down d) (down e) ∙ ap (λ (z : ℕ). 2 ^ k * z) (mul_comm (down d) (down e)))))

-- ---- a row of a matrix and a point
module _ (f : Format) (k : ℕ) (h : suc (suc (suc (k + k))) ≤ emax f) (a b c d x y z : Float) where
  pub row_at_most : AtMost k a → AtMost k b → AtMost k c → AtMost k d → AtMost k x → AtMost k y → AtMost k z
      → AtMost (suc (suc (suc (k + k)))) (add f (add f (add f (mul f a x) (mul f b y)) (mul f c z)) d)
  row_at_most pa pb pc pd px py pz =
      let j = k + k in
      let l : j ≤ emax f = omega arith in
      let u = mul f a x in
      let v = mul f b y in
      let w = mul f c z in
      let s = add_at_most f j u v (mul_at_most f k k a x pa px l) (mul_at_most f k k b y pb py l) (omega arith) in
      let t = add_at_most f (suc j) (add f u v) w s (at_most_more j (suc j) w (omega arith) (mul_at_most f k k c z pc pz l)) (omega arith) in
      add_at_most f (suc (suc j)) (add f (add f u v) w) d t (at_most_more k (suc (suc j)) d (omega arith) pd) h

-- ---- in binary64
pub bounded_finite : (x : Float) → T (is_bounded x) → T (finite x)
unfolding is_bounded
bounded_finite x h = at_most_finite 400 x (within_power_lem 400 x h)

pub every_finite : (l : List Float) → every is_bounded l ≡ true → every finite l ≡ true
unfolding every
every_finite [] e = refl
every_finite (x ∷ l) e = go (is_bounded x) (every is_bounded l) e (bounded_finite x) (every_finite l)
  where
    go : (a b : Bool) → (a && b) ≡ true → (T a → T (finite x)) → (b ≡ true → every finite l ≡ true) → (finite x && every finite l) ≡ true
    go true b e h k = rw (is_true (finite x) (h tt), k e)
    go false b e h k = absurd (false≢true e)

pub row_finite : (a b c d x y z : Float) → T (is_bounded a) → T (is_bounded b) → T (is_bounded c) → T (is_bounded d) → T (is_bounded x) → T (is_bounded y)
    → T (is_bounded z)
    → T (finite (add binary64 (add binary64 (add binary64 (mul binary64 a x) (mul binary64 b y)) (mul binary64 c z)) d))
unfolding is_bounded
row_finite a b c d x y z ha hb hc hd hx hy hz =
    at_most_finite 803 (add binary64 (add binary64 (add binary64 (mul binary64 a x) (mul binary64 b y)) (mul binary64 c z)) d)
    (row_at_most binary64 400 (lit≤ tt) a b c d x y z (within_power_lem 400 a ha) (within_power_lem 400 b hb) (within_power_lem 400 c hc) (within_power_lem 400 d hd)
    (within_power_lem 400 x hx) (within_power_lem 400 y hy) (within_power_lem 400 z hz))
