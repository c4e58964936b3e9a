-- The smaller and the larger of two unequal finite floats are unequal; and each fits where both do.
use mathlib.Core.Path.{◌≡◌, refl, sym, ◌∙◌}
use Prim.Native.Nat.{ℕ, ◌*◌, ◌<◌}
use native.Mathlib.Omega.{arith}
use mathlib.Core.Bool.{Bool, true, false, not, cond, ◌||◌, true≢false}
use lib.Dec.{T, ltb, ltb→lt}
use lib.Ieee.{Float, nan, inf, fin, Format, up, down, below, lt, eq, le, is_nan, fits}
use lib.Ieee.Fits.{cond-fits}
use lib.Ieee.Scale.{finite}
use Rattle.ieee.specs.Same.{same_sym, eq→same, same→eq, finite_not_nan, T_true, true_T}
use Rattle.ieee.specs.Number.{minimum, maximum}
use Rattle.ieee.specs.Total.{total}

not_both : (a b : ℕ) → T (ltb a b) → T (ltb b a) → ⊥
not_both a b h k = go (ltb→lt a b h) (ltb→lt b a k)
  where
    go : a < b → b < a → ⊥
    go h k = omega arith

below_asym : (s : Bool) (a : ℕ) (t : Bool) (b : ℕ) → T (below s a t b) → T (below t b s a) → ⊥
below_asym false a false b h k = not_both a b h k
below_asym false a true b h k = h
below_asym true a false b h k = k
below_asym true a true b h k = not_both b a h k

pub lt_asym : (x y : Float) → T (lt x y) → T (lt y x) → ⊥
unfolding lt
lt_asym nan y h k = h
lt_asym (inf s) nan h k = h
lt_asym (inf true) (inf true) h k = h
lt_asym (inf true) (inf false) h k = k
lt_asym (inf false) (inf true) h k = h
lt_asym (inf false) (inf false) h k = h
lt_asym (inf true) (fin t n d) h k = k
lt_asym (inf false) (fin t n d) h k = h
lt_asym (fin s m e) nan h k = h
lt_asym (fin s m e) (inf true) h k = h
lt_asym (fin s m e) (inf false) h k = k
lt_asym (fin s m e) (fin t n d) h k = below_asym s (m * up e * down d) t (n * up d * down e) h k

pub uneq_sym : (f : Format) (x y : Float) → T (fits f x) → T (fits f y) → T (finite x) → eq x y ≡ false → eq y x ≡ false
uneq_sym f x y p q t h = go (eq y x) refl
  where
    go : (b : Bool) → eq y x ≡ b → eq y x ≡ false
    go false e = e
    go true e = absurd (true≢false (sym (T_true (eq x y) (same→eq x y (finite_not_nan x t) (same_sym y x (eq→same f y x q p (true_T (eq y x) e))))) ∙ h))

pub ends_unequal : (f : Format) (x y : Float) → T (fits f x) → T (fits f y) → T (finite x) → T (finite y) → eq x y ≡ false → eq (maximum x y) (minimum x y) ≡ false
unfolding maximum minimum le
ends_unequal f x y p q t u h =
    go (is_nan x) (lt x y) (lt y x) (finite_not_nan x t) (lt_asym x y) (λ k. total x y (finite_not_nan x t) (finite_not_nan y u) k)
  where
    swapped : eq y x ≡ false
    swapped = uneq_sym f x y p q t h

    go : (n a b : Bool) → T (not n) → (T a → T b → ⊥) → (T (not a) → T (b || eq y x)) → eq (cond n y (cond a y x)) (cond n y (cond b y x)) ≡ false
    go true a b n k l = absurd n
    go false true true n k l = absurd (k tt tt)
    go false true false n k l = swapped
    go false false true n k l = h
    go false false false n k l = absurd (true≢false (sym (T_true (eq y x) (l tt)) ∙ swapped))

pub minimum_fits : (f : Format) (x y : Float) → T (fits f x) → T (fits f y) → T (fits f (minimum x y))
unfolding minimum
minimum_fits f x y p q = cond-fits f (is_nan x) y (cond (lt y x) y x) q (cond-fits f (lt y x) y x q p)

pub maximum_fits : (f : Format) (x y : Float) → T (fits f x) → T (fits f y) → T (fits f (maximum x y))
unfolding maximum
maximum_fits f x y p q = cond-fits f (is_nan x) y (cond (lt x y) y x) q (cond-fits f (lt x y) y x q p)
