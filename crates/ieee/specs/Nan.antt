-- Which bit patterns and which floats are a NaN's. Assumes nothing.
use Rattle.std.specs.Prelude.{◌≡◌, ℕ, ◌%◌, ◌<◌, ◌≤◌, Bool, true, false, not, T}
use Rattle.std.specs.Prelude.{refl, Float}
use Rattle.std.proofs.Common.{sym, subst, ◌∙◌, true≢false, lt-ltb, le-ltb}
use Rattle.std.specs.Float.{nan, inf, fin, binary64}
use Rattle.std.specs.Float.Ieee.{div, of_bits, to_bits, ne, eq, is_nan, nan_bits}
use Rattle.std.specs.Float.Ieee.Bits.{nan_bits_is, nan_bits_above}
use Rattle.ieee.specs.Same.{eq_refl}

pub not_nan : (b : ℕ) → b % 9223372036854775808 ≤ 9218868437227405312 → T (not (nan_bits binary64 b))
not_nan b h = subst (λ (x : Bool). T (not x)) (sym (nan_bits_above binary64 b ∙ le-ltb _ _ h)) tt

is_nan_lem : (x : Float) → is_nan x ≡ true → nan ≡ x
unfolding is_nan
is_nan_lem nan h = refl
is_nan_lem (inf s) h = absurd (true≢false (sym h))
is_nan_lem (fin s m e) h = absurd (true≢false (sym h))

pub nan_of : (b : ℕ) → 9218868437227405312 < b % 9223372036854775808 → nan ≡ of_bits binary64 b
nan_of b h = is_nan_lem (of_bits binary64 b) (sym (nan_bits_is binary64 b) ∙ nan_bits_above binary64 b ∙ lt-ltb _ _ h)

-- how a NaN is made
pub zero_over_zero : div binary64 (of_bits binary64 0) (of_bits binary64 0) ≡ nan
unfolding div of_bits
zero_over_zero = refl

same : (x : Float) → T (not (is_nan x)) → ne x x ≡ false
unfolding ne
same x h = go (eq x x) (eq_refl x h)
  where
    go : (b : Bool) → T b → not b ≡ false
    go true t = refl
    go false t = absurd t

pub nan_bits_lem : (x : Float) → ne x x ≡ true → 9221120237041090560 ≡ to_bits binary64 x
unfolding to_bits is_nan
nan_bits_lem nan h = refl
nan_bits_lem (inf s) h = absurd (true≢false (sym h ∙ same (inf s) tt))
nan_bits_lem (fin s m e) h = absurd (true≢false (sym h ∙ same (fin s m e) tt))

-- a value that equals itself is no NaN
pub no_nan : (x : Float) → ne x x ≡ false → T (not (is_nan x))
unfolding ne eq is_nan
no_nan nan h = absurd (true≢false h)
no_nan (inf s) h = tt
no_nan (fin s m e) h = tt
