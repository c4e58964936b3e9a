-- The alternating series of sine and cosine, taken exactly as fractions of whole numbers, and what it is for a float to lie near one (docs/SCOPE.md, T9).
-- Definitions only; the theorems are `near_series` and `sin_cos_of` of proofs/Near.antt.
use Rattle.std.specs.Prelude.{ℕ, zero, suc, ◌*◌, ◌^◌, ◌≤◌, ◌≡◌, T, ℤ, pos, nat_abs, ◌*ℤ◌, ◌-ℤ◌, Float}
use Rattle.std.proofs.Math.IntN.{pow}
use Rattle.std.specs.Float.{nan, inf, fin, binary64}
use Rattle.std.specs.Float.Ieee.{up, down, neg, le, of_bits}
use Rattle.std.specs.Float.Ieee.Scale.{finite}
use Rattle.ieee_whole.specs.Whole.{signed}
use Rattle.trig_spec.specs.declared.SinCos.{SinCos}
use Rattle.trig_spec.specs.Formula.{factorial}
use Rattle.trig_spec.specs.Trig.{sin_cos}

-- num / den. Every fraction made here has a den above 0 (of a series: proofs/Parts.antt `series_pos`)
pub record SignedFraction : Type 0 where
  pub num : ℤ
  pub den : ℕ

-- a − b
abbrev pub difference : SignedFraction → SignedFraction → SignedFraction
difference a b = record { num = a.num *ℤ pos b.den -ℤ b.num *ℤ pos a.den; den = a.den * b.den }

-- x ^ k / k!
abbrev pub term : SignedFraction → ℕ → SignedFraction
term x k = record { num = pow x.num k; den = x.den ^ k * factorial k }

-- n terms of x ^ k / k! − x ^ (k + 2) / (k + 2)! + x ^ (k + 4) / (k + 4)! − …: the first, less the series that begins with the next
unfoldable pub series : ℕ → ℕ → SignedFraction → SignedFraction
series zero k x = record { num = pos 0; den = 1 }
series (suc n) k x = difference (term x k) (series n (suc (suc k)) x)

-- T9: cut after 20 terms
abbrev pub terms : ℕ
terms = 20

-- x − x ^ 3 / 3! + x ^ 5 / 5! − … − x ^ 39 / 39!
abbrev pub sine_series : SignedFraction → SignedFraction
sine_series x = series terms 1 x

-- 1 − x ^ 2 / 2! + x ^ 4 / 4! − … − x ^ 38 / 38!
abbrev pub cosine_series : SignedFraction → SignedFraction
cosine_series x = series terms 0 x

-- the number that a finite float is: `fin s m e` is ±(m * up e) / down e. A NaN and an infinity, which `Within` and `InRange` refuse, have 0
abbrev pub exact_value : Float → SignedFraction
exact_value nan = record { num = pos 0; den = 1 }
exact_value (inf s) = record { num = pos 0; den = 1 }
exact_value (fin s m e) = record { num = signed s (m * up e); den = down e }

-- y is finite, and |y − q| ≤ 1 / 2 ^ n
pub record Within (n : ℕ) (y : Float) (q : SignedFraction) : Type 0 where
  pub is_finite : T (finite y)
  pub near : nat_abs (difference (exact_value y) q).num * 2 ^ n ≤ (difference (exact_value y) q).den

-- 0.75
abbrev pub three_quarters : Float
three_quarters = of_bits binary64 0x3FE8000000000000

-- T9: from −0.75 to 0.75, both included, as floats compare
pub record InRange (x : Float) : Type 0 where
  pub low : T (le (neg three_quarters) x)
  pub high : T (le x three_quarters)

-- sine and cosine r of x each lie within 2 ^ -n of their series
pub record NearSeries (n : ℕ) (x : Float) (r : SinCos) : Type 0 where
  pub sine : Within n r.sin (sine_series (exact_value x))
  pub cosine : Within n r.cos (cosine_series (exact_value x))

-- What the function `sin_cos` ensures of its result r: it is the sine and cosine of x as trig_spec defines them and, T9, near the series where x lies in the
-- range.
pub record SinCosOf (x : Float) (r : SinCos) : Type 0 where
  pub value : r ≡ sin_cos x
  pub near : InRange x → NearSeries 40 x r
