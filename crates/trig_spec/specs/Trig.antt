-- Sine and cosine: at the nine quarter points they are set to 0, 1 and −1 (docs/SCOPE.md, T8), elsewhere they are the formula's. Laws are in TrigLaws.antt.
use Rattle.std.specs.Prelude.{ℕ, zero, suc, cond, List, [], ◌∷◌, ℤ, pos, negsuc, neg_ℤ, Float}
use Rattle.std.specs.Float.{binary64}
use Rattle.std.specs.Float.Ieee.{eq, mul, of_int, of_bits}
use Rattle.ieee_whole.specs.Whole.{mod4}
use Rattle.trig_spec.specs.declared.SinCos.{SinCos}
use Rattle.trig_spec.specs.Formula.{formula}

-- the float PI / 2
unfoldable pub half_pi : Float
half_pi = of_bits binary64 0x3FF921FB54442D18

-- T8: quarter point m: m × the float PI / 2, rounded once, since m from −4 to 4 is a float without rounding
unfoldable pub quarter_point : ℤ → Float
unfolding half_pi
quarter_point m = mul binary64 (of_int binary64 m) half_pi

-- T8: (sine, cosine) at quarter point m, for m mod 4 = 0, 1, 2, 3
unfoldable pub on_axis : ℕ → SinCos
on_axis zero = record { sin = of_int binary64 (pos 0); cos = of_int binary64 (pos 1) }
on_axis (suc zero) = record { sin = of_int binary64 (pos 1); cos = of_int binary64 (pos 0) }
on_axis (suc (suc zero)) = record { sin = of_int binary64 (pos 0); cos = of_int binary64 (negsuc 0) }
on_axis (suc (suc (suc n))) = record { sin = of_int binary64 (negsuc 0); cos = of_int binary64 (pos 0) }

-- T8: m from −4 to 4
abbrev pub quarter_numbers : List ℤ
quarter_numbers = neg_ℤ (pos 4) ∷ neg_ℤ (pos 3) ∷ neg_ℤ (pos 2) ∷ neg_ℤ (pos 1) ∷ pos 0 ∷ pos 1 ∷ pos 2 ∷ pos 3 ∷ pos 4 ∷ []

-- T8: what is set at the first m of a list whose quarter point equals x, as floats compare (so −0.0 is quarter point 0); r if there is none.
-- The nine points differ, so their order does not matter
unfoldable pub at_quarters : List ℤ → Float → SinCos → SinCos
unfolding quarter_point on_axis mod4
at_quarters [] x r = r
at_quarters (m ∷ ms) x r = cond (eq x (quarter_point m)) (on_axis (mod4 m)) (at_quarters ms x r)

-- what stands for the Rust's f64::sin_cos: T8 at the nine quarter points, else the formula
unfoldable pub sin_cos : Float → SinCos
unfolding at_quarters formula eq
sin_cos x = at_quarters quarter_numbers x (formula x)
