-- The root by its named cases: each case's equation, and that each is correctly rounded. Assumes nothing.
use mathlib.Core.Path.{◌≡◌, sym, ap, ◌∙◌, subst}
use mathlib.Core.Bool.{false}
use Prim.Native.Nat.{ℕ, suc, ◌+◌, ◌-◌, ◌*◌, ◌/◌, ◌%◌, ◌^◌}
use native.Mathlib.Nat.{mul-pos, mul-one}
use native.Mathlib.Omega.{arith}
use lib.Dec.{T}
use lib.Pow.{pow_pos}
use lib.IntN.{ℤ}
use lib.Ieee.{Float, binary64, minus, up, down, odd, units, of_bits, to_bits, fits}
use lib.Ieee.Bits.{of_bits-to_bits}
use lib.Ieee.Exact.{HasValue, odd_sign, units_val}
use Rattle.root_case.specs.Case.{trailing, exponent, root_case}
use Rattle.root_case.specs.declared.RootCase.TheVariants.{Subnormal, EvenExponent, OddExponent}
use Rattle.root_case.proofs.Laws.{zero_is, not_finite_is, negative_is, subnormal_is, even_is, odd_is}
use Rattle.root.specs.Sqrt.{sqrt}
use Rattle.root.specs.ByCase.{significand, subnormal_root, even_root, odd_root, ByCase}
use Rattle.root.specs.Rounded.{Nearest, CorrectlyRounded, Root}
use Rattle.root.proofs.Patterns.{read_low, write}
use Rattle.root.proofs.Digits.{field_is, no_overflow, digits_exact, digits_units}
use Rattle.root.proofs.Rounded.{nearest_value, sqrt_rounded}
use Rattle.root.proofs.Exact.{sqrt_exact}
use Rattle.root.proofs.Cases.{Normal, sqrt_even, sqrt_odd, sqrt_subnormal, sqrt_not_finite}

-- The root of a value of the format, case by case.
pub sqrt_by_case : (x : Float) → T (fits binary64 x) → ByCase x (sqrt binary64 x)
sqrt_by_case x h = record {
  zero = λ e. (sqrt_rounded binary64 x h).zero (zero_is x h e);
  not_finite = λ e. sqrt_not_finite x (not_finite_is x h e);
  negative = λ e. (sqrt_rounded binary64 x h).negative (negative_is x h e);
  subnormal = λ e. let b = subnormal_is x h e in sqrt_subnormal x h b.0 b.1;
  even_exponent = λ e. sqrt_even x h (even_is x h e);
  odd_exponent = λ e. sqrt_odd x h (odd_is x h e);
}

-- ---- a normal number above zero is its digits times the power of its exponent, less 52

normal_units : (b r : ℕ) → Normal r b → of_bits binary64 b ≡ units binary64 false (2 ^ 52 + b % 2 ^ 52) (b / 2 ^ 52 - 1)
normal_units b r (l, h, p) =
    let k : b ≡ (b / 2 ^ 52 - 1) * 2 ^ 52 + (2 ^ 52 + b % 2 ^ 52) = omega arith in
    ap (of_bits binary64) k ∙ write (2 ^ 52 + b % 2 ^ 52) (b / 2 ^ 52 - 1) (omega arith) (omega arith) (omega arith)

module _ (x : Float) (r : ℕ) (held : T (fits binary64 x)) (n : Normal r (to_bits binary64 x)) where
  in_units : x ≡ units binary64 false (2 ^ 52 + to_bits binary64 x % 2 ^ 52) (to_bits binary64 x / 2 ^ 52 - 1)
  in_units = sym (of_bits-to_bits binary64 x held) ∙ normal_units (to_bits binary64 x) r n

  is_digits : HasValue x false (significand x * up (exponent x)) (2 ^ 52 * down (exponent x))
  unfolding significand exponent
  is_digits =
      let b = to_bits binary64 x in
      let l = n.0 in
      let h = n.1 in
      let q = 2 ^ 52 + b % 2 ^ 52 in
      let k = b / 2 ^ 52 - 1 in
      let field : suc k ≡ b % 2 ^ 63 / 2 ^ 52 = omega arith in
      let e : minus k 1022 ≡ exponent x = sym (field_is k) ∙ ap (λ (y : ℕ). minus y 1023) field in
      subst (λ (y : ℤ). HasValue x false (q * up y) (2 ^ 52 * down y)) e
      (subst (λ (y : Float). HasValue y false (q * up (minus k 1022)) (2 ^ 52 * down (minus k 1022)))
      (digits_units q k (omega arith) (omega arith) ∙ sym in_units)
      (digits_exact q k (omega arith) (omega arith)))

  normal_value : HasValue x false ((2 ^ 52 + to_bits binary64 x % 2 ^ 52) * 2 ^ (to_bits binary64 x / 2 ^ 52 - 1)) (2 ^ 1074)
  normal_value =
      let b = to_bits binary64 x in
      let h = n.1 in
      let q = 2 ^ 52 + b % 2 ^ 52 in
      let k = b / 2 ^ 52 - 1 in
      subst (λ (y : Float). HasValue y false (q * 2 ^ k) (2 ^ 1074)) (sym in_units) (units_val binary64 false q k (no_overflow q k (omega arith) (omega arith)))

  normal_nearest : Nearest binary64 x (sqrt binary64 x)
  normal_nearest =
      let b = to_bits binary64 x in
      nearest_value binary64 x ((2 ^ 52 + b % 2 ^ 52) * 2 ^ (b / 2 ^ 52 - 1)) (2 ^ 1074) held normal_value (mul-pos (omega arith) (pow_pos (b / 2 ^ 52 - 1)))

pub even_digits : (x : Float) → T (fits binary64 x) → root_case x ≡ EvenExponent → HasValue x false (significand x * up (exponent x)) (2 ^ 52 * down (exponent x))
even_digits x h e = is_digits x 1 h (even_is x h e)

pub odd_digits : (x : Float) → T (fits binary64 x) → root_case x ≡ OddExponent → HasValue x false (significand x * up (exponent x)) (2 ^ 52 * down (exponent x))
odd_digits x h e = is_digits x 0 h (odd_is x h e)

-- ---- correct rounding in each of the three cases of a value above zero

pub even_rounded : (x : Float) → T (fits binary64 x) → root_case x ≡ EvenExponent → Nearest binary64 x (even_root x)
even_rounded x h e = subst (Nearest binary64 x) ((sqrt_by_case x h).even_exponent e) (normal_nearest x 1 h (even_is x h e))

pub odd_rounded : (x : Float) → T (fits binary64 x) → root_case x ≡ OddExponent → Nearest binary64 x (odd_root x)
odd_rounded x h e = subst (Nearest binary64 x) ((sqrt_by_case x h).odd_exponent e) (normal_nearest x 0 h (odd_is x h e))

-- a subnormal number is T of the format's smallest values
pub subnormal_digits : (x : Float) → T (fits binary64 x) → root_case x ≡ Subnormal → HasValue x false (trailing x) (2 ^ 1074)
unfolding trailing
subnormal_digits x h e =
    let b = to_bits binary64 x in
    subst (λ (y : Float). HasValue y false (b % 2 ^ 52) (2 ^ 1074)) (sym (read_low b (subnormal_is x h e).1) ∙ of_bits-to_bits binary64 x h)
    (subst (λ (n : ℕ). HasValue (odd 53 false (b % 2 ^ 52) 0 1074) false n (2 ^ 1074)) (mul-one (b % 2 ^ 52)) (odd_sign 53 false (b % 2 ^ 52) 0 1074))

pub subnormal_rounded : (x : Float) → T (fits binary64 x) → root_case x ≡ Subnormal → Nearest binary64 x (subnormal_root x)
unfolding trailing
subnormal_rounded x h e =
    let l = subnormal_is x h e in
    subst (Nearest binary64 x) ((sqrt_by_case x h).subnormal e)
    (nearest_value binary64 x (trailing x) (2 ^ 1074) h (subnormal_digits x h e) (let p = l.0 in let q = l.1 in omega arith))

-- what the code's answers are
pub root_is : (x r : Float) → T (fits binary64 x) → r ≡ sqrt binary64 x → Root x r
root_is x r h e = record {
  value = e;
  by_case = subst (ByCase x) (sym e) (sqrt_by_case x h);
  rounded = subst (CorrectlyRounded binary64 x) (sym e) (sqrt_rounded binary64 x h);
  exact = λ y p k z q. e ∙ sqrt_exact binary64 x y h p k z q;
}
