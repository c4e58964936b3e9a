-- Laws of `sin_cos` for callers, who keep it shut: at the quarter points, at every zero and at what is not finite; that it is the formula's elsewhere, and
-- that it takes the same number to the same pair. Assumes nothing.
use Rattle.std.specs.Prelude.{◌≡◌, refl, List, [], ◌∷◌, ◌++◌, ℕ, zero, suc, ◌*◌, ◌≤◌, ◌<◌, Bool, true, false, ◌&&◌, ◌||◌, cond, ℤ, pos, neg_ℤ, T, leb, eqb, Float}
use Rattle.std.proofs.Common.{sym, ap, ◌∙◌, inl, inr, mul-le-mul_right, mul-pos, arith, leb→le, eqb→eq}
use Rattle.std.specs.Bool.{beq}
use Rattle.std.specs.Float.{nan, inf, fin}
use Rattle.std.specs.Float.Ieee.{up, down, eq, mul, of_int, of_bits}
use Rattle.std.specs.Float.Ieee.Fits.{down_pos}
use Rattle.ieee.specs.Same.{Same, is_zero, plus_zero, zeros_eq, T_true}
use Rattle.ieee_whole.specs.Whole.{mod4}
use Rattle.trig_spec.specs.declared.SinCos.{SinCos}
use Rattle.trig_spec.specs.Formula.{formula}
use Rattle.trig_spec.specs.Trig.{quarter_point, on_axis, quarter_numbers, at_quarters, sin_cos}

-- ---- at the nine points
abbrev OnAxes : List ℤ → Type 0
OnAxes [] = Unit
OnAxes (m ∷ ms) = (sin_cos (quarter_point m) ≡ on_axis (mod4 m)) × OnAxes ms

pub at_quarters_lem : OnAxes quarter_numbers
unfolding sin_cos mul of_int of_bits
at_quarters_lem = (refl, (refl, (refl, (refl, (refl, (refl, (refl, (refl, (refl, tt)))))))))

-- ---- at every other angle
-- x equals no quarter point whose number is in the list
abbrev pub Apart : Float → List ℤ → Type 0
Apart x [] = Unit
Apart x (m ∷ ms) = (eq x (quarter_point m) ≡ false) × Apart x ms

passed : (x : Float) (ms ns : List ℤ) (r : SinCos) → Apart x ms → at_quarters (ms ++ ns) x r ≡ at_quarters ns x r
unfolding at_quarters
passed x [] ns r a = refl
passed x (m ∷ ms) ns r a = ap (λ b. cond b (on_axis (mod4 m)) (at_quarters (ms ++ ns) x r)) a.0 ∙ passed x ms ns r a.1

pub elsewhere : (x : Float) → Apart x quarter_numbers → sin_cos x ≡ formula x
unfolding sin_cos
elsewhere x a = passed x quarter_numbers [] (formula x) a

-- ---- x = ±a / b with 4 a ≤ 3 b is none of them but 0
-- y is 1 or more in size, or not finite
abbrev far : Float → Bool
far nan = true
far (inf t) = true
far (fin t n d) = leb (down d) (n * up d)

apart : (s : Bool) (m : ℕ) (e : ℤ) (y : Float) → 4 * (m * up e) ≤ 3 * down e → T (far y) → eq (fin s m e) y ≡ false
unfolding eq
apart s m e nan h f = refl
apart s m e (inf t) h f = refl
apart s m e (fin t n d) h f =
    none (eqb (m * up e * down d) (n * up d * down e)) (beq s t || eqb (m * up e * down d) 0)
    (λ t. never (m * up e) (down e) (n * up d) (down d) (eqb→eq (m * up e * down d) (n * up d * down e) t) (leb→le (down d) (n * up d) f) h
    (mul-pos (down_pos e) (down_pos d)))
  where
    none : (u v : Bool) → (T u → ⊥) → (u && v) ≡ false
    none true v h = absurd (h tt)
    none false v h = refl

    never : (a b c d : ℕ) → a * d ≡ c * b → d ≤ c → 4 * a ≤ 3 * b → 0 < b * d → ⊥
    never a b c d p k h w = omega (arith, mul-le-mul_right b k, mul-le-mul_right d h)

pub at_small : (s : Bool) (m : ℕ) (e : ℤ) → 4 * (m * up e) ≤ 3 * down e
    → sin_cos (fin s m e) ≡ cond (eq (fin s m e) plus_zero) (on_axis 0) (formula (fin s m e))
unfolding sin_cos mul of_int of_bits
at_small s m e h =
    passed x (neg_ℤ (pos 4) ∷ neg_ℤ (pos 3) ∷ neg_ℤ (pos 2) ∷ neg_ℤ (pos 1) ∷ []) (pos 0 ∷ pos 1 ∷ pos 2 ∷ pos 3 ∷ pos 4 ∷ []) (formula x)
    (no (neg_ℤ (pos 4)) tt, (no (neg_ℤ (pos 3)) tt, (no (neg_ℤ (pos 2)) tt, (no (neg_ℤ (pos 1)) tt, tt))))
    ∙ ap (λ t. cond (eq x plus_zero) (on_axis 0) t) (passed x (pos 1 ∷ pos 2 ∷ pos 3 ∷ pos 4 ∷ []) [] (formula x)
    (no (pos 1) tt, (no (pos 2) tt, (no (pos 3) tt, (no (pos 4) tt, tt)))))
  where
    x : Float
    x = fin s m e

    no : (k : ℤ) → T (far (quarter_point k)) → eq (fin s m e) (quarter_point k) ≡ false
    no k f = apart s m e (quarter_point k) h f

-- ---- at a zero of either sign: (+0.0, 1)
pub at_zero : (x : Float) → T (is_zero x) → sin_cos x ≡ on_axis 0
at_zero nan z = absurd z
at_zero (inf s) z = absurd z
at_zero (fin s zero e) z =
    at_small s zero e (none (up e) (down e))
    ∙ ap (λ b. cond b (on_axis 0) (formula (fin s zero e))) (T_true (eq (fin s zero e) plus_zero) (zeros_eq (fin s zero e) plus_zero tt tt))
  where
    none : (u d : ℕ) → 4 * (0 * u) ≤ 3 * d
    none u d = omega arith
at_zero (fin s (suc m) e) z = absurd z

-- ---- what is not finite
pub at_nan : sin_cos nan ≡ record { sin = nan; cos = nan }
unfolding sin_cos
at_nan = refl

pub at_inf : (s : Bool) → sin_cos (inf s) ≡ record { sin = nan; cos = nan }
unfolding sin_cos mul of_int of_bits
at_inf s = refl

-- ---- the same number has the same sine and cosine, to the last bit
sin_cos_same : (x y : Float) → Same x y → sin_cos x ≡ sin_cos y
sin_cos_same x y (inl p) = ap sin_cos p
sin_cos_same x y (inr z) = at_zero x z.0 ∙ sym (at_zero y z.1)

pub sin_same : (x y : Float) → Same x y → (sin_cos x).sin ≡ (sin_cos y).sin
sin_same x y h = ap (λ (r : SinCos). r.sin) (sin_cos_same x y h)

pub cos_same : (x y : Float) → Same x y → (sin_cos x).cos ≡ (sin_cos y).cos
cos_same x y h = ap (λ (r : SinCos). r.cos) (sin_cos_same x y h)
