-- An angle that equals a quarter point equals the one whose number is the whole number nearest to x × H. So the code's one test stands for all nine.
-- Assumes nothing.
use mathlib.Core.Path.{◌≡◌, refl, sym, ap, ◌∙◌, subst}
use mathlib.Core.Logic.{◌⊎◌, inl, inr}
use mathlib.Core.List.{List, [], ◌∷◌}
use mathlib.Core.Bool.{Bool, true, false, ◌&&◌, cond}
use lib.Dec.{T}
use lib.IntN.{ℤ, pos}
use lib.Ieee.{Float, nan, inf, fin, binary64, mul, of_int, of_bits, neg, le, eq, fits}
use lib.Ieee.Fits.{mul-fits}
use Rattle.ieee.specs.Number.{is_zero, Same}
use Rattle.ieee.specs.Same.{eq→same, mul_zero_l, true_T}
use Rattle.ieee_whole.specs.Whole.{nearest_whole, mod4, whole_of}
use Rattle.ieee_whole.specs.WholeLaws.{nearest_zero, finite_whole}
use Rattle.ieee_whole.specs.declared.Whole.{Whole}
use Rattle.trig_spec.specs.declared.SinCos.{SinCos}
use Rattle.trig_spec.specs.Formula.{const_h, reduced, from_reduced, formula}
use Rattle.trig_spec.specs.Trig.{quarter_point, on_axis, quarter_numbers, at_quarters, sin_cos}
use Rattle.trig_law.specs.Series.{SinCosOf}
use Rattle.trig_law.proofs.Near.{sin_cos_of}
use Rattle.trig.specs.Quarter.{is_quarter_point}
use Rattle.trig.proofs.Laws.{mul_finite, composed}
use Rattle.trig.proofs.Small.{small, In, and_false, in_or_large}

-- the whole number that the code finds for an angle
abbrev whole_number_of : Float → ℤ
whole_number_of x = nearest_whole (mul binary64 x const_h)

test_is : (x : Float) (m : ℤ) → is_quarter_point x (of_int binary64 m) ≡ (small m && eq x (quarter_point m))
unfolding is_quarter_point quarter_point
test_is x m = refl

-- ---- each of the nine has its own number, which passes the test
abbrev Numbered : List ℤ → Type 0
Numbered [] = Unit
Numbered (m ∷ ms) = (whole_number_of (quarter_point m) ≡ m) × (small m ≡ true) × Numbered ms

all_numbered : Numbered quarter_numbers
unfolding quarter_point nearest_whole const_h mul of_int of_bits le neg
all_numbered =
    (refl, refl, (refl, refl, (refl, refl, (refl, refl, (refl, refl, (refl, refl, (refl, refl, (refl, refl, (refl, refl, tt)))))))))

-- and so has an angle that equals it
number_at : (x : Float) (m : ℤ) → T (fits binary64 x) → whole_number_of (quarter_point m) ≡ m → eq x (quarter_point m) ≡ true → whole_number_of x ≡ m
number_at x m t own h = go (eq→same binary64 x (quarter_point m) t (unfold quarter_point in mul-fits binary64 _ _) (true_T (eq x (quarter_point m)) h))
  where
    at_zero : (y : Float) → T (is_zero y) → whole_number_of y ≡ pos 0
    at_zero y z = nearest_zero (mul binary64 y const_h) (unfold const_h of_bits in mul_zero_l binary64 y const_h z tt)

    go : Same x (quarter_point m) → whole_number_of x ≡ m
    go (inl p) = ap whole_number_of p ∙ own
    go (inr z) = at_zero x z.0 ∙ sym (at_zero (quarter_point m) z.1) ∙ own

-- ---- one test for a list of points
module _ (x : Float) (t : T (fits binary64 x)) (r : SinCos) where
  q : ℤ
  q = whole_number_of x

  passes : Bool
  passes = small q && eq x (quarter_point q)

  found : ℤ → SinCos
  found k = cond (small k && eq x (quarter_point k)) (on_axis (mod4 k)) r

  hit : (m : ℤ) → whole_number_of (quarter_point m) ≡ m → small m ≡ true → eq x (quarter_point m) ≡ true → on_axis (mod4 m) ≡ found q
  unfolding q found
  hit m own s e = subst (λ k. on_axis (mod4 m) ≡ found k) (sym (number_at x m t own e)) (sym (λ i. cond (s i && e i) (on_axis (mod4 m)) r))

  missed : (m : ℤ) (ms : List ℤ) → In q (m ∷ ms) ⊎ (passes ≡ false) → eq x (quarter_point m) ≡ false → In q ms ⊎ (passes ≡ false)
  unfolding passes
  missed m ms (inl (inl p)) e = inr (and_false (small q) (eq x (quarter_point q)) (ap (λ k. eq x (quarter_point k)) p ∙ e))
  missed m ms (inl (inr i)) e = inl i
  missed m ms (inr h) e = inr h

  one_test : (ms : List ℤ) → Numbered ms → In q ms ⊎ (passes ≡ false) → at_quarters ms x r ≡ found q
  unfolding at_quarters passes found
  one_test [] n (inl i) = absurd i
  one_test [] n (inr h) = sym (ap (λ b. cond b (on_axis (mod4 q)) r) h)
  one_test (m ∷ ms) n k = go (eq x (quarter_point m)) (hit m n.0 n.1) (λ e. one_test ms n.2 (missed m ms k e))
    where
      go : (b : Bool) → (b ≡ true → on_axis (mod4 m) ≡ found q) → (b ≡ false → at_quarters ms x r ≡ found q)
          → cond b (on_axis (mod4 m)) (at_quarters ms x r) ≡ found q
      go true h l = h refl
      go false h l = l refl

  pub of_number : at_quarters quarter_numbers x r ≡ cond (is_quarter_point x (of_int binary64 (whole_number_of x))) (on_axis (mod4 (whole_number_of x))) r
  unfolding q passes found
  of_number = one_test quarter_numbers all_numbered (large (in_or_large q)) ∙ sym (ap (λ b. cond b (on_axis (mod4 q)) r) (test_is x q))
    where
      large : In q quarter_numbers ⊎ (small q ≡ false) → In q quarter_numbers ⊎ (passes ≡ false)
      large (inl i) = inl i
      large (inr h) = inr (ap (λ b. b && eq x (quarter_point q)) h)

-- ---- every float: what the code answers, by the whole number that it finds
pub by_test : (x : Float) → T (fits binary64 x)
    → cond (is_quarter_point x (whole_of (mul binary64 x const_h)).value) (on_axis (whole_of (mul binary64 x const_h)).mod_4) (formula x) ≡ sin_cos x
unfolding sin_cos
by_test nan t = unfold is_quarter_point whole_of mul of_int of_bits le neg in refl
by_test (inf false) t = unfold is_quarter_point whole_of mul of_int of_bits le neg in refl
by_test (inf true) t = unfold is_quarter_point whole_of mul of_int of_bits le neg in refl
by_test (fin s m e) t =
    ap (λ (w : Whole). cond (is_quarter_point (fin s m e) w.value) (on_axis w.mod_4) (formula (fin s m e)))
    (finite_whole (mul binary64 (fin s m e) const_h) (mul_finite s m e t))
    ∙ sym (of_number (fin s m e) t (formula (fin s m e)))

-- ---- so it meets its contract: w is the whole number, b whether it is x's, r the answer
pub answer : (x : Float) → T (fits binary64 x) → (w : Whole) (b : Bool) (r : SinCos) → w ≡ whole_of (mul binary64 x const_h) → b ≡ is_quarter_point x w.value
    → r ≡ cond b (on_axis w.mod_4) (from_reduced (reduced x w.value) w.mod_4) → SinCosOf x r
answer x t w b r p q h =
    subst (SinCosOf x) (sym (h ∙ ap (λ b. steps b w) q ∙ ap (λ v. steps (is_quarter_point x v.value) v) p ∙ reduced_is ∙ by_test x t)) (sin_cos_of x t)
  where
    steps : Bool → Whole → SinCos
    steps b v = cond b (on_axis v.mod_4) (from_reduced (reduced x v.value) v.mod_4)

    v : Whole
    v = whole_of (mul binary64 x const_h)

    reduced_is : steps (is_quarter_point x v.value) v ≡ cond (is_quarter_point x v.value) (on_axis v.mod_4) (formula x)
    reduced_is = ap (λ f. cond (is_quarter_point x v.value) (on_axis v.mod_4) f) (composed x t)
