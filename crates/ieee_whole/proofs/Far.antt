-- `nearest_whole` from 2 ^ 52 on, either way: the float is whole already, and from 2 ^ 63 on a multiple of 4. Assumes nothing.
use Rattle.std.proofs.Common.{◌≡◌, ℕ, zero, suc, ◌+◌, ◌-◌, ◌*◌, ◌/◌, ◌%◌, ◌^◌, ◌<◌, ◌≤◌, Bool, true, false, T, ℤ, pos, negsuc, neg_ℤ, sym, refl, ap, ◌∙◌, inl, true≢false, lt_of_lt_of_le, lt_irrefl, mul_assoc, mul_comm, div-one, arith, pow_pos, ltb-false, ltb-true}
use mathlib.Core.Bool.{false≢true}
use native.Mathlib.Nat.{mul-mod_left, pow-succ'}
use lib.Ieee.{Float, nan, inf, fin, binary64, up, down, round, neg, lt, to_unsigned, of_int, fits}
use lib.Ieee.Fits.{down_pos, round-fits}
use lib.Ieee.Back.{whole_unique}
use Rattle.ieee.specs.Number.{plus_zero}
use Rattle.ieee.specs.Scaled.{held, itself}
use Rattle.ieee_whole.specs.Whole.{half_up, signed, mod4, whole_of}
use Rattle.ieee_whole.specs.WholeLaws.{mod4_neg}
use Rattle.ieee_whole.proofs.Cut.{Cut, cut, never_below, plain<, plain≤, cut_off}
use Rattle.ieee_whole.proofs.Near.{whole}

pub half_up_one : (a : ℕ) → half_up a 1 ≡ a
unfolding half_up
half_up_one a = omega arith

mod4_zero : (s : Bool) (n : ℕ) → n % 4 ≡ 0 → mod4 (signed s n) ≡ 0
unfolding mod4
mod4_zero false n h = h
mod4_zero true n h = mod4_neg n ∙ ap (λ (x : ℕ). (4 - x) % 4) h

never_above : (M D : ℕ) → M * 1 + 1 * 4503599627370496 * D ≤ 0 → 0 < D → ⊥
never_above M D h g = omega arith

of_int_signed : (s : Bool) (n : ℕ) → 0 < n → of_int binary64 (signed s n) ≡ round binary64 s n 1
unfolding of_int
of_int_signed s zero h = absurd (lt_irrefl 0 h)
of_int_signed false (suc n) h = refl
of_int_signed true (suc n) h = refl

far_value : (s : Bool) (m k : ℕ) → T (fits binary64 (fin s m (pos k))) → 0 < m * 2 ^ k → of_int binary64 (signed s (m * 2 ^ k)) ≡ fin s m (pos k)
far_value s m k p h =
    of_int_signed s (m * 2 ^ k) h
    ∙ whole_unique binary64 (round binary64 s (m * 2 ^ k) 1) (fin s m (pos k)) s (m * 2 ^ k) (round-fits binary64 s (m * 2 ^ k) 1) p (itself binary64 s m (pos k) p) (refl, refl)

-- what `whole_of` is there
far : (s : Bool) (m : ℕ) (e : ℤ) → T (fits binary64 (fin s m e)) → 2 ^ 52 * down e ≤ m * up e
    → whole_of (fin s m e) ≡ whole (fin s m e) (mod4 (signed s (m * up e / down e)))
unfolding whole_of
far s m (negsuc k) p h = absurd (cut_off m k (held binary64 s m (negsuc k) p).digits h)
far s m (pos j) p h =
    ap (λ (x : ℕ). whole (of_int binary64 (signed s x)) (mod4 (signed s x))) (half_up_one (m * 2 ^ j))
    ∙ ap (λ (v : Float). whole v (mod4 (signed s (m * 2 ^ j)))) (far_value s m j p (lt_of_lt_of_le (pow_pos 52) h))
    ∙ ap (λ (x : ℕ). whole (fin s m (pos j)) (mod4 (signed s x))) (sym (div-one (m * 2 ^ j)))

-- from 2 ^ 63 on it is a multiple of 4
four : (m k : ℕ) → m < 2 ^ 53 → 2 ^ 63 ≤ m * 2 ^ k → m * 2 ^ k % 4 ≡ 0
four m zero h g = absurd (clash m h g)
  where
    clash : (m : ℕ) → m < 9007199254740992 → 9223372036854775808 ≤ m * 1 → ⊥
    clash m h g = omega arith
four m (suc zero) h g = absurd (clash m h g)
  where
    clash : (m : ℕ) → m < 9007199254740992 → 9223372036854775808 ≤ m * 2 → ⊥
    clash m h g = omega arith
four m (suc (suc k)) h g =
    ap (λ (x : ℕ). m * x % 4) (pow-succ' 2 (suc k) ∙ ap (λ (x : ℕ). 2 * x) (pow-succ' 2 k) ∙ sym (mul_assoc 2 2 (2 ^ k)) ∙ mul_comm 4 (2 ^ k))
    ∙ ap (λ (x : ℕ). x % 4) (sym (mul_assoc m (2 ^ k) 4))
    ∙ mul-mod_left (m * 2 ^ k) 4

less : (D M : ℕ) → 9223372036854775808 * D ≤ M → 4503599627370496 * D ≤ M
less D M h = omega arith

huge : (s : Bool) (m : ℕ) (e : ℤ) → T (fits binary64 (fin s m e)) → 2 ^ 63 * down e ≤ m * up e → whole (fin s m e) 0 ≡ whole_of (fin s m e)
huge s m (negsuc k) p h = absurd (cut_off m k (held binary64 s m (negsuc k) p).digits (less (2 ^ suc k) (m * 1) h))
huge s m (pos j) p h =
    sym (far s m (pos j) p (less 1 (m * 2 ^ j) h)
    ∙ ap (λ (n : ℕ). whole (fin s m (pos j)) n) (mod4_zero s (m * 2 ^ j / 1) (ap (λ (x : ℕ). x % 4) (div-one (m * 2 ^ j)) ∙ four m j (held binary64 s m (pos j) p).digits h)))

wide : (M D : ℕ) → M < 9223372036854775808 * D → M < 18446744073709551616 * D
wide M D h = omega arith

-- the ways: below -2 ^ 52 and above -2 ^ 63
pub mid_neg_cut : (p : Float) → lt p plus_zero ≡ true → lt (fin true 1 (pos 63)) p ≡ true → Cut (neg p) (to_unsigned 64 (neg p))
unfolding lt neg
mid_neg_cut nan g h = absurd (false≢true g)
mid_neg_cut (inf false) g h = absurd (false≢true g)
mid_neg_cut (inf true) g h = absurd (false≢true h)
mid_neg_cut (fin false m e) g h = absurd (never_below (m * up e) (down e) (ltb-true (m * up e * 1) (0 * 1 * down e) g))
mid_neg_cut (fin true m e) g h =
    let k = cut (fin false m e) false (m * up e) (down e) (down_pos e) (refl, refl) (inl refl)
    (wide (m * up e) (down e) (plain< (2 ^ 63) (m * up e) (down e) (ltb-true (m * up e * 1) (1 * 2 ^ 63 * down e) h))) in
    (k.0, k.1, refl)

pub mid_neg : (p : Float) (u : ℕ) → T (fits binary64 p) → lt p plus_zero ≡ true → lt (fin true 1 (pos 52)) p ≡ false → lt (fin true 1 (pos 63)) p ≡ true
    → u ≡ to_unsigned 64 (neg p) → whole p (mod4 (neg_ℤ (pos u))) ≡ whole_of p
unfolding lt neg
mid_neg nan u p g i h k = absurd (false≢true g)
mid_neg (inf false) u p g i h k = absurd (false≢true g)
mid_neg (inf true) u p g i h k = absurd (false≢true h)
mid_neg (fin false m e) u p g i h k = absurd (never_below (m * up e) (down e) (ltb-true (m * up e * 1) (0 * 1 * down e) g))
mid_neg (fin true m e) u p g i h k =
    let b = cut (fin false m e) false (m * up e) (down e) (down_pos e) (refl, refl) (inl refl)
    (wide (m * up e) (down e) (plain< (2 ^ 63) (m * up e) (down e) (ltb-true (m * up e * 1) (1 * 2 ^ 63 * down e) h))) in
    ap (λ (x : ℕ). whole (fin true m e) (mod4 (neg_ℤ (pos x)))) (k ∙ b.2)
    ∙ sym (far true m e p (plain≤ (2 ^ 52) (m * up e) (down e) (ltb-false (m * up e * 1) (1 * 2 ^ 52 * down e) i)))

pub huge_neg : (p : Float) → T (fits binary64 p) → lt p plus_zero ≡ true → lt (fin true 1 (pos 63)) p ≡ false → whole p 0 ≡ whole_of p
unfolding lt
huge_neg nan p g h = absurd (false≢true g)
huge_neg (inf false) p g h = absurd (false≢true g)
huge_neg (inf true) p g h = unfold whole_of in refl
huge_neg (fin false m e) p g h = absurd (never_below (m * up e) (down e) (ltb-true (m * up e * 1) (0 * 1 * down e) g))
huge_neg (fin true m e) p g h = huge true m e p (plain≤ (2 ^ 63) (m * up e) (down e) (ltb-false (m * up e * 1) (1 * 2 ^ 63 * down e) h))

-- at least 2 ^ 52, and below 2 ^ 63
pub mid_pos_cut : (p : Float) → lt p (fin false 1 (pos 52)) ≡ false → lt p (fin false 1 (pos 63)) ≡ true → Cut p (to_unsigned 64 p)
unfolding lt
mid_pos_cut nan g h = absurd (false≢true h)
mid_pos_cut (inf false) g h = absurd (false≢true h)
mid_pos_cut (inf true) g h = absurd (true≢false g)
mid_pos_cut (fin true m e) g h = absurd (never_above (m * up e) (down e) (ltb-false 0 (m * up e * 1 + 1 * 2 ^ 52 * down e) g) (down_pos e))
mid_pos_cut (fin false m e) g h =
    let k = cut (fin false m e) false (m * up e) (down e) (down_pos e) (refl, refl) (inl refl)
    (wide (m * up e) (down e) (plain< (2 ^ 63) (m * up e) (down e) (ltb-true (m * up e * 1) (1 * 2 ^ 63 * down e) h))) in
    (k.0, k.1, refl)

pub mid_pos : (p : Float) (u : ℕ) → T (fits binary64 p) → lt p (fin false 1 (pos 52)) ≡ false → lt p (fin false 1 (pos 63)) ≡ true
    → u ≡ to_unsigned 64 p → whole p (u % 4) ≡ whole_of p
unfolding lt mod4
mid_pos nan u p g h k = absurd (false≢true h)
mid_pos (inf false) u p g h k = absurd (false≢true h)
mid_pos (inf true) u p g h k = absurd (true≢false g)
mid_pos (fin true m e) u p g h k = absurd (never_above (m * up e) (down e) (ltb-false 0 (m * up e * 1 + 1 * 2 ^ 52 * down e) g) (down_pos e))
mid_pos (fin false m e) u p g h k =
    let b = cut (fin false m e) false (m * up e) (down e) (down_pos e) (refl, refl) (inl refl)
    (wide (m * up e) (down e) (plain< (2 ^ 63) (m * up e) (down e) (ltb-true (m * up e * 1) (1 * 2 ^ 63 * down e) h))) in
    ap (λ (x : ℕ). whole (fin false m e) (x % 4)) (k ∙ b.2)
    ∙ sym (far false m e p (plain≤ (2 ^ 52) (m * up e) (down e) (ltb-false (m * up e * 1) (1 * 2 ^ 52 * down e) g)))

pub huge_pos : (p : Float) → T (fits binary64 p) → lt p plus_zero ≡ false → lt p (fin false 1 (pos 63)) ≡ false → whole p 0 ≡ whole_of p
unfolding lt
huge_pos nan p g h = unfold whole_of in refl
huge_pos (inf false) p g h = unfold whole_of in refl
huge_pos (inf true) p g h = absurd (true≢false g)
huge_pos (fin true m e) p g h = absurd (never_above' (m * up e) (down e) (ltb-false 0 (m * up e * 1 + 1 * 2 ^ 63 * down e) h) (down_pos e))
  where
    never_above' : (M D : ℕ) → M * 1 + 1 * 9223372036854775808 * D ≤ 0 → 0 < D → ⊥
    never_above' M D h g = omega arith
huge_pos (fin false m e) p g h = huge false m e p (plain≤ (2 ^ 63) (m * up e) (down e) (ltb-false (m * up e * 1) (1 * 2 ^ 63 * down e) h))
