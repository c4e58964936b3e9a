-- The case of a float is told by the fields of its pattern, with the same tests: the theorem `by_pattern`. All at binary64. Assumes nothing.
use mathlib.Core.Path.{◌≡◌, refl, sym, ap, ◌∙◌, subst}
use mathlib.Core.Bool.{Bool, true, false, not, cond}
use mathlib.Core.Logic.{◌⊎◌, inl, inr}
use Prim.Native.Nat.{ℕ, zero, suc, ◌+◌, ◌-◌, ◌*◌, ◌/◌, ◌%◌, ◌^◌, ◌≤◌, ◌<◌}
use native.Mathlib.Nat.{lt_irrefl, eq-zero-or-pos, zero-mul, mul-one, mul-pos}
use native.Mathlib.Omega.{arith}
use lib.Dec.{T, leb, eqb}
use lib.Pow.{pow_pos}
use lib.IntN.{pos, negsuc}
use lib.Ieee.{Float, nan, inf, fin, binary64, up, down, minus, below, level, eq, lt, fits, odd, of_fields, of_bits, to_bits}
use lib.Ieee.Fits.{down_pos}
use lib.Ieee.Bits.{of_bits-to_bits}
use lib.Ieee.Exact.{HasValue, odd_sign}
use lib.Ieee.Scale.{finite}
use borrow.Author.Tests.{lt-ltb, le-ltb, leb-true, leb-false, eqb-true, eqb-false, eq-eqb, ne_eqb}
use Rattle.ieee.specs.Number.{plus_zero}
use Rattle.ieee.specs.Zero.{no_size}
use Rattle.root_case.specs.declared.RootCase.{RootCase}
use Rattle.root_case.specs.declared.RootCase.TheVariants.{Zero, NotFinite, Negative, Subnormal, EvenExponent, OddExponent}
use Rattle.root_case.specs.Case.{is_even, root_case}

-- ---- the six cases by five tests

-- the case of the first test that is true, of: zero, not finite, negative, subnormal, even
abbrev pub first_of : Bool → Bool → Bool → Bool → Bool → RootCase
first_of z n s l e = cond z Zero (cond n NotFinite (cond s Negative (cond l Subnormal (cond e EvenExponent OddExponent))))

-- the exponent's field of a pattern
abbrev pub field : ℕ → ℕ
field b = b % 2 ^ 63 / 2 ^ 52

-- the last two tests are of the field y
abbrev pub by_field : Bool → Bool → Bool → ℕ → RootCase
by_field z n s y = first_of z n s (eqb y 0) (is_even (minus y 1023))

-- the case of a pattern of 64 digits
unfoldable pub pattern_case : ℕ → RootCase
pattern_case b = by_field (eqb (b % 2 ^ 63) 0) (eqb (field b) 2047) (leb (2 ^ 63) b) (field b)

pub pattern_first : (b : ℕ) → pattern_case b ≡ by_field (eqb (b % 2 ^ 63) 0) (eqb (field b) 2047) (leb (2 ^ 63) b) (field b)
unfolding pattern_case
pattern_first b = refl

-- with the tests of a float v in place of the first three of b
abbrev value_case : Float → ℕ → RootCase
value_case v b = by_field (eq v plus_zero) (not (finite v)) (lt v plus_zero) (field b)

-- a float's case is told by its own tests and its field
pub case_first : (x : Float) → root_case x ≡ value_case x (to_bits binary64 x)
unfolding root_case
case_first x = refl

-- ---- the tests of a number that is not zero

-- ±a is not ±0
no_level : (s t : Bool) (a b : ℕ) → 0 < a → b ≡ 0 → level s a t b ≡ false
no_level s t a b h e = rw (ne_eqb a b (omega arith)) refl

-- ±a is below 0 where it is negative
sign_below : (s : Bool) (a b : ℕ) → 0 < a → b ≡ 0 → below s a false b ≡ s
sign_below true a b h e = lt-ltb 0 (a + b) (omega arith)
sign_below false a b h e = le-ltb a b (omega arith)

-- a product above 0 has no factor 0
no_zero : (m c : ℕ) → m ≡ 0 → 0 < m * c → ⊥
no_zero m c e h = lt_irrefl 0 (subst (λ (y : ℕ). 0 < y) (ap (λ (y : ℕ). y * c) e ∙ zero-mul c) h)

-- v has the sign s, and is neither zero nor an infinity nor a NaN
abbrev Number : Float → Bool → Type 0
Number v s = (eq v plus_zero ≡ false) × (finite v ≡ true) × (lt v plus_zero ≡ s)

-- what equals a product above 0 has a factor above 0
size_pos : (m a c d : ℕ) → 0 < a → 0 < d → m * c ≡ a * d → 0 < m
size_pos m a c d p q e = go (eq-zero-or-pos m)
  where
    go : (m ≡ 0) ⊎ (0 < m) → 0 < m
    go (inl z) = absurd (no_zero m c z (subst (λ (y : ℕ). 0 < y) (sym e) (mul-pos p q)))
    go (inr h) = h

-- by its sign and size
number : (v : Float) (s : Bool) (a c : ℕ) → 0 < a → HasValue v s a c → Number v s
unfolding eq lt
number nan s a c p h = absurd h
number (inf t) s a c p h = absurd h
number (fin t m e) s a c p h =
    let k : 0 < m * up e * 1 = subst (λ (y : ℕ). 0 < y) (sym (mul-one (m * up e))) (size_pos (m * up e) a c (down e) p (down_pos e) h.1) in
    let o : 0 * up (pos 0) * down e ≡ 0 = no_size (pos 0) e in (
      no_level t false (m * up e * 1) (0 * up (pos 0) * down e) k o,
      refl,
      sign_below t (m * up e * 1) (0 * up (pos 0) * down e) k o ∙ h.0,
    )

-- ---- what the fields are read as

pub of_bits_is : (b : ℕ) → of_bits binary64 b ≡ of_fields binary64 (leb (2 ^ 63) b) (field b) (b % 2 ^ 52)
unfolding of_bits
of_bits_is b = refl

-- a zero of either sign
zero_field : (s : Bool) → eq (of_fields binary64 s 0 0) plus_zero ≡ true
unfolding of_fields eq
zero_field true = refl
zero_field false = refl

-- an infinity or a NaN
top_field : (s : Bool) (t : ℕ) → (eq (of_fields binary64 s 2047 t) plus_zero ≡ false) × (finite (of_fields binary64 s 2047 t) ≡ false)
unfolding of_fields eq
top_field s t = go (eqb t 0)
  where
    go : (z : Bool) → (eq (cond z (inf s) nan) plus_zero ≡ false) × (finite (cond z (inf s) nan) ≡ false)
    go true = (refl, refl)
    go false = (refl, refl)

-- a field of 0: no leading digit
pub low_field : (s : Bool) (t : ℕ) → of_fields binary64 s 0 t ≡ odd 53 s t 0 1074
unfolding of_fields
low_field s t = refl

-- a field between: the leading digit is 2 ^ 52
pub normal_field : (s : Bool) (x t : ℕ) → (suc x ≡ 2047 → ⊥) → of_fields binary64 s (suc x) t ≡ odd 53 s (2 ^ 52 + t) x 1074
unfolding of_fields
normal_field s x t h = ap (λ (b : Bool). cond b (cond (eqb t 0) (inf s) nan) (odd 53 s (2 ^ 52 + t) x 1074)) (ne_eqb (suc x) 2047 h)

-- q * 2 ^ k of the least subnormal, q above 0
odd_number : (s : Bool) (q k : ℕ) → 0 < q → Number (odd 53 s q k 1074) s
odd_number s q k h = number (odd 53 s q k 1074) s (q * 2 ^ k) (2 ^ 1074) (mul-pos h (pow_pos k)) (odd_sign 53 s q k 1074)

-- any other fields: a number that is not zero
number_field : (s : Bool) (x t : ℕ) → (x ≡ 2047 → ⊥) → (x ≡ 0 → 0 < t) → Number (of_fields binary64 s x t) s
number_field s zero t h k = subst (λ (v : Float). Number v s) (sym (low_field s t)) (odd_number s t 0 (k refl))
number_field s (suc x) t h k = subst (λ (v : Float). Number v s) (sym (normal_field s x t h)) (odd_number s (2 ^ 52 + t) x (omega arith))

-- ---- the tests of a value are those of its pattern

zero_tests : (b : ℕ) → b % 2 ^ 63 ≡ 0 → eq (of_bits binary64 b) plus_zero ≡ true
zero_tests b h =
    let x : field b ≡ 0 = omega arith in
    let t : b % 2 ^ 52 ≡ 0 = omega arith in
    ap (λ (v : Float). eq v plus_zero) (of_bits_is b ∙ (λ i. of_fields binary64 (leb (2 ^ 63) b) (x i) (t i))) ∙ zero_field (leb (2 ^ 63) b)

top_tests : (b : ℕ) → field b ≡ 2047 → (eq (of_bits binary64 b) plus_zero ≡ false) × (finite (of_bits binary64 b) ≡ false)
top_tests b h =
    subst (λ (v : Float). (eq v plus_zero ≡ false) × (finite v ≡ false))
    (sym (of_bits_is b ∙ ap (λ (x : ℕ). of_fields binary64 (leb (2 ^ 63) b) x (b % 2 ^ 52)) h))
    (top_field (leb (2 ^ 63) b) (b % 2 ^ 52))

number_tests : (b : ℕ) → (b % 2 ^ 63 ≡ 0 → ⊥) → (field b ≡ 2047 → ⊥) → Number (of_bits binary64 b) (leb (2 ^ 63) b)
number_tests b h k =
    subst (λ (v : Float). Number v (leb (2 ^ 63) b)) (sym (of_bits_is b)) (number_field (leb (2 ^ 63) b) (field b) (b % 2 ^ 52) k (λ e. omega arith))

-- by cases on the first two tests
value_pattern : (b : ℕ) → value_case (of_bits binary64 b) b ≡ pattern_case b
unfolding pattern_case
value_pattern b = go (eqb (b % 2 ^ 63) 0) (eqb (field b) 2047) refl refl
  where
    v : Float
    v = of_bits binary64 b

    y : ℕ
    y = field b

    go : (z n : Bool) → eqb (b % 2 ^ 63) 0 ≡ z → eqb y 2047 ≡ n → value_case v b ≡ by_field z n (leb (2 ^ 63) b) y
    go true n p q = ap (λ (t : Bool). by_field t (not (finite v)) (lt v plus_zero) y) (zero_tests b (eqb-true (b % 2 ^ 63) 0 p))
    go false true p q =
        let h = top_tests b (eqb-true y 2047 q) in
        λ i. by_field (h.0 i) (not (h.1 i)) (lt v plus_zero) y
    go false false p q =
        let h = number_tests b (eqb-false (b % 2 ^ 63) 0 p) (eqb-false y 2047 q) in
        λ i. by_field (h.0 i) (not (h.1 i)) (h.2 i) y

-- the case of a float is that of its pattern
pub by_pattern : (x : Float) → T (fits binary64 x) → root_case x ≡ pattern_case (to_bits binary64 x)
by_pattern x h =
    let b = to_bits binary64 x in
    case_first x ∙ ap (λ (v : Float). value_case v b) (sym (of_bits-to_bits binary64 x h)) ∙ value_pattern b

-- the case by the tests' results
pub by_tests : (x : Float) (b : ℕ) → fits binary64 x ≡ true → b ≡ to_bits binary64 x → {z n s l e : Bool}
    → eqb (b % 2 ^ 63) 0 ≡ z → eqb (field b) 2047 ≡ n → leb (2 ^ 63) b ≡ s → eqb (field b) 0 ≡ l → is_even (minus (field b) 1023) ≡ e
    → first_of z n s l e ≡ root_case x
by_tests x b h k p q r u v =
    sym (by_pattern x (subst T (sym h) tt) ∙ ap pattern_case (sym k) ∙ pattern_first b ∙ (λ i. first_of (p i) (q i) (r i) (u i) (v i)))

-- ---- the exponent is even where its field is odd, since the bias is odd

-- two equations that follow from each other have one test
same_eqb : (a b c d : ℕ) → (a ≡ b → c ≡ d) → (c ≡ d → a ≡ b) → eqb a b ≡ eqb c d
same_eqb a b c d f g = go (eqb a b) refl
  where
    go : (t : Bool) → eqb a b ≡ t → t ≡ eqb c d
    go true p = sym (eq-eqb c d (f (eqb-true a b p)))
    go false p = sym (ne_eqb c d (λ q. eqb-false a b p (g q)))

pub parity : (x : ℕ) → is_even (minus x 1023) ≡ eqb (x % 2) 1
parity x = go (leb 1023 x) refl
  where
    go : (t : Bool) → leb 1023 x ≡ t → is_even (cond t (pos (x - 1023)) (negsuc (1023 - suc x))) ≡ eqb (x % 2) 1
    go true p = let h : 1023 ≤ x = leb-true 1023 x p in same_eqb ((x - 1023) % 2) 0 (x % 2) 1 (λ e. omega arith) (λ e. omega arith)
    go false p = let h : x < 1023 = leb-false 1023 x p in same_eqb ((1023 - suc x) % 2) 1 (x % 2) 1 (λ e. omega arith) (λ e. omega arith)
