-- What each case of the root says of a float x that binary64 holds, and of its pattern. Assumes nothing.
use mathlib.Core.Path.{◌≡◌, sym, ap, ◌∙◌, subst}
use mathlib.Core.Bool.{Bool, true, false, not}
use Prim.Native.Nat.{ℕ, ◌*◌, ◌/◌, ◌%◌, ◌^◌, ◌≤◌, ◌<◌}
use native.Mathlib.Omega.{arith}
use lib.Dec.{T, leb, eqb, eqb→eq, nleb→lt, T_not}
use lib.Ieee.{Float, binary64, minus, eq, lt, fits, to_bits}
use lib.Ieee.Scale.{finite}
use lib.Ieee.Fits.{eq→eqb}
use Rattle.ieee.specs.Number.{plus_zero}
use Rattle.root_case.specs.declared.RootCase.{RootCase}
use Rattle.root_case.specs.declared.RootCase.TheVariants.{Zero, NotFinite, Negative, Subnormal, EvenExponent, OddExponent}
use Rattle.root_case.specs.Case.{is_even, root_case}
use Rattle.root_case.proofs.Pattern.{first_of, field, pattern_first, case_first, by_pattern, parity}

-- what a case says of the five tests: its own is true, and of a number above zero those before it are false
abbrev Told : Bool → Bool → Bool → Bool → Bool → RootCase → Type 0
Told z n s l e Zero = T z
Told z n s l e NotFinite = T n
Told z n s l e Negative = T s
Told z n s l e Subnormal = T (not z) × T (not s) × T l
Told z n s l e EvenExponent = T (not n) × T (not s) × T (not l) × T e
Told z n s l e OddExponent = T (not n) × T (not s) × T (not l) × T (not e)

-- of the first that is true
told : (z n s l e : Bool) → Told z n s l e (first_of z n s l e)
told true n s l e = tt
told false true s l e = tt
told false false true l e = tt
told false false false true e = (tt, tt, tt)
told false false false false true = (tt, tt, tt, tt)
told false false false false false = (tt, tt, tt, tt)

-- of the tests of x
of_value : (x : Float) (k : RootCase) → root_case x ≡ k
    → Told (eq x plus_zero) (not (finite x)) (lt x plus_zero) (eqb (field (to_bits binary64 x)) 0) (is_even (minus (field (to_bits binary64 x)) 1023)) k
of_value x k h =
    let b = to_bits binary64 x in
    let z = eq x plus_zero in
    let n = not (finite x) in
    let s = lt x plus_zero in
    let l = eqb (field b) 0 in
    let e = is_even (minus (field b) 1023) in
    subst (λ (r : RootCase). Told z n s l e r) (sym (case_first x) ∙ h) (told z n s l e)

pub zero_is : (x : Float) → T (fits binary64 x) → root_case x ≡ Zero → T (eq x plus_zero)
zero_is x f h = of_value x Zero h

pub not_finite_is : (x : Float) → T (fits binary64 x) → root_case x ≡ NotFinite → T (not (finite x))
not_finite_is x f h = of_value x NotFinite h

pub negative_is : (x : Float) → T (fits binary64 x) → root_case x ≡ Negative → T (lt x plus_zero)
negative_is x f h = of_value x Negative h

-- of the tests of a pattern
abbrev ToldBy : ℕ → RootCase → Type 0
ToldBy b k = Told (eqb (b % 2 ^ 63) 0) (eqb (field b) 2047) (leb (2 ^ 63) b) (eqb (field b) 0) (is_even (minus (field b) 1023)) k

of_pattern : (x : Float) → T (fits binary64 x) → (k : RootCase) → root_case x ≡ k → ToldBy (to_bits binary64 x) k
of_pattern x f k h =
    let b = to_bits binary64 x in
    subst (λ (r : RootCase). ToldBy b r) (sym (by_pattern x f ∙ pattern_first b) ∙ h)
    (told (eqb (b % 2 ^ 63) 0) (eqb (field b) 2047) (leb (2 ^ 63) b) (eqb (field b) 0) (is_even (minus (field b) 1023)))

-- a test that is false, as a fact of the numbers
differ : (a b : ℕ) → T (not (eqb a b)) → a ≡ b → ⊥
differ a b h e = T_not (eqb a b) h (eq→eqb e)

-- no sign, a field of 0, and not all digits 0
subnormal_bounds : (b : ℕ) → ToldBy b Subnormal → (0 < b) × (b < 2 ^ 52)
subnormal_bounds b h =
    let z : b % 2 ^ 63 ≡ 0 → ⊥ = differ (b % 2 ^ 63) 0 h.0 in
    let s : b < 2 ^ 63 = nleb→lt (2 ^ 63) b h.1 in
    let l : field b ≡ 0 = eqb→eq (field b) 0 h.2 in
    (omega arith, omega arith)

pub subnormal_is : (x : Float) → T (fits binary64 x) → root_case x ≡ Subnormal → (0 < to_bits binary64 x) × (to_bits binary64 x < 2 ^ 52)
subnormal_is x f h = subnormal_bounds (to_bits binary64 x) (of_pattern x f Subnormal h)

-- no sign, and a field between 0 and 2047
normal_bounds : (b : ℕ) → T (not (eqb (field b) 2047)) → T (not (leb (2 ^ 63) b)) → T (not (eqb (field b) 0))
    → (2 ^ 52 ≤ b) × (b < 2047 * 2 ^ 52) × (b / 2 ^ 52 ≡ field b)
normal_bounds b h k g =
    let n : field b ≡ 2047 → ⊥ = differ (field b) 2047 h in
    let s : b < 2 ^ 63 = nleb→lt (2 ^ 63) b k in
    let l : field b ≡ 0 → ⊥ = differ (field b) 0 g in
    (omega arith, omega arith, omega arith)

-- the field is odd where the exponent is even
even_field : (y : ℕ) → T (is_even (minus y 1023)) → y % 2 ≡ 1
even_field y h = eqb→eq (y % 2) 1 (subst T (parity y) h)

odd_field : (y : ℕ) → T (not (is_even (minus y 1023))) → y % 2 ≡ 0
odd_field y h = let k : y % 2 ≡ 1 → ⊥ = differ (y % 2) 1 (subst (λ (t : Bool). T (not t)) (parity y) h) in omega arith

-- the two kinds of such patterns
even_bounds : (b : ℕ) → ToldBy b EvenExponent → (2 ^ 52 ≤ b) × (b < 2047 * 2 ^ 52) × (b / 2 ^ 52 % 2 ≡ 1)
even_bounds b h =
    let k = normal_bounds b h.0 h.1 h.2 in
    (k.0, k.1, ap (λ (y : ℕ). y % 2) k.2 ∙ even_field (field b) h.3)

odd_bounds : (b : ℕ) → ToldBy b OddExponent → (2 ^ 52 ≤ b) × (b < 2047 * 2 ^ 52) × (b / 2 ^ 52 % 2 ≡ 0)
odd_bounds b h =
    let k = normal_bounds b h.0 h.1 h.2 in
    (k.0, k.1, ap (λ (y : ℕ). y % 2) k.2 ∙ odd_field (field b) h.3)

pub even_is : (x : Float) → T (fits binary64 x) → root_case x ≡ EvenExponent
    → (2 ^ 52 ≤ to_bits binary64 x) × (to_bits binary64 x < 2047 * 2 ^ 52) × (to_bits binary64 x / 2 ^ 52 % 2 ≡ 1)
even_is x f h = even_bounds (to_bits binary64 x) (of_pattern x f EvenExponent h)

pub odd_is : (x : Float) → T (fits binary64 x) → root_case x ≡ OddExponent
    → (2 ^ 52 ≤ to_bits binary64 x) × (to_bits binary64 x < 2047 * 2 ^ 52) × (to_bits binary64 x / 2 ^ 52 % 2 ≡ 0)
odd_is x f h = odd_bounds (to_bits binary64 x) (of_pattern x f OddExponent h)
