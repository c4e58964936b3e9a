-- The fewest decimal digits that hold a number are its decimal text. Assumes nothing.
use Rattle.std.specs.Prelude.{◌≡◌, refl, Bool, true, false, List, [], ◌∷◌, ◌++◌, ℕ, zero, suc, ◌+◌, ◌-◌, ◌*◌, ◌/◌, ◌%◌, ◌^◌, ◌≤◌, ◌<◌, ltb}
use Rattle.std.proofs.Common.{ap, ◌∙◌, arith, mod-eq_of_lt, zero-lt-suc, lt-ltb, le-ltb, ltb-true, ltb-false}
use Rattle.std.proofs.Math.Numerals.{unary_clauses}
use Rattle.std.proofs.Math.Nat.{pow-le-pow_right}
use Rattle.io.specs.Digits.{hex_digit_ascii, last_digits, IsDigitCount}
use Rattle.slice_text.specs.Numbers.{decimal_within, decimal_of, hex_of, right_of}
use Rattle.slice_text.specs.Ascii.{ascii}

ten_pos : (k : ℕ) → 1 ≤ 10 ^ k
ten_pos zero = omega arith
ten_pos (suc k) = simp unary_clauses (omega (arith, ten_pos k))

-- a number below b^m has at most m digits, where no more are asked
pub fewest_most : (b m least n k : ℕ) → n < suc b ^ m → least ≤ m → IsDigitCount (suc b) least n k → k ≤ m
fewest_most b m least n k h l w = go (ltb m k) refl
  where
    go : (t : Bool) → ltb m k ≡ t → k ≤ m
    go true e =
        let over : m < k = ltb-true m k e in
        let up : m ≤ k - 1 = omega arith in
        absurd (omega (arith, w.2 (omega arith), pow-le-pow_right (zero-lt-suc b) up))
    go false e = ltb-false m k e

pub fewest_is : (f k n : ℕ) → k ≤ f → IsDigitCount 10 1 n k → last_digits 10 k n ≡ decimal_within f n
unfolding decimal_within
fewest_is f zero n h w = absurd (omega (arith, w.0))
fewest_is zero (suc k) n h w = absurd (omega arith)
fewest_is (suc f) (suc zero) n h w = simp (mod-eq_of_lt {n = n} {m = 10} w.1, lt-ltb n 10 w.1)
fewest_is (suc f) (suc (suc k)) n h w =
    let least : 10 ^ k * 10 ≤ n = simp unary_clauses at (w.2 (omega arith)) in
    let one : 1 ≤ 10 ^ k = ten_pos k in
    let most : n < 10 ^ k * 10 * 10 = simp unary_clauses at w.1 in
    let rest : IsDigitCount 10 1 (n / 10) (suc k) = (omega arith, simp unary_clauses (omega arith), λ q. simp unary_clauses (omega arith)) in
    ap (λ (s : List ℕ). s ++ (hex_digit_ascii (n % 10) ∷ [])) (fewest_is f (suc k) (n / 10) (omega arith) rest)
    ∙ simp (le-ltb n 10 (omega arith), lt-ltb (n % 10) 10 (omega arith))

pub sixteen : (k n : ℕ) → k ≡ 16 → last_digits 16 k n ≡ hex_of n
unfolding hex_of
sixteen k n e = ap (λ (j : ℕ). last_digits 16 j n) e

-- texts by computation
decimal_zero : decimal_of 0 ≡ ascii "0"
unfolding decimal_within
decimal_zero = refl

decimal_thousand : decimal_of 1024 ≡ ascii "1024"
unfolding decimal_within
decimal_thousand = refl

right_thousand : right_of 12 (decimal_of 1000) ≡ ascii "        1000"
unfolding decimal_within
right_thousand = refl
