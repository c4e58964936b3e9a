-- What makes r the correctly rounded square root of x (IEEE 754, roundTiesToEven), said by comparing whole-number squares. Definitions only.
use Rattle.std.specs.Prelude.{ℕ, ◌+◌, ◌*◌, ◌<◌, ◌≡◌, Bool, true, false, T, Float}
use Rattle.std.specs.Float.{nan, inf, fin, Format, binary64}
use Rattle.std.specs.Float.Ieee.{up, down, fits, lt, eq}
use Rattle.ieee.specs.Number.{plus_zero}
use Rattle.root.specs.Sqrt.{sqrt}
use Rattle.root.specs.ByCase.{ByCase}

-- A number that is not below zero, as num / den.
pub record Fraction : Type 0 where
  pub num : ℕ
  pub den : ℕ

-- The exact size of a finite value.
abbrev pub size_of : Float → Fraction
size_of (fin s m e) = record { num = m * up e; den = down e }
size_of nan = record { num = 0; den = 1 }
size_of (inf s) = record { num = 0; den = 1 }

-- p is below q.
abbrev pub Below : Fraction → Fraction → Type 0
Below p q = p.num * q.den < q.num * p.den

-- The square of the mean of p and q.
abbrev pub square_of_mean : Fraction → Fraction → Fraction
square_of_mean p q =
    let n = p.num * q.den + q.num * p.den in
    let d = 2 * (p.den * q.den) in
    record { num = n * n; den = d * d }

-- Finite and not below zero. Of the two zeros, which are one number, this takes the positive.
abbrev pub not_below_zero : Float → Bool
not_below_zero (fin false m e) = true
not_below_zero (fin true m e) = false
not_below_zero nan = false
not_below_zero (inf s) = false

-- y times y is x exactly, for x and y that are finite and not below zero.
abbrev pub SquareOf : Float → Float → Type 0
SquareOf y x = (size_of y).num * (size_of y).num * (size_of x).den ≡ (size_of x).num * ((size_of y).den * (size_of y).den)

-- r is the value of the format f that is nearest to the square root of x, which is finite and above zero.
-- A value y above r is farther from the root exactly where the root is below the mean of r and y, and so where x is below the square of that mean.
-- A value y below r is farther exactly where x is above that square.
-- Both are strict, for every other y: there are no ties, and no second nearest value. A value below zero is farther than zero is, and r is not.
pub record Nearest (f : Format) (x r : Float) : Type 0 where
  pub held : T (fits f r)
  pub finite_not_below_zero : T (not_below_zero r)
  pub than_above : (y : Float) → T (fits f y) → T (not_below_zero y) → Below (size_of r) (size_of y) → Below (size_of x) (square_of_mean (size_of r) (size_of y))
  pub than_below : (y : Float) → T (fits f y) → T (not_below_zero y) → Below (size_of y) (size_of r) → Below (square_of_mean (size_of r) (size_of y)) (size_of x)

-- r is IEEE 754's squareRoot of x in the format f. `negative` has minus infinity too, and `zero` says that minus zero gives minus zero.
pub record CorrectlyRounded (f : Format) (x r : Float) : Type 0 where
  pub zero : T (eq x plus_zero) → r ≡ x
  pub not_a_number : x ≡ nan → r ≡ nan
  pub infinite : x ≡ inf false → r ≡ inf false
  pub negative : T (lt x plus_zero) → r ≡ nan
  pub positive : T (lt plus_zero x) → T (lt x (inf false)) → Nearest f x r

-- What the function `sqrt` ensures of its result r: the root as Sqrt.antt works it out, for every case the equation of that case, and that it is IEEE 754's.
-- So where x is finite with a plus sign, and y times y is x exactly for such a y of the format, r is y.
pub record Root (x r : Float) : Type 0 where
  pub value : r ≡ sqrt binary64 x
  pub by_case : ByCase x r
  pub rounded : CorrectlyRounded binary64 x r
  pub exact : (y : Float) → T (not_below_zero x) → T (fits binary64 y) → T (not_below_zero y) → SquareOf y x → r ≡ y
