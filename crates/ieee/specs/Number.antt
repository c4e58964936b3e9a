-- Numbers in binary64: which number is a zero, when two floats are the same number, and what the functions of src/lib.rt return.
-- `Float` is lib.Ieee's: `nan`, `inf s`, or `fin s m e`, which is m * 2 ^ e, that is m * up e / down e, negative where s is true.
-- Zero is m = 0 and keeps its sign.
-- f64::is_finite is lib.Ieee.Scale's `finite`: true of every number, zeros of both signs too, and false of a NaN and of the two infinities.
use Rattle.std.specs.Prelude.{◌≡◌, zero, suc, Bool, true, false, cond, T, ◌⊎◌, pos, from_bits, is_nan}
use lib.Ieee.{Float, nan, inf, fin, binary64, lt}

-- x == 0.0 in Rust: a zero of either sign
abbrev pub is_zero : Float → Bool
is_zero nan = false
is_zero (inf s) = false
is_zero (fin s zero e) = true
is_zero (fin s (suc m) e) = false

-- +0.0
abbrev pub plus_zero : Float
plus_zero = fin false 0 (pos 0)

-- x + 0.0 in Rust, for every float that binary64 holds: -0.0 becomes +0.0, all else stays
abbrev pub canon : Float → Float
canon nan = nan
canon (inf s) = inf s
canon (fin s zero e) = plus_zero
canon (fin s (suc m) e) = fin s (suc m) e

-- the same number: equal, or two zeros of any signs. A NaN is the same as a NaN here, though NaN == NaN is false
abbrev pub Same : Float → Float → Type 0
Same x y = (x ≡ y) ⊎ (T (is_zero x) × T (is_zero y))

-- f64::min: the smaller; where one is a NaN, the other; of two zeros of different signs, which Rust leaves open, the first
unfoldable pub minimum : Float → Float → Float
minimum a b = cond (is_nan a) b (cond (lt b a) b a)

-- f64::max: the larger; where one is a NaN, the other; of two zeros of different signs, which Rust leaves open, the first
unfoldable pub maximum : Float → Float → Float
maximum a b = cond (is_nan a) b (cond (lt a b) b a)

-- f64::abs: the sign cleared, so -0.0 gives +0.0; a NaN gives a NaN
unfoldable pub absolute : Float → Float
absolute nan = nan
absolute (inf s) = inf false
absolute (fin s m e) = fin false m e

-- core::f64::consts::PI
abbrev pub pi : Float
pi = from_bits binary64 0x400921FB54442D18

-- core::f64::consts::TAU
abbrev pub tau : Float
tau = from_bits binary64 0x401921FB54442D18
