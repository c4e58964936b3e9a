-- `signed_area` of src/tessellate.rs, with the sum started at +0.0 (docs/SCOPE.md). Assumes nothing.
use Rattle.std.specs.Prelude.{ℕ, zero, suc, ◌+◌, ◌/◌, ◌%◌, List, length, Float}
use Rattle.std.specs.Float.{binary64}
use Rattle.std.specs.Float.Ieee.{add, sub, mul, div, of_bits}
use Rattle.outline.specs.declared.Point.{Point}
use Rattle.outline.specs.Corners.{point}

-- the Rust's a.0 * b.1 - b.0 * a.1
unfoldable pub wedge : Point → Point → Float
wedge a b = sub binary64 (mul binary64 a.x b.y) (mul binary64 b.x a.y)

-- s, and added to it the wedges of d sides of n, from corner i on
unfoldable pub sides : List Float → ℕ → Float → ℕ → ℕ → Float
sides v n s i zero = s
sides v n s i (suc d) = sides v n (add binary64 s (wedge (point v i) (point v ((i + 1) % n)))) (suc i) d

-- `signed_area`: the sum over every side, divided by 2
unfoldable pub signed_area : List Float → Float
unfolding sides
signed_area v = div binary64 (sides v (length v / 2) (of_bits binary64 0) 0 (length v / 2)) (of_bits binary64 0x4000_0000_0000_0000)
