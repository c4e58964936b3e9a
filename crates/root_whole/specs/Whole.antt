-- The square root over whole numbers. Definitions only.
use Rattle.std.specs.Prelude.{ℕ, zero, suc, ◌+◌, ◌*◌, ◌/◌, cond, nat_le}
use Prim.Native.Nat.{compare}
use Rattle.std.specs.Float.Ieee.{size, nearest}

-- The next binary digit of a root: 2 * r + 1 where the square of that is at most n, and else 2 * r.
abbrev pub finer : ℕ → ℕ → ℕ
finer r n = cond (nat_le ((r * 2 + 1) * (r * 2 + 1)) n) (r * 2 + 1) (r * 2)

-- The whole part of the square root of an n below 4 ^ k, digit by digit.
unfoldable pub root : ℕ → ℕ → ℕ
root zero n = 0
root (suc k) n = finer (root k (n / 4)) n

-- The whole part of the square root of n: n is below 2 ^ size n.
unfoldable pub isqrt : ℕ → ℕ
unfolding root size
isqrt n = root (suc (size n) / 2) n

-- The square root of n, to the nearest whole number: n * 4 is compared with the square of twice the midpoint of q and q + 1, and is never equal to it.
unfoldable pub near_root : ℕ → ℕ
unfolding isqrt
near_root n = let q = isqrt n in nearest q (compare (n * 4) ((q * 2 + 1) * (q * 2 + 1)))
