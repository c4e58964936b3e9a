-- The bucket of a point. Definitions only.
use Rattle.std.specs.Prelude.{ℕ, ◌+◌, ◌*◌, ◌/◌, ◌%◌}
use Rattle.std.specs.Float.Ieee.{to_bits}
use Rattle.std.specs.Float.{binary64}
use Rattle.math.specs.declared.Vec3.{Vec3}

-- a number's halves, multiplied apart
unfoldable pub spread_of : ℕ → ℕ → ℕ → ℕ
spread_of bits low high = bits % 4294967296 * low + bits / 4294967296 * high

-- the middle bits of the product of a number's halves
unfoldable pub middle_of : ℕ → ℕ
middle_of t = t % 4294967296 * (t / 4294967296 + 1905421161) / 65536 % 4294967296

-- the bits of a point's coordinates in one number
unfoldable pub fold_of : Vec3 → ℕ
fold_of p =
    spread_of (to_bits binary64 p.x) 435250745 462664305
    + spread_of (to_bits binary64 p.y) 475705909 453967447
    + spread_of (to_bits binary64 p.z) 534814063 531086897

-- the bucket of a point: every bit of the coordinates reaches every bit of the 32 that are scaled to the places. Points of drawings spread over the
-- buckets. Its numbers are fixed and known, so it is no defence against coordinates that are chosen to collide: those make a look-up slow, and never wrong.
unfoldable pub bucket_of : ℕ → Vec3 → ℕ
bucket_of places p = middle_of (spread_of (fold_of p) 1721092421 1) * places / 4294967296
