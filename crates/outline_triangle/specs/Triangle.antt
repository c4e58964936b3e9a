-- What `triangulate_polygon` in src/tessellate.rs asks of one triangle: cross, eps, and whether a corner keeps an ear from being clipped.
-- v is the corner list, two floats to a corner; o is the number of a corner. Assumes nothing.
use Rattle.std.specs.Prelude.{ℕ, Bool, not, ◌&&◌, ◌||◌, List, [], ◌∷◌, eqb, Float}
use Rattle.std.specs.Float.{binary64}
use Rattle.std.specs.Float.Ieee.{sub, mul, neg, le, of_bits}
use Rattle.ieee.specs.Number.{absolute, maximum}
use Rattle.outline.specs.declared.Point.{Point}
use Rattle.outline.specs.Corners.{point, same}
use Rattle.outline_triangle.specs.declared.Triangle.{Triangle}

-- the Rust's closure `cross`: (b - a) × (c - a)
unfoldable pub cross : Point → Point → Point → Float
cross a b c =
    sub binary64
    (mul binary64 (sub binary64 b.x a.x) (sub binary64 c.y a.y))
    (mul binary64 (sub binary64 b.y a.y) (sub binary64 c.x a.x))

-- the Rust's fold over the coordinates: the largest of m and their absolute values
unfoldable pub largest : Float → List Float → Float
largest m [] = m
largest m (x ∷ v) = largest (maximum m (absolute x)) v

-- the Rust's `scale`: the largest absolute value of a coordinate, 1e-300 at least
unfoldable pub scale : List Float → Float
unfolding largest
scale v = maximum (largest (of_bits binary64 0) v) (of_bits binary64 0x01a5_6e1f_c2f8_f359)

-- the Rust's `eps`: 1e-12 * scale * scale
unfoldable pub tolerance : List Float → Float
unfolding scale
tolerance v = mul binary64 (mul binary64 (of_bits binary64 0x3d71_9799_812d_ea11) (scale v)) (scale v)

-- the last line of the Rust's closure in `any`: cross(a, b, p) >= -eps && cross(b, c, p) >= -eps && cross(c, a, p) >= -eps
unfoldable pub in_triangle : Float → Point → Point → Point → Point → Bool
in_triangle eps a b c p = le (neg eps) (cross a b p) && (le (neg eps) (cross b c p) && le (neg eps) (cross c a p))

-- the Rust's closure in `any`: corner o is none of ip, ic and inx, its point equals none of a, b and c, and it is in their triangle
unfoldable pub blocks : List Float → Float → Triangle → ℕ → Bool
blocks v eps t o =
    not (eqb o t.ip || (eqb o t.ic || eqb o t.inx))
    && (not (same (point v o) t.a || (same (point v o) t.b || same (point v o) t.c))
    && in_triangle eps t.a t.b t.c (point v o))
