-- The corners of an outline, as one list of floats, two to a corner: docs/SCOPE.md's lent corner lists. Assumes nothing.
use Rattle.std.specs.Prelude.{ℕ, ◌+◌, ◌*◌, Bool, ◌&&◌, List, get_or, Float}
use Rattle.std.specs.Float.{nan}
use Rattle.std.specs.Float.Ieee.{eq}
use Rattle.outline.specs.declared.Point.{Point}

-- the point of corner i: the Rust's v[i]
unfoldable pub point : List Float → ℕ → Point
point v i = record { x = get_or v (2 * i) nan; y = get_or v (2 * i + 1) nan }

-- the Rust's == on corners: equal as floats go, so -0.0 equals 0.0 and a NaN nothing
unfoldable pub same : Point → Point → Bool
same p q = eq p.x q.x && eq p.y q.y
