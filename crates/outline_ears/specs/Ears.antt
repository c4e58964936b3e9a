-- The searches of `triangulate_polygon` in src/tessellate.rs: the first unblocked ear, the first flat corner.
-- v is the corner list, two floats to a corner; idx is the Rust's idx, the numbers of the corners that remain, in order; k is an index of idx. Assumes nothing.
use Rattle.std.specs.Prelude.{ℕ, zero, suc, ◌+◌, ◌-◌, ◌%◌, Bool, false, cond, not, ◌&&◌, ◌||◌, List, [], ◌∷◌, length, get_or, Option, Some, None, Float}
use Rattle.std.specs.Float.Ieee.{le}
use Rattle.ieee.specs.Number.{absolute}
use Rattle.outline.specs.Corners.{point}
use Rattle.outline_triangle.specs.declared.Triangle.{Triangle}
use Rattle.outline_triangle.specs.Triangle.{cross, blocks}

-- the Rust's `any`: some number of the list passes the test
unfoldable pub any : (ℕ → Bool) → List ℕ → Bool
any p [] = false
any p (o ∷ l) = p o || any p l

-- the Rust's `blocked`
unfoldable pub blocked : List Float → Float → Triangle → List ℕ → Bool
blocked v eps t idx = any (blocks v eps t) idx

-- n numbers from k on; with k = 0 the Rust's 0..n
unfoldable pub counting : ℕ → ℕ → List ℕ
counting k zero = []
counting k (suc n) = k ∷ counting (suc k) n

-- the Rust's ip: idx[(k + m - 1) % m], where m is idx.len()
unfoldable pub ip : List ℕ → ℕ → ℕ
ip idx k = get_or idx ((k + length idx - 1) % length idx) 0

-- the Rust's inx: idx[(k + 1) % m]
unfoldable pub inx : List ℕ → ℕ → ℕ
inx idx k = get_or idx ((k + 1) % length idx) 0

-- the Rust's (ip, ic, inx) and (a, b, c)
unfoldable pub triangle_at : List Float → List ℕ → ℕ → Triangle
triangle_at v idx k =
    record {
      ip = ip idx k;
      ic = get_or idx k 0;
      inx = inx idx k;
      a = point v (ip idx k);
      b = point v (get_or idx k 0);
      c = point v (inx idx k);
    }

-- the Rust's cross(a, b, c) at index k
unfoldable pub cross_at : List Float → List ℕ → ℕ → Float
cross_at v idx k = cross (triangle_at v idx k).a (triangle_at v idx k).b (triangle_at v idx k).c

-- the corner at index k is an ear that nothing blocks. The Rust skips on `cross <= eps`, so that a NaN counts as an ear's
unfoldable pub is_ear : List Float → Float → List ℕ → ℕ → Bool
is_ear v eps idx k = not (le (cross_at v idx k) eps) && not (blocked v eps (triangle_at v idx k) idx)

-- the Rust's test in `find`: cross.abs() <= eps
unfoldable pub is_flat : List Float → Float → List ℕ → ℕ → Bool
is_flat v eps idx k = le (absolute (cross_at v idx k)) eps

-- the Rust's `find`: the first number of the list that passes the test
unfoldable pub find : (ℕ → Bool) → List ℕ → Option ℕ
find p [] = None
find p (k ∷ l) = cond (p k) (Some k) (find p l)

-- the Rust's loop `for k in 0..m`: the first unblocked ear
unfoldable pub first_ear : List Float → Float → List ℕ → Option ℕ
unfolding find counting
first_ear v eps idx = find (is_ear v eps idx) (counting 0 (length idx))

-- the Rust's `(0..m).find(..)`: the first flat corner
unfoldable pub first_flat : List Float → Float → List ℕ → Option ℕ
unfolding find counting
first_flat v eps idx = find (is_flat v eps idx) (counting 0 (length idx))
