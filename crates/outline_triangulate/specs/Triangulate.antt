-- `triangulate_polygon` of src/tessellate.rs, with docs/SCOPE.md's count of the corners that were removed singly.
-- v is the corner list, two floats to a corner, and eps the Rust's eps. Triangles are a list of corner numbers, three to a triangle. Assumes nothing.
use Rattle.std.specs.Prelude.{ℕ, zero, suc, ◌+◌, ◌*◌, ◌/◌, cond, ◌&&◌, List, [], ◌∷◌, ◌++◌, length, get_or, take, ltb, eqb, Option, Some, None, Float}
use Rattle.std.specs.Float.Ieee.{lt}
use Rattle.outline.specs.Corners.{point}
use Rattle.outline_triangle.specs.Triangle.{cross, tolerance}
use Rattle.outline_ears.specs.Ears.{ip, inx, counting, first_ear, first_flat}
use Rattle.outline_remaining.specs.Without.{without}

-- a state of the clipper: the Rust's idx, its out as a list of numbers, and the number of corners that were clipped or dropped one by one (S21)
pub record Clipping : Type 0 where
  pub idx : List ℕ
  pub triangles : List ℕ
  pub removed : ℕ

-- out.push([ip, ic, inx]) and idx.remove(k): the ear at index k goes, and its triangle is given
unfoldable pub clipped : Clipping → ℕ → Clipping
clipped s k =
    record {
      idx = without k s.idx;
      triangles = s.triangles ++ (ip s.idx k ∷ get_or s.idx k 0 ∷ inx s.idx k ∷ []);
      removed = s.removed + 1;
    }

-- idx.remove(k) alone: the flat corner at index k goes, with no triangle
unfoldable pub dropped : Clipping → ℕ → Clipping
dropped s k = record { idx = without k s.idx; triangles = s.triangles; removed = s.removed + 1 }

-- the triangles from a to each side of a chain of corners
unfoldable pub fans : ℕ → List ℕ → List ℕ
fans a [] = []
fans a (b ∷ []) = []
fans a (b ∷ c ∷ l) = a ∷ b ∷ c ∷ fans a (c ∷ l)

-- the Rust's loop `for k in 1..m - 1`: the fan from the first corner
unfoldable pub fan : List ℕ → List ℕ
unfolding fans
fan [] = []
fan (a ∷ l) = fans a l

-- the rest is fanned; the Rust returns here, so no corner remains
unfoldable pub fanned : Clipping → Clipping
unfolding fan
fanned s = record { idx = []; triangles = s.triangles ++ fan s.idx; removed = s.removed }

-- what f makes of the index that was found, or s where there is none
unfoldable pub by_found : Option ℕ → (ℕ → Clipping) → Clipping → Clipping
by_found (Some k) f s = f k
by_found None f s = s

-- one pass of the Rust's while loop: it clips the first ear that nothing blocks, failing that drops the first flat corner, failing that fans what remains
unfoldable pub pass : List Float → Float → Clipping → Clipping
unfolding by_found
pass v eps s = by_found (first_ear v eps s.idx) (clipped s) (by_found (first_flat v eps s.idx) (dropped s) (fanned s))

-- the Rust's `while idx.len() > 3 && guard < g`
unfoldable pub passes : ℕ → List Float → Float → Clipping → Clipping
passes zero v eps s = s
passes (suc g) v eps s = cond (ltb 3 (length s.idx)) (passes g v eps (pass v eps s)) s

-- the Rust's last test: three corners that remain are a triangle where cross > eps
unfoldable pub finished : List Float → Float → Clipping → Clipping
finished v eps s =
    cond (eqb (length s.idx) 3 && lt eps (cross (point v (get_or s.idx 0 0)) (point v (get_or s.idx 1 0)) (point v (get_or s.idx 2 0))))
    (record { idx = []; triangles = s.triangles ++ take 3 s.idx; removed = s.removed })
    s

-- the Rust's idx = (0..n).collect(), and no triangles
unfoldable pub start : ℕ → Clipping
unfolding counting
start n = record { idx = counting 0 n; triangles = []; removed = 0 }

-- for n corners: fewer than 3 give nothing; the guard is n * n
unfoldable pub triangulated : List Float → ℕ → Clipping
triangulated v n =
    cond (ltb n 3) (record { idx = []; triangles = []; removed = 0 })
    (finished v (tolerance v) (passes (n * n) v (tolerance v) (start n)))

-- `triangulate_polygon`
unfoldable pub triangulate_polygon : List Float → Clipping
triangulate_polygon v = triangulated v (length v / 2)
