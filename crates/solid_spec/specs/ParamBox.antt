-- `Soup::param_box` of src/tessellate.rs: the surface of a parameter box, mapped. Definitions only.
use Rattle.std.specs.Prelude.{[], ◌++◌, Bool, true, false, cond, not, ◌&&◌, ℕ, pos, eqb, Float}
use Rattle.std.specs.Float.{binary64}
use Rattle.std.specs.Float.Ieee.{add, sub, mul, div, of_int, eq}
use Rattle.math.specs.declared.Vec3.{Vec3}
use Rattle.math.specs.Vec.{new}
use Rattle.solid_spec.specs.Grid.{Soup, grid}

-- one axis k of the box: `lo[k]`, `hi[k]`, `divs[k]` and `periodic[k]`
pub record Axis : Type 0 where
  pub lo : Float
  pub hi : Float
  pub parts : ℕ
  pub periodic : Bool

-- the axis from lo to hi, in so many parts
abbrev pub along : Float → Float → ℕ → Bool → Axis
along lo hi parts periodic = record { lo = lo; hi = hi; parts = parts; periodic = periodic }

-- `coord`: grid line i of an axis from lo to hi in n parts
unfoldable pub coord : Float → Float → ℕ → Bool → ℕ → Float
coord lo hi n periodic i =
    cond (periodic && eqb i n) lo
    (cond (eqb i n) hi (add binary64 lo (div binary64 (mul binary64 (sub binary64 hi lo) (of_int binary64 (pos i))) (of_int binary64 (pos n)))))

-- `coord(axis, i)`
abbrev pub line : Axis → ℕ → Float
line a i = coord a.lo a.hi a.parts a.periodic i

-- the call of `grid` for one side of an axis, at val: a grid over the next two axes, u and v. `point` makes `map(p)` of p[k], p[u] and p[v]
unfoldable pub face : Axis → Axis → (Float → Float → Float → Vec3) → Bool → Float → Soup
face u v point side val = grid u.parts v.parts (not side) (λ i j. point val (line u i) (line v j))

-- one turn of the loop over k: no face where the axis is periodic, and the high one only where the bounds differ
unfoldable pub faces : Axis → Axis → Axis → (Float → Float → Float → Vec3) → Soup
faces k u v point = cond k.periodic [] (face u v point false k.lo ++ cond (eq k.hi k.lo) [] (face u v point true k.hi))

-- `Soup::param_box`: each axis k with u = (k + 1) % 3 and v = (k + 2) % 3; of the three numbers, p is p[k], a is p[u] and b is p[v]
unfoldable pub param_box : Axis → Axis → Axis → (Vec3 → Vec3) → Soup
param_box x y z map =
    faces x y z (λ p a b. map (new p a b))
    ++ faces y z x (λ p a b. map (new b p a))
    ++ faces z x y (λ p a b. map (new a b p))
