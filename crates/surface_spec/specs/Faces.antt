-- The faces of a parameter box by the numbers of their axes, as the code goes through them. `param_box` of solid_spec/specs/ParamBox.antt, which has the axes by
-- name, is made of them: solid_box/proofs/FaceRuns.antt, `six_faces`. Definitions only.
use Rattle.std.specs.Prelude.{Bool, cond, not, ℕ, zero, suc, ◌+◌, ◌%◌, Float}
use Rattle.math.specs.declared.Vec3.{Vec3}
use Rattle.math.specs.Vec.{zero_v, axis, with_axis}
use Rattle.solid_spec.specs.Grid.{Soup, grid}
use Rattle.solid_spec.specs.ParamBox.{coord}

-- `[a, b, c][k]`, for the numbers of axes: 0, 1 and 2
abbrev pub three : {A : Type 0} → A → A → A → ℕ → A
three a b c zero = a
three a b c (suc zero) = b
three a b c (suc (suc k)) = c

-- the p of the closure: `Vec3::ZERO` after `p[k] = val`, `p[u] = a`, `p[v] = b`, with u = (k + 1) % 3 and v = (k + 2) % 3
unfoldable pub face_point : ℕ → Float → Float → Float → Vec3
face_point k val a b = with_axis (with_axis (with_axis zero_v k val) ((k + 1) % 3) a) ((k + 2) % 3) b

module _ (lo hi : Vec3) (divs : ℕ → ℕ) (periodic : ℕ → Bool) (map : Vec3 → Vec3) where
  -- `coord(axis, i)`
  abbrev line : ℕ → ℕ → Float
  line k i = coord (axis lo k) (axis hi k) (divs k) (periodic k) i

  -- one face of the axis k: at lo[k], or where side says so at hi[k]
  unfoldable pub numbered_face : ℕ → Bool → Soup
  numbered_face k side =
      grid (divs ((k + 1) % 3)) (divs ((k + 2) % 3)) (not side)
      (λ i j. map (face_point k (cond side (axis hi k) (axis lo k)) (line ((k + 1) % 3) i) (line ((k + 2) % 3) j)))
