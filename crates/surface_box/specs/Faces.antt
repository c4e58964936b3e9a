-- The six faces of a parameter box by their numbers, as `Soup::param_box` of src/tessellate.rs takes them. Definitions only.
use Rattle.std.specs.Prelude.{Bool, true, false, cond, not, ℕ, ◌/◌, ◌%◌, eqb}
use Rattle.std.specs.Float.Ieee.{eq}
use Rattle.math.specs.declared.Vec3.{Vec3}
use Rattle.math.specs.Vec.{axis}

-- whether the number of a face is that of a high one
abbrev pub is_high : ℕ → Bool
is_high f = eqb (f % 2) 1

-- face f of six is there: 2 k is the low one of the axis k, 2 k + 1 the high one
unfoldable pub has_face : Vec3 → Vec3 → (ℕ → Bool) → ℕ → Bool
has_face lo hi periodic f = cond (periodic (f / 2)) false (cond (is_high f) (not (eq (axis hi (f / 2)) (axis lo (f / 2)))) true)
