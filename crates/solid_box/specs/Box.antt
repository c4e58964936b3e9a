-- What the code of a parameter box asks of its caller, and the six faces one by one. Definitions only.
use Rattle.std.specs.Prelude.{Bool, false, cond, List, [], ℕ, ◌/◌, ◌≤◌, ◌<◌}
use Rattle.trig_spec.specs.declared.SinCos.{SinCos}
use Rattle.math.specs.declared.Vec3.{Vec3}
use Rattle.solid_spec.specs.Grid.{Soup}
use Rattle.solid_spec.specs.ParamBox.{along, param_box}
use Rattle.surface_spec.specs.Faces.{three, numbered_face}
use Rattle.surface_spec.specs.Surface.{line_of, mapped}
use Rattle.surface.specs.declared.turns.Turns.TheVariants.{OnLine}
use Rattle.surface.specs.Turns.{Filled}
use Rattle.surface_box.specs.Faces.{is_high, has_face}
use Rattle.solid_box.specs.declared.ParamBox.{ParamBox}

-- `param_box(lo, hi, [1, n, 1], [false, turns, false], map)`: n parts on the middle axis and one on the others
abbrev pub middle_parted : Vec3 → Vec3 → ℕ → Bool → (Vec3 → Vec3) → Soup
middle_parted lo hi n turns map =
    param_box (along lo.x hi.x 1 false) (along lo.y hi.y n turns) (along lo.z hi.z 1 false) map

-- the box of a `ParamBox`
abbrev pub box_of : ParamBox → Soup
box_of x = middle_parted x.lo x.hi x.n x.turns (mapped x.chart)

-- n parts on the middle axis, an angle, its table of sines and cosines, and a place for a guess at each of a row's points
pub record BoxWithin (x : ParamBox) (table : List SinCos) (guesses : ℕ) : Type 0 where
  pub few : x.n ≤ 1024
  pub tabled : Filled (OnLine (line_of x.lo x.hi (three 1 x.n 1) (three false x.turns false) 1)) x.n table
  pub one : 1 < guesses
  pub long : x.n < guesses

-- the triangles of face f
unfoldable pub face_of : Vec3 → Vec3 → (ℕ → ℕ) → (ℕ → Bool) → (Vec3 → Vec3) → ℕ → Soup
face_of lo hi divs periodic map f = cond (has_face lo hi periodic f) (numbered_face lo hi divs periodic map (f / 2) (is_high f)) []

-- the triangles of face f of a `ParamBox`
abbrev pub face_of_box : ParamBox → ℕ → Soup
face_of_box x = face_of x.lo x.hi (three 1 x.n 1) (three false x.turns false) (mapped x.chart)
