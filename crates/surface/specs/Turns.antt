-- Tables of sines and cosines, so that each is worked out once. Definitions only.
use Rattle.std.specs.Prelude.{◌≡◌, List, ℕ, zero, suc, ◌≤◌, ◌<◌, length, get_or}
use Rattle.std.specs.Float.{nan}
use Rattle.trig_spec.specs.declared.SinCos.{SinCos}
use Rattle.trig_spec.specs.Trig.{sin_cos}
use Rattle.surface_spec.specs.declared.Line.{Line}
use Rattle.surface_spec.specs.declared.Chart.{Chart}
use Rattle.surface_spec.specs.declared.Chart.TheVariants.{Cartesian, Cylindrical, Around}
use Rattle.surface_spec.specs.declared.Surface.{Surface}
use Rattle.surface_spec.specs.declared.Surface.TheVariants.{Face, Sphere, Extruded, Rotated}
use Rattle.solid_spec.specs.Sphere.{latitude, longitude}
use Rattle.solid_spec.specs.Outline.{angle}
use Rattle.surface_spec.specs.Surface.{line_at}
use Rattle.surface.specs.declared.turns.Turns.{Turns}
use Rattle.surface.specs.declared.turns.Turns.TheVariants.{Latitudes, Longitudes, OnLine, Angles}

-- the sine and cosine number k of a kind: of a sphere's row or segment, of an axis that is an angle, of a rotated outline's step
unfoldable pub turn_at : Turns → ℕ → SinCos
turn_at (Latitudes nt) k = latitude nt k
turn_at (Longitudes np) k = longitude np k
turn_at (OnLine l) k = sin_cos (line_at l k)
turn_at (Angles full start span n) k = sin_cos (angle full start span n k)

-- what the code asks of a kind to compute its numbers up to k
abbrev pub TurnsWithin : Turns → ℕ → Type 0
TurnsWithin (Latitudes nt) k = (nt ≤ 1024) × (k ≤ nt)
TurnsWithin (Longitudes np) k = (0 < np) × (np ≤ 1024)
TurnsWithin (OnLine l) k = (l.n ≤ 1024) × (k ≤ l.n)
TurnsWithin (Angles full start span n) k = (0 < n) × (n ≤ 1024) × (k ≤ n)

-- entry k of a table
abbrev pub entry : List SinCos → ℕ → SinCos
entry tab k = get_or tab k (record { sin = nan; cos = nan })

-- the entries 0 to n of the table are those of the kind t
pub record Filled (t : Turns) (n : ℕ) (tab : List SinCos) : Type 0 where
  pub long : n < length tab
  pub holds : (k : ℕ) → k ≤ n → entry tab k ≡ turn_at t k

-- the tables that a face of a parameter box on axis k reads where its middle axis is an angle: by rows for k = 0, by columns for k = 2;
-- for k = 1 the angle is the face's own
abbrev pub RoundTabled : ℕ → Line → Line → List SinCos → List SinCos → ℕ → ℕ → Type 0
RoundTabled zero u v rows cols i j = Filled (OnLine u) i rows
RoundTabled (suc zero) u v rows cols i j = Unit
RoundTabled (suc (suc k)) u v rows cols i j = Filled (OnLine v) j cols

-- the tables that a surface's points from (0, 0) to (i, j) read: rows by i, cols by j
abbrev pub Tabled : Surface → List SinCos → List SinCos → ℕ → ℕ → Type 0
Tabled (Face Cartesian k val u v) rows cols i j = Unit
Tabled (Face Cylindrical k val u v) rows cols i j = RoundTabled k u v rows cols i j
Tabled (Face (Around a d e1 e2) k val u v) rows cols i j = RoundTabled k u v rows cols i j
Tabled (Sphere c r nt np) rows cols i j = Filled (Latitudes nt) i rows × Filled (Longitudes np) j cols
Tabled (Extruded n len lo hi) rows cols i j = Unit
Tabled (Rotated a q len full start span n) rows cols i j = Filled (Angles full start span n) j cols
