-- What drawing a solid of a file asks of its caller. Definitions only.
use Rattle.std.specs.Prelude.{◌≡◌, List, ℕ, ◌+◌, ◌*◌, ◌≤◌, length, Float}
use Rattle.fixture_next.specs.declared.job.NextJob.{NextJob}
use Rattle.fixture_next.specs.Ready.{Ready}

-- a solid whose fields are sound, with a list that lies in the file and fits into 8,192 places
pub record Drawable (file : List ℕ) (at : ℕ) (j : NextJob) : Type 0 where
  pub ready : Ready file at
  pub inside : j.list_at + 8 * j.list_floats ≤ length file
  pub few : j.list_floats ≤ 8191

-- the slices that a solid is drawn in, and the one for its list, have these lengths
pub record Places (vs : List Float) (ts ws : List ℕ) (l : List Float) : Type 0 where
  pub vertices : length vs ≡ 3072
  pub triangles : length ts ≡ 6144
  pub work : length ws ≡ 2048
  pub list : length l ≡ 8192
