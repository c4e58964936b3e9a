-- The next solid as what `tessellate` draws, and what is left of the file. Definitions only.
use Rattle.std.specs.Prelude.{ℕ, ◌+◌, ◌*◌, ◌≤◌, ◌<◌, ◌≡◌, Option, None, Some, List, [], ◌∷◌, length, drop}
use Rattle.slice_byte_lists.specs.Lists.{floats_of}
use Rattle.shape.specs.declared.CoordSystem.{CoordSystem}
use Rattle.shape.specs.declared.TessellationOptions.{TessellationOptions}
use Rattle.tessellate_spec.specs.Outcome.{Job, job}
use Rattle.fixture_solid.specs.declared.Settings.{Settings}
use Rattle.fixture_solid.specs.declared.field.SolidField.{SolidField}
use Rattle.fixture_next.specs.declared.job.NextJob.{NextJob}
use Rattle.fixture_next.specs.Ready.{Ready, jobs_at}
use Rattle.fixture_next.specs.Next.{ops_from}

-- settings and a field as one
abbrev pub joined : Settings → SolidField → NextJob
joined s f = record {
  shape = f.shape;
  own = s.own;
  default = s.default;
  options = s.options;
  degrees = s.degrees;
  count = s.count;
  list_at = f.list_at;
  list_floats = f.list_floats;
  next = f.next;
}

-- the solid that r names: its list is read from the file, its operations are those of the next solid from the place `at` on
unfoldable pub job_in : List ℕ → ℕ → NextJob → Job
job_in file at r =
    job r.shape (floats_of r.list_floats (drop r.list_at file)) r.own r.default r.options r.degrees (ops_from file at) r.count

-- r is the next solid from the place `at` on
pub record Found (file : List ℕ) (at : ℕ) (options : TessellationOptions) (default : CoordSystem) (r : NextJob) : Type 0 where
  pub more : jobs_at file at options default ≡ job_in file at r ∷ jobs_at file r.next r.options r.default
  pub onward : at < r.next
  pub ready : Ready file r.next
  pub inside : r.list_at + 8 * r.list_floats ≤ length file
  pub few : r.list_floats ≤ 8191

-- it is, or there is none
abbrev pub IsJob : List ℕ → ℕ → TessellationOptions → CoordSystem → Option NextJob → Type 0
IsJob file at options default (Some r) = Found file at options default r
IsJob file at options default None = jobs_at file at options default ≡ []
