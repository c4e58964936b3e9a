-- A place of a file from which its solids can be read, and the solids from there on. Definitions only.
use Rattle.std.specs.Prelude.{ℕ, ◌≤◌, ◌≡◌, List, length, drop}
use Rattle.refusal.specs.Answer.{Accepted}
use Rattle.shape.specs.declared.CoordSystem.{CoordSystem}
use Rattle.shape.specs.declared.TessellationOptions.{TessellationOptions}
use Rattle.tessellate_spec.specs.Outcome.{Job}
use Rattle.fixture_spec.specs.Fields.{fields_from, first_refusal}
use Rattle.fixture_spec.specs.Solids.{fresh_settings, jobs_from}

-- a field or the end begins at the place, and the fields from there on are sound
pub record Ready (file : List ℕ) (at : ℕ) : Type 0 where
  pub within : at ≤ length file
  pub short : length file ≤ 65535
  pub sound : first_refusal (fields_from 0 (drop at file)) ≡ Accepted

-- the solids from a place on, where 01 and 02 have set the options and the default system
abbrev pub jobs_at : List ℕ → ℕ → TessellationOptions → CoordSystem → List Job
jobs_at file at options default = jobs_from (fresh_settings options default) (fields_from 0 (drop at file))
