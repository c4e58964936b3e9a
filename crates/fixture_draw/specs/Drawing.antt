-- The walk over the solids of a file: what it carries, and how the mesh so far lies in the output. Definitions only.
use Rattle.std.specs.Prelude.{◌≡◌, Some, Result, Ok, Err, List, ℕ, ◌+◌, ◌*◌, ◌≤◌, ◌<◌, length, take, replicate, Float}
use Rattle.refusal.specs.declared.Refusal.{Refusal}
use Rattle.refusal.specs.Answer.{Accepted}
use Rattle.mesh_spec.specs.Mesh.{Mesh}
use Rattle.mesh_check.specs.declared.TriMesh.{TriMesh}
use Rattle.fixture_spec.specs.Fields.{file_refusal}
use Rattle.fixture_spec.specs.Solids.{start_settings, jobs_of}
use Rattle.fixture_spec.specs.Outcome.{solids_refusal, appended, fixture_mesh}
use Rattle.fixture_next.specs.declared.job.NextJob.{NextJob}
use Rattle.fixture_next.specs.Ready.{Ready, jobs_at}
use Rattle.fixture_output.specs.Laid.{Laid, Adds}
use Rattle.fixture_draw.specs.declared.Walk.{Walk}

-- before the first solid
abbrev pub start : Walk
start = record {
  at = 0;
  options = start_settings.options;
  default = start_settings.default;
  vertices = 0;
  triangles = 0;
}

-- a walk behind the solid j, which has the record m
abbrev pub onward : Walk → NextJob → TriMesh → Walk
onward w j m = record {
  at = j.next;
  options = j.options;
  default = j.default;
  vertices = w.vertices + m.vertices;
  triangles = w.triangles + m.triangles;
}

-- the slices have the places that a record counts, and what they hold may be added to an output of n bytes
pub record Placing (n : ℕ) (w : Walk) (m : TriMesh) (vs : List Float) (ts : List ℕ) : Type 0 where
  pub vertices : 3 * m.vertices ≤ length vs
  pub triangles : 3 * m.triangles ≤ length ts
  pub most : length vs ≤ 4294967295
  pub mosts : length ts ≤ 4294967295
  pub adds : Adds n w.vertices w.triangles (take (3 * m.vertices) vs) (take (3 * m.triangles) ts)

-- what is still to come of a file where no solid was refused so far: with it the mesh m becomes the file's, and its refusal is the file's
pub record Open (file : List ℕ) (w : Walk) (m : Mesh) : Type 0 where
  pub ready : Ready file w.at
  pub mesh : appended m (jobs_at file w.at w.options w.default) ≡ fixture_mesh file
  pub refusal : solids_refusal (jobs_at file w.at w.options w.default) ≡ solids_refusal (jobs_of file)

-- where the walk is, with an output of n bytes; no solid was refused so far
pub record Drawing (file : List ℕ) (w : Walk) (n : ℕ) (out : List ℕ) : Type 0 where
  -- the mesh of the solids so far, its counts, and that it lies in the output
  pub mesh : Mesh
  pub counted : length mesh.vertices ≡ w.vertices
  pub faces : length mesh.triangles ≡ w.triangles
  pub few : w.vertices ≤ 1024 * w.at
  pub fewer : w.triangles ≤ 2048 * w.at
  pub laid : Laid mesh n out
  pub short : length file ≤ 65535
  pub within : w.at ≤ length file
  -- and the solids to come
  pub coming : Open file w mesh

-- the walk before a step: it is not at the file's end
pub record Going (file : List ℕ) (w : Walk) (out : List ℕ) : Type 0 where
  pub drawing : Drawing file w (length out) out
  pub before : w.at < length file

-- a step from w to r
pub record Advanced (file : List ℕ) (w r : Walk) (n : ℕ) (out : List ℕ) : Type 0 where
  pub drawing : Drawing file r n out
  pub onward : w.at < r.at

-- a solid is refused, and its refusal is the file's; the output has n bytes
pub record Refused (file : List ℕ) (why : Refusal) (n : ℕ) (out : List ℕ) : Type 0 where
  pub refusal : Some why ≡ solids_refusal (jobs_of file)
  pub bytes : length out ≡ n

-- what a step from w answers
abbrev pub Stepped : List ℕ → Walk → Result Walk Refusal → ℕ → List ℕ → Type 0
Stepped file w (Ok r) n out = Advanced file w r n out
Stepped file w (Err why) n out = Refused file why n out

-- a file with sound fields and an output of zeros
pub record Begins (file out : List ℕ) : Type 0 where
  pub sound : file_refusal file ≡ Accepted
  pub zeros : out ≡ replicate (length out) 0

-- at the file's end: no solid is refused, and the file's mesh is in an output of n bytes, with its counts
pub record Held (file : List ℕ) (w : Walk) (n : ℕ) (out : List ℕ) : Type 0 where
  pub refusal : Accepted ≡ solids_refusal (jobs_of file)
  pub counted : length (fixture_mesh file).vertices ≡ w.vertices
  pub faces : length (fixture_mesh file).triangles ≡ w.triangles
  pub few : w.vertices < 4294967296
  pub fewer : w.triangles < 4294967296
  pub laid : Laid (fixture_mesh file) n out

-- what the walk over all solids answers
abbrev pub Drawn : List ℕ → Result Walk Refusal → ℕ → List ℕ → Type 0
Drawn file (Ok w) n out = Held file w n out
Drawn file (Err why) n out = Refused file why n out
