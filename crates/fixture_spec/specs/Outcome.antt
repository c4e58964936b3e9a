-- The outcome of the planner's call on a file, for every file and every length of the output (docs/SCOPE.md, "Fixtures in a file"). Definitions only.
use Rattle.std.specs.Prelude.{Bool, cond, List, [], ◌∷◌, ◌++◌, ℕ, ◌-◌, length, replicate, ltb}
use Rattle.refusal.specs.Answer.{Answer}
use Rattle.refusal.specs.Answer.{Accepted, NoRoom}
use Rattle.refusal.specs.Accepted.{is_accepted, or_else}
use Rattle.mesh_spec.specs.Mesh.{Mesh, no_mesh, append}
use Rattle.mesh_check.specs.State.{mesh_of}
use Rattle.mesh_made.specs.Made.{Lent, Ending}
use Rattle.tessellate_spec.specs.Outcome.{Job, tessellate_of}
use Rattle.fixture_spec.specs.Fields.{file_refusal}
use Rattle.fixture_spec.specs.Solids.{jobs_of}
use Rattle.fixture_spec.specs.Output.{bytes_of}

-- ---- the solids

-- the slices that a solid is drawn in: 1,024 vertex places, 2,048 triangle places and two numbers of work for each vertex place
abbrev pub solid_lent : Lent
solid_lent = record { vertices = 3072; triangles = 6144; work = 2048 }

-- what `tessellate` gives for a solid
unfoldable pub drawn : Job → Ending
drawn j = tessellate_of j solid_lent

-- the mesh of a solid
unfoldable pub drawn_mesh : Job → Mesh
unfolding drawn
drawn_mesh j = mesh_of (drawn j).state

-- the refusal of the first solid that is refused
unfoldable pub solids_refusal : List Job → Answer
unfolding drawn
solids_refusal [] = Accepted
solids_refusal (j ∷ js) = or_else (drawn j).refusal (solids_refusal js)

-- the solids appended to a mesh, in order
unfoldable pub appended : Mesh → List Job → Mesh
unfolding drawn_mesh
appended m [] = m
appended m (j ∷ js) = appended (append m (drawn_mesh j)) js

-- ---- the file

-- the mesh of a file: its solids appended in order
unfoldable pub fixture_mesh : List ℕ → Mesh
fixture_mesh file = appended no_mesh (jobs_of file)

-- why no mesh comes of a file: 9, 10 and 11, then the solids in order
unfoldable pub open_refusal : List ℕ → Answer
open_refusal file = or_else (file_refusal file) (solids_refusal (jobs_of file))

-- ---- the planner's call

-- last 7: an output of n bytes is too short for the bytes of the mesh
unfoldable pub short_output : Mesh → ℕ → Bool
short_output m n = ltb n (length (bytes_of m))

-- why the planner's call is refused, with an output of n bytes
unfoldable pub plan_refusal : List ℕ → ℕ → Answer
plan_refusal file n = or_else (open_refusal file) (cond (short_output (fixture_mesh file) n) NoRoom Accepted)

-- the bytes of a mesh, and zeros after them up to n
unfoldable pub output_of : Mesh → ℕ → List ℕ
output_of m n = bytes_of m ++ replicate (n - length (bytes_of m)) 0

-- the refusal, or none, and the whole output
pub record FixtureOutcome : Type 0 where
  pub refusal : Answer
  pub output : List ℕ

-- the planner's call on a file, with an output of n bytes: refused, all of it is zero
unfoldable pub fixture_of : List ℕ → ℕ → FixtureOutcome
unfolding plan_refusal
fixture_of file n = record { refusal = plan_refusal file n; output = cond (is_accepted (plan_refusal file n)) (output_of (fixture_mesh file) n) (replicate n 0) }
