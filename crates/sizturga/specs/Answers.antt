-- What the calls from C answer and leave: as the calls that they stand for, with a refusal as its number. Definitions only.
use Rattle.std.specs.Prelude.{◌≡◌, List, ℕ}
use Rattle.refusal.specs.Number.{number_of}
use Rattle.mesh_spec.specs.Closed.{Closed, Proper}
use Rattle.fixture_spec.specs.Solids.{jobs_of}
use Rattle.fixture_spec.specs.Output.{mesh_in}
use Rattle.fixture_spec.specs.Outcome.{fixture_mesh, fixture_of}
use Rattle.fixture_law.specs.Words.{AllSolid}

-- the answer r of `sizturga_fixture` and the final bytes of its output, which has n bytes
pub record FixtureCall (file : List ℕ) (n r : ℕ) (out : List ℕ) : Type 0 where
  -- they are those of the outcome
  pub number : r ≡ number_of (fixture_of file n).refusal
  pub output : out ≡ (fixture_of file n).output
  -- 0: the mesh that a reader of the output finds is that of the file
  pub mesh : r ≡ 0 → mesh_in out ≡ fixture_mesh file
  -- each of its triangles names three different vertices, all of them there
  pub proper : r ≡ 0 → Proper (mesh_in out)
  -- and where every solid of the file is of demand 3's list, it is closed
  pub closed : r ≡ 0 → AllSolid (jobs_of file) → Closed (mesh_in out)
