-- What the planner's call promises: its outcome, and of the mesh in its output that it is that of the file, proper, and closed. Assumes nothing.
use Rattle.std.specs.Prelude.{◌≡◌, cond, List, ℕ, replicate}
use Rattle.std.proofs.Math.Path.{sym}
use Rattle.std.proofs.Common.{ap, ◌∙◌, subst, arith}
use Rattle.refusal.specs.Answer.{Answer}
use Rattle.refusal.specs.Answer.{Accepted, NoRoom}
use Rattle.refusal.specs.Accepted.{is_accepted}
use Rattle.mesh_spec.specs.Closed.{Closed, Proper}
use Rattle.fixture_spec.specs.Solids.{jobs_of}
use Rattle.fixture_spec.specs.Output.{mesh_in}
use Rattle.fixture_spec.specs.Outcome.{fixture_mesh, open_refusal, short_output, plan_refusal, output_of, fixture_of}
use Rattle.fixture_law.specs.Words.{AllSolid}
use Rattle.fixture_law.specs.Jobs.{neither_refuses}
use Rattle.fixture_law.specs.Meshes.{proper_fixture, closed_fixture}
use Rattle.fixture_law.specs.Counts.{counts_fixture}
use Rattle.fixture_law.specs.MeshFloats.{fits_fixture}
use Rattle.fixture_law.specs.ReadBack.{Writable, there_small, read_back}

-- the answer r and the output's final bytes, with an output of n bytes
pub record FixturePromise (file : List ℕ) (n : ℕ) (r : Answer) (out : List ℕ) : Type 0 where
  pub refusal : r ≡ (fixture_of file n).refusal
  pub output : out ≡ (fixture_of file n).output
  -- accepted: the mesh read back from the output is that of the file
  pub mesh : r ≡ Accepted → mesh_in out ≡ fixture_mesh file
  -- each triangle names three different vertices, all of them there
  pub proper : r ≡ Accepted → Proper (mesh_in out)
  -- and where every solid is of demand 3's list, the mesh is closed
  pub closed : r ≡ Accepted → AllSolid (jobs_of file) → Closed (mesh_in out)

-- the planner's bytes can hold the mesh of a file that nothing refuses
writable : (file : List ℕ) → open_refusal file ≡ Accepted → Writable (fixture_mesh file)
writable file e =
    let c = counts_fixture file e in
    record {
      vertices = omega arith;
      triangles = omega arith;
      floats = fits_fixture file e;
      numbers = there_small (fixture_mesh file) (omega arith) (proper_fixture file e).all_there;
    }

-- the mesh of a file that nothing refuses is read back from the planner's output
pub mesh_back : (file : List ℕ) (n : ℕ) → open_refusal file ≡ Accepted → mesh_in (output_of (fixture_mesh file) n) ≡ fixture_mesh file
mesh_back file n e = read_back (fixture_mesh file) n (writable file e)

plan_opens : (file : List ℕ) (n : ℕ) → plan_refusal file n ≡ Accepted → open_refusal file ≡ Accepted
unfolding plan_refusal
plan_opens file n e = (neither_refuses (open_refusal file) (cond (short_output (fixture_mesh file) n) NoRoom Accepted) e).0

plan_output : (file : List ℕ) (n : ℕ) → plan_refusal file n ≡ Accepted → (fixture_of file n).output ≡ output_of (fixture_mesh file) n
unfolding fixture_of
plan_output file n e = ap (λ (q : Answer). cond (is_accepted q) (output_of (fixture_mesh file) n) (replicate n 0)) e

-- the outcome has it
pub fixture_promised : (file : List ℕ) (n : ℕ) (r : Answer) (out : List ℕ) → r ≡ (fixture_of file n).refusal → out ≡ (fixture_of file n).output
    → FixturePromise file n r out
fixture_promised file n r out e o = record {
  refusal = e;
  output = o;
  mesh = is_mesh;
  proper = λ a. subst Proper (sym (is_mesh a)) (proper_fixture file (opens a));
  closed = λ a s. subst Closed (sym (is_mesh a)) (closed_fixture file (opens a) s);
}
  where
    plans : r ≡ Accepted → plan_refusal file n ≡ Accepted
    plans a = unfold fixture_of in sym e ∙ a

    opens : r ≡ Accepted → open_refusal file ≡ Accepted
    opens a = plan_opens file n (plans a)

    is_mesh : r ≡ Accepted → mesh_in out ≡ fixture_mesh file
    is_mesh a = ap mesh_in (o ∙ plan_output file n (plans a)) ∙ mesh_back file n (opens a)
