-- What a call of `tessellate` promises: its outcome, and of the record and the slices that it leaves the box of the vertices and demand 3. Assumes nothing.
use Rattle.std.specs.Prelude.{◌≡◌, Result, List, ℕ, Float}
use Rattle.std.proofs.Common.{sym, subst, ◌∙◌}
use Rattle.refusal.specs.declared.Refusal.{Refusal}
use Rattle.refusal.specs.Answer.{Accepted, answer_of}
use Rattle.mesh_spec.specs.Measures.{bounding_box}
use Rattle.mesh_spec.specs.Closed.{Closed, Proper, NoneTwice, AllThere}
use Rattle.mesh_check.specs.State.{State, state, mesh_of}
use Rattle.mesh_edit_law.specs.Lists.{Call, after, AllBring}
use Rattle.mesh_check.specs.declared.TriMesh.{TriMesh}
use Rattle.mesh_made.specs.Made.{Lent, record_made, GivesMade}
use Rattle.mesh_made.specs.MadeLaws.{left_as, left_bounds}
use Rattle.mesh_made.proofs.MadeLawsHeld.{made_bounds}
use Rattle.tessellate_spec.specs.Outcome.{Job, final_mesh, refusal_of, tessellate_of}
use Rattle.tessellate_law.specs.Words.{Accepts, left, FitsSolid, Solid}

-- the answer r and the slices' final lists of a call with the arguments j and slices of the lengths n
pub record Promise (j : Job) (n : Lent) (r : Result TriMesh Refusal) (vs : List Float) (ts ws : List ℕ) : Type 0 where
  -- they are those of the outcome
  pub outcome : GivesMade (tessellate_of j n) r vs ts ws
  -- accepted or refused, the record's box is `bounding_box` of the counted vertices, bit for bit
  pub bounds : (record_made r).bounds ≡ bounding_box (mesh_of (state (record_made r) vs ts))
  -- an accepted solid of demand 3's list leaves a closed mesh
  pub closed : answer_of r ≡ Accepted → Solid j.shape j.list → Closed (mesh_of (state (record_made r) vs ts))
  -- whichever shape is accepted, each triangle names three different vertices, all of them there
  pub proper : answer_of r ≡ Accepted → Proper (mesh_of (state (record_made r) vs ts))
  -- and the solid is closed after any list of calls in which each mesh appended is closed
  pub closed_after : answer_of r ≡ Accepted → Solid j.shape j.list
      → (calls : List Call) → AllBring Closed calls (state (record_made r) vs ts) → Closed (mesh_of (after (state (record_made r) vs ts) calls))
  -- and whichever shape it is, the mesh is proper after any list of calls in which each mesh appended is proper
  pub proper_after : answer_of r ≡ Accepted
      → (calls : List Call) → AllBring Proper calls (state (record_made r) vs ts) → Proper (mesh_of (after (state (record_made r) vs ts) calls))
