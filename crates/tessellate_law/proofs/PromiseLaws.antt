-- What a call of `tessellate` promises: its outcome, and of the record and the slices that it leaves the box of the vertices and demand 3. Assumes nothing.
use Rattle.std.specs.Prelude.{◌≡◌, Result, List, ℕ, Float}
use Rattle.std.proofs.Common.{sym, subst, ◌∙◌}
use Rattle.refusal.specs.declared.Refusal.{Refusal}
use Rattle.refusal.specs.Answer.{Accepted, answer_of}
use Rattle.mesh_spec.specs.Measures.{bounding_box}
use Rattle.mesh_spec.specs.Closed.{Closed, Proper, NoneTwice, AllThere}
use Rattle.mesh_check.specs.State.{State, state, mesh_of}
use Rattle.mesh_edit_law.specs.Lists.{after, AllBring}
use Rattle.mesh_check.specs.declared.TriMesh.{TriMesh}
use Rattle.mesh_made.specs.Made.{Lent, record_made, GivesMade}
use Rattle.mesh_made.specs.MadeLaws.{left_as, left_bounds}
use Rattle.mesh_made.proofs.MadeLawsHeld.{made_bounds}
use Rattle.tessellate_spec.specs.Outcome.{Job, final_mesh, refusal_of, tessellate_of}
use Rattle.tessellate_law.specs.Words.{Accepts, left, FitsSolid}
use Rattle.tessellate_law.proofs.Demand3Laws.{demand3}
use Rattle.tessellate_law.specs.Promise.{Promise}

-- the outcome has it, of the floats of a program
pub promised : (j : Job) (n : Lent) (r : Result TriMesh Refusal) (vs : List Float) (ts ws : List ℕ)
    → FitsSolid j.shape j.list → GivesMade (tessellate_of j n) r vs ts ws → Promise j n r vs ts ws
promised j n r vs ts ws f g = record {
  outcome = g;
  bounds = left_bounds boxed g;
  closed = λ a s. subst (λ (x : State). Closed (mesh_of x)) left_is (demand3.closed j n (accepts a) f s);
  proper = λ a. record {
    none_twice = subst (λ (x : State). NoneTwice (mesh_of x)) left_is (demand3.none_twice j n (accepts a));
    all_there = subst (λ (x : State). AllThere (mesh_of x)) left_is (demand3.all_there j n (accepts a));
  };
  closed_after = λ a s calls.
      subst (λ (x : State). AllBring Closed calls x → Closed (mesh_of (after x calls))) left_is (demand3.closed_after j n (accepts a) f s calls);
  proper_after = λ a calls.
      subst (λ (x : State). AllBring Proper calls x → Proper (mesh_of (after x calls))) left_is (demand3.proper_after j n (accepts a) calls);
}
  where
    boxed : (left j n).mesh.bounds ≡ bounding_box (mesh_of (left j n))
    boxed = unfold tessellate_of in made_bounds (refusal_of j n) (final_mesh j) n

    accepts : answer_of r ≡ Accepted → Accepts j n
    accepts a = sym g.refusal ∙ a

    left_is : left j n ≡ state (record_made r) vs ts
    left_is = left_as g
