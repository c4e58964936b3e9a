-- The mesh of a file that nothing refuses: proper, and closed where every solid is of demand 3's list. Assumes nothing.
use Rattle.std.specs.Prelude.{◌≡◌, List, [], ◌∷◌, ℕ}
use Rattle.refusal.specs.Answer.{Accepted}
use Rattle.mesh_spec.specs.Mesh.{Mesh, no_mesh, append}
use Rattle.mesh_spec.specs.Closed.{Closed, Proper}
use Rattle.mesh_spec.specs.ClosedLaws.{no_mesh_closed}
use Rattle.mesh_spec.proofs.ClosedLawsHeld.{append_closed}
use Rattle.mesh_spec.proofs.ProperLawsHeld.{append_none_twice, append_all_there}
use Rattle.tessellate_spec.specs.Outcome.{Job}
use Rattle.tessellate_law.specs.Words.{Accepts}
use Rattle.tessellate_law.proofs.Demand3Laws.{demand3}
use Rattle.fixture_spec.specs.Solids.{jobs_of}
use Rattle.fixture_spec.specs.Outcome.{solid_lent, drawn, drawn_mesh, fixture_mesh, open_refusal}
use Rattle.fixture_law.specs.Words.{AllSolid, EachJob, AllAccepted, AllFitting}
use Rattle.fixture_law.specs.Jobs.{opened, appended_keeps, each_shows}
use Rattle.fixture_law.specs.JobFloats.{file_fits}

-- ---- proper

append_proper : (m o : Mesh) → Proper m → Proper o → Proper (append m o)
append_proper m o h k = record {
  none_twice = append_none_twice m o h.none_twice k.none_twice;
  all_there = append_all_there m o h.all_there k.all_there;
}

no_mesh_proper : Proper no_mesh
no_mesh_proper = record { none_twice = no_mesh_closed.none_twice; all_there = no_mesh_closed.all_there }

drawn_proper : (j : Job) → Accepts j solid_lent → Proper (drawn_mesh j)
unfolding drawn_mesh drawn
drawn_proper j h = record { none_twice = demand3.none_twice j solid_lent h; all_there = demand3.all_there j solid_lent h }

-- each triangle names three different vertices, all of them there
pub proper_fixture : (file : List ℕ) → open_refusal file ≡ Accepted → Proper (fixture_mesh file)
unfolding fixture_mesh
proper_fixture file e =
    appended_keeps Proper append_proper no_mesh (jobs_of file) no_mesh_proper
    (each_shows (λ j. Accepts j solid_lent) (λ j. Proper (drawn_mesh j)) drawn_proper (jobs_of file) (opened file e).accepted)

-- ---- closed

drawn_closed : (js : List Job) → AllAccepted js → AllFitting js → AllSolid js → EachJob (λ j. Closed (drawn_mesh j)) js
unfolding drawn_mesh drawn
drawn_closed [] a f s = tt
drawn_closed (j ∷ js) a f s = (demand3.closed j solid_lent a.0 f.0 s.0, drawn_closed js a.1 f.1 s.1)

pub closed_fixture : (file : List ℕ) → open_refusal file ≡ Accepted → AllSolid (jobs_of file) → Closed (fixture_mesh file)
unfolding fixture_mesh
closed_fixture file e s =
    appended_keeps Closed append_closed no_mesh (jobs_of file) no_mesh_closed
    (drawn_closed (jobs_of file) (opened file e).accepted (file_fits file) s)
