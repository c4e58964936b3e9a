-- What an edit of a mesh answers, and the state that it leaves. Definitions only.
use Rattle.std.specs.Prelude.{Result, ◌≡◌, cond, List, ℕ, Float}
use Rattle.refusal.specs.declared.Refusal.{Refusal}
use Rattle.refusal.specs.Answer.{Answer, answer_of}
use Rattle.refusal.specs.Number.{number_of}
use Rattle.refusal.specs.Accepted.{is_accepted}
use Rattle.mesh_check.specs.declared.TriMesh.{TriMesh}
use Rattle.mesh_check.specs.State.{State, record_after}

-- what `append`, `flip` or `transform` answers, and the state that it leaves
pub record EditOutcome : Type 0 where
  pub refusal : Answer
  pub state : State

-- an edit from s to t: a refusal changes nothing
unfoldable pub edited : Answer → State → State → EditOutcome
edited r s t = record { refusal = r; state = cond (is_accepted r) t s }

-- the answer and the slices of a call on the record m are those of an outcome; the number is docs/SCOPE.md's
pub record GivesEdit (o : EditOutcome) (m : TriMesh) (r : Result TriMesh Refusal) (vs : List Float) (ts : List ℕ) : Type 0 where
  pub refusal : answer_of r ≡ o.refusal
  pub number : number_of (answer_of r) ≡ number_of o.refusal
  pub mesh : record_after m r ≡ o.state.mesh
  pub vertices : vs ≡ o.state.vertices
  pub triangles : ts ≡ o.state.triangles
