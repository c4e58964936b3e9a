-- How a call that makes a mesh in lent slices ends (docs/SCOPE.md, R10 and R11): the answer, and the final content of each slice. Definitions only.
use Rattle.std.specs.Prelude.{Result, ◌≡◌, Bool, cond, List, ◌++◌, ℕ, ◌-◌, ◌*◌, ◌/◌, length, replicate, ltb, Float}
use Rattle.std.specs.Float.{binary64}
use Rattle.std.specs.Float.Ieee.{of_bits}
use Rattle.refusal.specs.declared.Refusal.{Refusal}
use Rattle.refusal.specs.Answer.{Answer, Accepted, answer_of}
use Rattle.refusal.specs.Number.{number_of}
use Rattle.refusal.specs.Accepted.{is_accepted}
use Rattle.mesh_balance_spec.specs.Buffer.{flat}
use Rattle.mesh_spec.specs.Mesh.{Mesh}
use Rattle.mesh_spec.specs.Slices.{flat_v}
use Rattle.mesh_check.specs.declared.TriMesh.{TriMesh}
use Rattle.mesh_check.specs.State.{record_for, empty_record, record_after, State, state}

-- the lengths of the lent slices: floats for vertices, numbers for triangles, numbers of work
pub record Lent : Type 0 where
  pub vertices : ℕ
  pub triangles : ℕ
  pub work : ℕ

abbrev pub lent : List Float → List ℕ → List ℕ → Lent
lent vs ts ws = record { vertices = length vs; triangles = length ts; work = length ws }

-- 6: a work slice of so many numbers has fewer than two for each whole place of a vertex slice of so many floats
unfoldable pub short_work : ℕ → ℕ → Bool
short_work vertices work = ltb work (2 * (vertices / 3))

-- the record of what a call made: the one that it answers, or the empty one where it was refused
abbrev pub record_made : Result TriMesh Refusal → TriMesh
record_made = record_after empty_record

-- how the call ends: what is answered, the mesh slices and the work slice
pub record Ending : Type 0 where
  pub refusal : Answer
  pub state : State
  pub work : List ℕ

-- refused: the empty record, all three slices zero
unfoldable pub refused_as : Answer → Lent → Ending
refused_as q n = record {
  refusal = q;
  state = state empty_record (replicate n.vertices (of_bits binary64 0)) (replicate n.triangles 0);
  work = replicate n.work 0;
}

-- accepted: the mesh with its record, zeros in the places after it, a broken last one included; the work slice zero
unfoldable pub accepted_as : Mesh → Lent → Ending
accepted_as m n = record {
  refusal = Accepted;
  state = state (record_for m)
      (flat_v m.vertices ++ replicate (n.vertices - 3 * length m.vertices) (of_bits binary64 0))
      (flat m.triangles ++ replicate (n.triangles - 3 * length m.triangles) 0);
  work = replicate n.work 0;
}

-- the ending of a call that is refused by q, or makes the mesh m where q is no refusal
unfoldable pub made_as : Answer → Mesh → Lent → Ending
made_as q m n = cond (is_accepted q) (accepted_as m n) (refused_as q n)

-- the answer r, its number in docs/SCOPE.md and the slices' final lists are those of the ending
pub record GivesMade (o : Ending) (r : Result TriMesh Refusal) (vs : List Float) (ts ws : List ℕ) : Type 0 where
  pub refusal : answer_of r ≡ o.refusal
  pub number : number_of (answer_of r) ≡ number_of o.refusal
  pub mesh : record_made r ≡ o.state.mesh
  pub vertices : vs ≡ o.state.vertices
  pub triangles : ts ≡ o.state.triangles
  pub work : ws ≡ o.work
