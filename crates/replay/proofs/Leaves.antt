-- The counts that a call answers and the slices that it leaves are those of an outcome. Assumes nothing.
use mathlib.Core.Path.{◌≡◌, refl, sym, ap, ◌∙◌}
use mathlib.Core.List.{List}
use Prim.Native.Nat.{ℕ}
use lib.Ieee.{Float}
use Rattle.std.specs.Prelude.{Result, Ok, Err}
use Rattle.std.specs.Result.{result_unwrap_or}
use Rattle.refusal.specs.declared.Refusal.{Refusal}
use Rattle.mesh_check.specs.declared.TriMesh.{TriMesh}
use Rattle.mesh_check.specs.State.{state, record_after}
use Rattle.mesh_edit_law.specs.Outcome.{EditOutcome, GivesEdit}
use Rattle.outline_triangulate.specs.declared.Cut.{Cut}
use Rattle.outline_clip.specs.Clip.{ClipOutcome, clip_outline, outcome_of}

pub leaves : {o : EditOutcome} {r : Result TriMesh Refusal} {a m : TriMesh} {vs : List Float} {ts : List ℕ}
    → GivesEdit o m r vs ts → a ≡ record_after m r → state a vs ts ≡ o.state
leaves g h i = record { mesh = (h ∙ g.mesh) i; vertices = g.vertices i; triangles = g.triangles i }

pub outcome_slice : (r : Result Cut Refusal) (a : List ℕ) → (outcome_of r a).slice ≡ a
outcome_slice (Ok c) a = refl
outcome_slice (Err why) a = refl

pub leaves_slice : (v : List Float) (k n : ℕ) (r : Result Cut Refusal) (a : List ℕ) → outcome_of r a ≡ clip_outline v k → k ≡ n
    → a ≡ (clip_outline v n).slice
leaves_slice v k n r a e h = sym (outcome_slice r a) ∙ ap (λ (o : ClipOutcome). o.slice) e ∙ ap (λ (j : ℕ). (clip_outline v j).slice) h

-- the record after a call
pub kept_or : (r : Result TriMesh Refusal) (m : TriMesh) → result_unwrap_or r m ≡ record_after m r
kept_or (Ok after) m = refl
kept_or (Err refusal) m = refl
