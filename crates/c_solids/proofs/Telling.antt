-- The answers of the calls that make or change a mesh, and of `bounding_box`, told as plain numbers. Assumes nothing.
use mathlib.Core.Path.{◌≡◌, refl, ap, ◌∙◌}
use mathlib.Core.List.{List}
use Prim.Native.Nat.{ℕ}
use lib.Ieee.{Float}
use Rattle.std.specs.Prelude.{Result, Ok, Err}
use Rattle.std.specs.Result.{result_unwrap_or}
use Rattle.math.specs.declared.BoundingBox.{BoundingBox}
use Rattle.refusal.specs.declared.Refusal.{Refusal}
use Rattle.refusal.specs.Answer.{answer_of}
use Rattle.refusal.specs.Number.{number_of}
use Rattle.mesh_check.specs.declared.TriMesh.{TriMesh}
use Rattle.mesh_check.specs.State.{record_of, empty_record, record_after, Boxed}
use Rattle.mesh_measures.specs.Measures.{box_answered, GivesBox}
use Rattle.mesh_edit_law.specs.Outcome.{EditOutcome, GivesEdit}
use Rattle.mesh_made.specs.Made.{Ending, GivesMade}
use Rattle.c_solids.specs.Boxes.{six_of, box_in}
use Rattle.c_solids.specs.Answers.{TellsBox, Tells, Leaves}

-- a record that is made with a box
pub boxed_record : {m : TriMesh} {nv nt : ℕ} {b u : BoundingBox} → m ≡ record_of nv nt b → b ≡ u → m ≡ record_of nv nt u
boxed_record {nv = nv} {nt = nt} e h = e ∙ ap (record_of nv nt) h

-- a record by its counts and the six floats of its box
pub told : (m : TriMesh) (six : List Float) → six ≡ six_of m.bounds → record_of m.vertices m.triangles (box_in six) ≡ m
unfolding six_of box_in
told m six e = ap (λ (l : List Float). record_of m.vertices m.triangles (box_in l)) e

pub tells : {o : Ending} {r : Result TriMesh Refusal} {m : TriMesh} {n nv nt : ℕ} {six vs : List Float} {ts ws : List ℕ}
    → GivesMade o r vs ts ws → m ≡ empty_record → n ≡ number_of (answer_of r) → record_of nv nt (box_in six) ≡ record_after m r
    → Tells o n nv nt six vs ts ws
tells {r = r} g h e b = record {
  refusal = e ∙ g.number;
  mesh = b ∙ ap (λ (m : TriMesh). record_after m r) h ∙ g.mesh;
  vertices = g.vertices;
  triangles = g.triangles;
  work = g.work;
}

pub leaves : {o : EditOutcome} {r : Result TriMesh Refusal} {m : TriMesh} {n nv nt : ℕ} {six vs : List Float} {ts : List ℕ}
    → GivesEdit o m r vs ts → n ≡ number_of (answer_of r) → record_of nv nt (box_in six) ≡ record_after m r → Leaves o n nv nt six vs ts
leaves g e b = record { refusal = e ∙ g.number; mesh = b ∙ g.mesh; vertices = g.vertices; triangles = g.triangles }

pub tells_box : {o : Boxed} {r : Result BoundingBox Refusal} {n : ℕ} {b : BoundingBox} {six : List Float}
    → GivesBox o r → n ≡ number_of (answer_of r) → b ≡ box_answered r → six ≡ six_of b → TellsBox o n six
tells_box g e h b = record { refusal = e ∙ g.number; bounds = b ∙ ap six_of (h ∙ g.bounds) }

-- the record after a call
pub kept_or : (r : Result TriMesh Refusal) (m : TriMesh) → result_unwrap_or r m ≡ record_after m r
kept_or (Ok after) m = refl
kept_or (Err refusal) m = refl
