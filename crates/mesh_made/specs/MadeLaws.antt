-- The record of an ending has the box of the counted vertices. Of an ending that is no refusal: nothing refused the call, and its slices hold the mesh.
-- Assumes nothing.
use Rattle.std.specs.Prelude.{Result, ◌≡◌, List, ℕ, ◌-◌, ◌*◌, length, replicate, Float}
use Rattle.std.proofs.Math.Path.{refl, ap}
use Rattle.std.proofs.Common.{sym, ◌∙◌, subst}
use Rattle.std.specs.Float.{binary64}
use Rattle.std.specs.Float.Ieee.{of_bits}
use Rattle.math.specs.declared.Vec3.{Vec3}
use Rattle.refusal.specs.declared.Refusal.{Refusal}
use Rattle.refusal.specs.Answer.{Answer}
use Rattle.mesh_balance_spec.specs.Soup.{Tri}
use Rattle.mesh_balance_spec.specs.Buffer.{tris, tris_flat}
use Rattle.mesh_spec.specs.Mesh.{Mesh, no_mesh}
use Rattle.mesh_spec.specs.Measures.{bounding_box}
use Rattle.mesh_spec.specs.Slices.{points}
use Rattle.mesh_spec.specs.SliceLaws.{points_flat_v, take_flat, take_flat_v}
use Rattle.mesh_check.specs.declared.TriMesh.{TriMesh}
use Rattle.mesh_check.specs.State.{State, state, mesh_of}
use Rattle.mesh_made.specs.Made.{record_made, Lent, Ending, refused_as, accepted_as, GivesMade}

-- the slices of an accepted ending hold the mesh
pub laid : (m : Mesh) (n : Lent) → mesh_of (accepted_as m n).state ≡ m
unfolding mesh_of accepted_as
laid m n =
    let v = ap {B = List Vec3} points (take_flat_v m.vertices (replicate (n.vertices - 3 * length m.vertices) (of_bits binary64 0)))
    ∙ points_flat_v m.vertices in
    let t = ap {B = List (Tri ℕ)} tris (take_flat m.triangles (replicate (n.triangles - 3 * length m.triangles) 0)) ∙ tris_flat m.triangles in
    λ i. record { vertices = v i; triangles = t i }

-- those of a refused one hold no vertex and no triangle
pub none_laid : (q : Answer) (n : Lent) → mesh_of (refused_as q n).state ≡ no_mesh
unfolding mesh_of refused_as
none_laid q n = refl

-- record and slices as a call leaves them are those of its ending
pub left_as : {o : Ending} {r : Result TriMesh Refusal} {vs : List Float} {ts ws : List ℕ} → GivesMade o r vs ts ws → o.state ≡ state (record_made r) vs ts
left_as g = λ i. state (sym g.mesh i) (sym g.vertices i) (sym g.triangles i)

-- so the record that a call leaves has the box of the vertices that it leaves, where its ending has it
pub left_bounds : {o : Ending} {r : Result TriMesh Refusal} {vs : List Float} {ts ws : List ℕ} → o.state.mesh.bounds ≡ bounding_box (mesh_of o.state)
    → GivesMade o r vs ts ws → (record_made r).bounds ≡ bounding_box (mesh_of (state (record_made r) vs ts))
left_bounds h g = subst (λ (s : State). s.mesh.bounds ≡ bounding_box (mesh_of s)) (left_as g) h
