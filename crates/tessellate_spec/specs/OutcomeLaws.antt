-- The first refusal of a job, by what the checks say in their order. Assumes nothing.
use Rattle.std.specs.Prelude.{◌≡◌, Bool, not, ◌||◌, length}
use Rattle.std.proofs.Math.Path.{refl, sym}
use Rattle.std.proofs.Common.{ap, ◌∙◌}
use Rattle.std.proofs.Math.Bool.{true, false, cond}
use Rattle.std.proofs.lemmas.List.{length-map}
use Rattle.std.proofs.Math.Dec.{ltb}
use Rattle.std.specs.Float.{binary64}
use Rattle.std.specs.Float.Ieee.{lt, of_bits}
use Rattle.refusal.specs.Answer.{Answer, Accepted, PointNotFinite, ShortWork, NoRoom}
use Rattle.refusal.specs.Accepted.{is_accepted, or_else}
use Rattle.slice.specs.Every.{counted_places}
use Rattle.mesh_balance_spec.specs.Soup.{flip_tri}
use Rattle.mesh_spec.specs.Mesh.{Mesh, flip, from_parts}
use Rattle.mesh_spec.specs.Measures.{signed_volume}
use Rattle.mesh_spec.specs.Parts.{parts_finite}
use Rattle.shape.specs.Rotated.{is_rot_poly}
use Rattle.mesh_check.specs.State.{no_room}
use Rattle.mesh_made.specs.Made.{Lent, short_work}
use Rattle.mesh_made.specs.Steps.{parts_refusal}
use Rattle.solid_spec.specs.Solid.{outward, outward_if, solid_mesh}
use Rattle.tessellate_spec.specs.Outcome.{Job, job_parts, welded_mesh, job_refusal, bad_soup, bad_vertex, refusal_of}

-- ---- turning outward keeps the counts
flips_or : (b : Bool) (m : Mesh)
    → (length (cond b (flip m) m).vertices ≡ length m.vertices) × (length (cond b (flip m) m).triangles ≡ length m.triangles)
unfolding flip
flips_or true m = (refl, length-map m.triangles flip_tri)
flips_or false m = (refl, refl)

outward_counts : (b : Bool) (m : Mesh)
    → (length (outward_if b m).vertices ≡ length m.vertices) × (length (outward_if b m).triangles ≡ length m.triangles)
unfolding outward
outward_counts true m = flips_or (lt (signed_volume m) (of_bits binary64 0)) m
outward_counts false m = (refl, refl)

module _ (j : Job) where
  pub welded_is : welded_mesh j ≡ outward_if (is_rot_poly j.shape) (from_parts (job_parts j))
  unfolding welded_mesh solid_mesh
  welded_is = refl

  pub places_same : (n : Lent) → no_room (welded_mesh j) n.vertices n.triangles ≡ no_room (from_parts (job_parts j)) n.vertices n.triangles
  unfolding no_room
  places_same n =
      let c = outward_counts (is_rot_poly j.shape) (from_parts (job_parts j)) in
      (λ i. ltb (counted_places n.vertices) (length (welded_is i).vertices) || ltb (counted_places n.triangles) (length (welded_is i).triangles))
      ∙ (λ i. ltb (counted_places n.vertices) (c.0 i) || ltb (counted_places n.triangles) (c.1 i))
