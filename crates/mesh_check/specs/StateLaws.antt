-- What was stored in the slices is the mesh that they hold, under its record; and a refusal or none, beside a box. Assumes nothing.
use Rattle.std.specs.Prelude.{◌≡◌, refl, Bool, true, false, List, ℕ, ◌*◌, length, drop}
use Rattle.std.proofs.Common.{sym, ◌∙◌}
use Rattle.std.proofs.Math.Path.{ap}
use Rattle.std.specs.Float.Ieee.{add, of_bits}
use Rattle.math.specs.declared.Vec3.{Vec3}
use Rattle.math.specs.declared.BoundingBox.{BoundingBox}
use Rattle.math.specs.Box.{empty_box}
use Rattle.mesh_balance_spec.specs.Soup.{Tri}
use Rattle.mesh_balance_spec.specs.Buffer.{tris, tris_flat}
use Rattle.mesh_spec.specs.Mesh.{Mesh, no_mesh, plus_zero_v}
use Rattle.mesh_spec.specs.Slices.{points}
use Rattle.mesh_spec.specs.SliceLaws.{points_flat_v, take_flat, take_flat_v}
use Rattle.mesh_spec.specs.Measures.{including, plus_zero_box, box_of, bounding_box}
use Rattle.refusal.specs.Answer.{Answer}
use Rattle.refusal.specs.Accepted.{is_accepted}
use Rattle.mesh_check.specs.declared.TriMesh.{TriMesh}
use Rattle.mesh_check.specs.State.{record_for, empty_record, State, mesh_of, stored, Boxed, boxed_with}

pub mesh_stored : (m : Mesh) (s : State) → mesh_of (stored m s) ≡ m
unfolding mesh_of stored
mesh_stored m s =
    let v = ap {B = List Vec3} points (take_flat_v m.vertices (drop (3 * length m.vertices) s.vertices)) ∙ points_flat_v m.vertices in
    let t = ap {B = List (Tri ℕ)} tris (take_flat m.triangles (drop (3 * length m.triangles) s.triangles)) ∙ tris_flat m.triangles in
    λ j. record { vertices = v j; triangles = t j }

-- the record of a stored mesh is that of the mesh
pub record_stored : (m : Mesh) (s : State) → (stored m s).mesh ≡ record_for m
unfolding stored
record_stored m s = refl

-- so its box is `bounding_box` of the vertices that the slice holds
pub bounds_stored : (m : Mesh) (s : State) → (stored m s).mesh.bounds ≡ bounding_box (mesh_of (stored m s))
bounds_stored m s = ap {B = BoundingBox} (λ (r : TriMesh). r.bounds) (record_stored m s) ∙ ap {B = BoundingBox} bounding_box (sym (mesh_stored m s))

-- the record of the mesh without vertices and triangles
pub empty_is : record_for no_mesh ≡ empty_record
unfolding bounding_box box_of including plus_zero_box plus_zero_v empty_box add of_bits
empty_is = refl

-- ---- a refusal or none, with a box
module _ (q : Answer) (b : BoundingBox) (r : Boxed) (e : r ≡ boxed_with q b) where
  pub boxed_refusal : r.refusal ≡ q
  unfolding boxed_with
  boxed_refusal = ap {B = Answer} (λ (x : Boxed). x.refusal) e

  pub boxed_bounds : is_accepted r.refusal ≡ true → r.bounds ≡ b
  unfolding boxed_with
  boxed_bounds h = ap {B = BoundingBox} (λ (x : Boxed). x.bounds) e ∙ rw (sym (ap {B = Bool} is_accepted boxed_refusal) ∙ h)

-- where it is a refusal, the box does not matter
pub refused_boxed : (q p : Answer) (a b : BoundingBox) → is_accepted q ≡ false → q ≡ p → boxed_with q a ≡ boxed_with p b
unfolding boxed_with
refused_boxed q p a b e h = boxed_either e ∙ (λ j. boxed_with (h j) b)
  where
    boxed_either : is_accepted q ≡ false → boxed_with q a ≡ boxed_with q b
    boxed_either e = rw e
