-- A mesh that lies in two lent slices under its own record, and refusal 7 at its edge, by computation. Assumes nothing.
use Rattle.std.specs.Prelude.{◌≡◌, refl, true, false, [], ◌∷◌}
use Rattle.math.specs.declared.Vec3.{Vec3}
use Rattle.slice.specs.Every.{counted_places}
use Rattle.mesh_spec.specs.Mesh.{Mesh}
use Rattle.mesh_spec.specs.Closed.{AllThere}
use Rattle.mesh_spec.specs.Measures.{bounding_box}
use Rattle.mesh_check.specs.State.{State, mesh_of, no_room, Sound}

-- `Sound`, and the record has the mesh's box
pub record Recorded (s : State) : Type 0 where
  pub sound : Sound s
  pub bounds : s.mesh.bounds ≡ bounding_box (mesh_of s)

-- that, and the triangles of the mesh name only vertices that are there
pub record Whole (s : State) : Type 0 where
  pub recorded : Recorded s
  pub there : AllThere (mesh_of s)

-- ---- refusal 7 at its edge: three vertices and a triangle

abbrev triangle : Vec3 → Mesh
triangle p = record { vertices = p ∷ p ∷ p ∷ []; triangles = (0, 1, 2) ∷ [] }

-- they just fit; a broken place does not count
enough_places : (p : Vec3) → no_room (triangle p) 9 3 ≡ false
unfolding no_room counted_places
enough_places p = refl

vertices_short : (p : Vec3) → no_room (triangle p) 8 3 ≡ true
unfolding no_room counted_places
vertices_short p = refl

triangles_short : (p : Vec3) → no_room (triangle p) 9 2 ≡ true
unfolding no_room counted_places
triangles_short p = refl
