-- Which refusal a call answers, by the tests in their order. Assumes nothing.
use mathlib.Core.Path.{◌≡◌, refl, sym, ap, ◌∙◌}
use mathlib.Core.Bool.{Bool, true, false, not, cond}
use mathlib.Core.List.{map}
use Prim.Native.Nat.{◌*◌}
use lib.ListN.{take}
use lib.Ieee.{binary64, lt, of_bits}
use lib.Ieee.Scale.{finite}
use Rattle.math.specs.declared.BoundingBox.{BoundingBox}
use Rattle.math_matrix.specs.declared.Mat4.{Mat4}
use Rattle.math_matrix.specs.Mat.{transform_point, determinant}
use Rattle.mesh_spec.specs.Mesh.{Mesh, flip}
use Rattle.mesh_spec.specs.Edits.{moved, transform}
use Rattle.mesh_spec.specs.Slices.{points}
use Rattle.mesh_spec.specs.Measures.{box_of, bounding_box, same_box}
use Rattle.mesh_box.specs.declared.FiniteBox.{FiniteBox}
use Rattle.mesh_box.specs.FiniteBox.{finite_box}
use Rattle.refusal.specs.Answer.{Accepted, NotFinite, BadMesh}
use Rattle.slice.specs.Every.{every}
use Rattle.mesh_check.specs.State.{State, mesh_of, bad_mesh, not_finite, bad_box, check_of}

-- ---- tests
-- the test of the coordinates, as the loop answers it
pub finite_test : (s : State) (r b : Bool) → r ≡ every finite (take (3 * s.mesh.vertices) s.vertices) → not r ≡ b → not_finite s ≡ b
unfolding not_finite
finite_test s r b e h = sym (ap {B = Bool} not e) ∙ h

-- the test of the box, as the code answers it
pub box_test : (s : State) (r b : Bool) → r ≡ same_box s.mesh.bounds (box_of (points (take (3 * s.mesh.vertices) s.vertices))) → not r ≡ b → bad_box s ≡ b
unfolding bad_box mesh_of bounding_box
box_test s r b e h = sym (ap {B = Bool} not e) ∙ h

-- ---- what one pass over the vertices tells
module _ (s : State) (f : FiniteBox) (e : f ≡ finite_box (take (3 * s.mesh.vertices) s.vertices)) where
  pub found_finite : f.finite ≡ every finite (take (3 * s.mesh.vertices) s.vertices)
  unfolding finite_box
  found_finite = ap {B = Bool} (λ (r : FiniteBox). r.finite) e

  pub found_points : f.bounds ≡ box_of (points (take (3 * s.mesh.vertices) s.vertices))
  unfolding finite_box
  found_points = ap {B = BoundingBox} (λ (r : FiniteBox). r.bounds) e

  pub found_bounds : f.bounds ≡ bounding_box (mesh_of s)
  unfolding bounding_box mesh_of
  found_bounds = found_points

  -- the two tests that are made of it
  pub found_not_finite : (b : Bool) → not f.finite ≡ b → not_finite s ≡ b
  found_not_finite b h = finite_test s f.finite b found_finite h

  pub found_bad_box : (r b : Bool) → r ≡ same_box s.mesh.bounds f.bounds → not r ≡ b → bad_box s ≡ b
  found_bad_box r b q h = box_test s r b (q ∙ ap {B = Bool} (same_box s.mesh.bounds) found_points) h

-- ---- the check of every call
module _ (s : State) where
  pub check_bad : bad_mesh s ≡ true → BadMesh ≡ check_of s
  unfolding check_of
  check_bad e = rw e

  pub check_not_finite : bad_mesh s ≡ false → not_finite s ≡ true → NotFinite ≡ check_of s
  unfolding check_of
  check_not_finite e f = rw (e, f)

  pub check_bad_box : bad_mesh s ≡ false → not_finite s ≡ false → bad_box s ≡ true → BadMesh ≡ check_of s
  unfolding check_of
  check_bad_box e f g = rw (e, f, g)

  pub check_accepted : bad_mesh s ≡ false → not_finite s ≡ false → bad_box s ≡ false → Accepted ≡ check_of s
  unfolding check_of
  check_accepted e f g = rw (e, f, g)

-- ---- a mesh under a matrix
pub transform_mirrors : (a : Mat4) (m : Mesh) → lt (determinant a) (of_bits binary64 0) ≡ true → transform a m ≡ flip (moved a m)
unfolding transform
transform_mirrors a m e = rw e

pub transform_moves : (a : Mat4) (m : Mesh) → lt (determinant a) (of_bits binary64 0) ≡ false → transform a m ≡ moved a m
unfolding transform
transform_moves a m e = rw e

pub transform_vertices : (a : Mat4) (m : Mesh) → (transform a m).vertices ≡ map (transform_point a) m.vertices
unfolding transform moved flip
transform_vertices a m = go (lt (determinant a) (of_bits binary64 0))
  where
    go : (b : Bool) → (cond b (flip (moved a m)) (moved a m)).vertices ≡ map (transform_point a) m.vertices
    go true = refl
    go false = refl
