-- Which refusal `append` answers, by the tests in their order, and the box of both meshes. Assumes nothing.
use mathlib.Core.Path.{◌≡◌, refl, sym, ap₂, ◌∙◌}
use mathlib.Core.Bool.{Bool, true, false, not, ◌&&◌, ◌||◌}
use Prim.Native.Nat.{ℕ, ◌+◌, ◌*◌}
use lib.ListN.{length, take, get_or}
use lib.Dec.{T, ltb}
use lib.Ieee.{nan, binary64, fits}
use Rattle.math.specs.Box.{union}
use Rattle.mesh_spec.specs.Mesh.{append}
use Rattle.mesh_spec.specs.Measures.{bounding_box, same_box}
use Rattle.mesh_box.specs.declared.FiniteBox.{FiniteBox}
use Rattle.mesh_box.specs.FiniteBox.{finite_box}
use Rattle.mesh_box_law.specs.Boxes.{box_append}
use Rattle.refusal.specs.Answer.{Accepted, NotFinite, NoRoom, BadMesh}
use Rattle.slice.specs.Every.{counted_places}
use Rattle.mesh_check.specs.State.{State, mesh_of, bad_mesh, not_finite, bad_box, no_room, Sound}
use Rattle.mesh_check.proofs.Stored.{appended_vertices, appended_triangles}
use Rattle.mesh_check.proofs.Tests.{found_points, found_not_finite, found_bad_box}
use Rattle.slice_law.specs.Bools.{not_and}
use Rattle.mesh_check_append.specs.Append.{append_refusal}

-- ---- the tests of either mesh
pub bad_test : (s o : State) {x y b : Bool} → x ≡ bad_mesh s → y ≡ bad_mesh o → (x || y) ≡ b → (bad_mesh s || bad_mesh o) ≡ b
bad_test s o e f h = sym (ap₂ ◌||◌ e f) ∙ h

-- what one pass over the vertices of each tells
module _ (s o : State) (f g : FiniteBox) (e : f ≡ finite_box (take (3 * s.mesh.vertices) s.vertices)) (h : g ≡ finite_box (take (3 * o.mesh.vertices) o.vertices)) where
  pub finite_tests : {b : Bool} → not (f.finite && g.finite) ≡ b → (not_finite s || not_finite o) ≡ b
  finite_tests t =
      ap₂ ◌||◌ (found_not_finite s f e (not f.finite) refl) (found_not_finite o g h (not g.finite) refl) ∙ not_and f.finite g.finite ∙ t

  pub box_tests : {x y b : Bool} → x ≡ same_box s.mesh.bounds f.bounds → y ≡ same_box o.mesh.bounds g.bounds → not (x && y) ≡ b
      → (bad_box s || bad_box o) ≡ b
  box_tests {x} {y} p q t = ap₂ ◌||◌ (found_bad_box s f e x (not x) p refl) (found_bad_box o g h y (not y) q refl) ∙ not_and x y ∙ t

  -- the box of both is the union of their boxes
  pub union_box : ((i : ℕ) → T (fits binary64 (get_or s.vertices i nan))) → ((i : ℕ) → T (fits binary64 (get_or o.vertices i nan)))
      → union f.bounds g.bounds ≡ bounding_box (append (mesh_of s) (mesh_of o))
  unfolding bounding_box append mesh_of
  union_box k l =
      (λ j. union (found_points s f e j) (found_points o g h j)) ∙ sym (box_append (3 * s.mesh.vertices) (3 * o.mesh.vertices) s.vertices o.vertices k l)

-- ---- which refusal they give
module _ (s o : State) where
  pub append_bad : (bad_mesh s || bad_mesh o) ≡ true → BadMesh ≡ append_refusal s o
  unfolding append_refusal
  append_bad e = rw e

  module _ (e : (bad_mesh s || bad_mesh o) ≡ false) where
    pub append_not_finite : (not_finite s || not_finite o) ≡ true → NotFinite ≡ append_refusal s o
    unfolding append_refusal
    append_not_finite f = rw (e, f)

    module _ (f : (not_finite s || not_finite o) ≡ false) where
      pub append_bad_box : (bad_box s || bad_box o) ≡ true → BadMesh ≡ append_refusal s o
      unfolding append_refusal
      append_bad_box g = rw (e, f, g)

      module _ (g : (bad_box s || bad_box o) ≡ false) where
        pub append_no_room : no_room (append (mesh_of s) (mesh_of o)) (length s.vertices) (length s.triangles) ≡ true → NoRoom ≡ append_refusal s o
        unfolding append_refusal
        append_no_room h = rw (e, f, g, h)

        pub append_accepted : no_room (append (mesh_of s) (mesh_of o)) (length s.vertices) (length s.triangles) ≡ false → Accepted ≡ append_refusal s o
        unfolding append_refusal
        append_accepted h = rw (e, f, g, h)

module _ (s o : State) (ok : Sound s) (fine : Sound o) where
  abbrev vp : ℕ
  vp = counted_places (length s.vertices)

  abbrev tp : ℕ
  tp = counted_places (length s.triangles)

  room_is : no_room (append (mesh_of s) (mesh_of o)) (length s.vertices) (length s.triangles)
      ≡ (ltb vp (s.mesh.vertices + o.mesh.vertices) || ltb tp (s.mesh.triangles + o.mesh.triangles))
  unfolding no_room
  room_is = λ j. ltb vp (appended_vertices s o ok fine j) || ltb tp (appended_triangles s o ok fine j)

  pub room_test : {x y : ℕ} {b : Bool} → x ≡ vp → y ≡ tp → (ltb x (s.mesh.vertices + o.mesh.vertices) || ltb y (s.mesh.triangles + o.mesh.triangles)) ≡ b
      → no_room (append (mesh_of s) (mesh_of o)) (length s.vertices) (length s.triangles) ≡ b
  room_test e f h = room_is ∙ sym (λ j. ltb (e j) (s.mesh.vertices + o.mesh.vertices) || ltb (f j) (s.mesh.triangles + o.mesh.triangles)) ∙ h
