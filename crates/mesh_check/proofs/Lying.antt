-- A mesh as it lies at the start of two slices, under its own record. Assumes nothing.
use mathlib.Core.Path.{◌≡◌, sym, ap, ◌∙◌, subst}
use mathlib.Core.Bool.{◌&&◌}
use mathlib.Core.List.{List, [], ◌∷◌, ◌++◌}
use Prim.Native.Nat.{ℕ, zero, suc, ◌*◌, ◌<◌}
use native.Mathlib.Omega.{arith}
use native.Mathlib.Nat.{not-suc-le-zero}
use lib.ListN.{length, take, drop, get_or, length-append, take-append-drop, get_or-append}
use lib.Dec.{T, ltb, ltb→lt}
use lib.Ieee.Fits.{and_l, and_r}
use Rattle.math.specs.declared.BoundingBox.{BoundingBox}
use Rattle.mesh_balance_spec.specs.Soup.{Tri}
use Rattle.mesh_balance_spec.specs.Buffer.{flat, length_flat}
use Rattle.mesh_spec.specs.Mesh.{Mesh}
use Rattle.mesh_spec.specs.Slices.{flat_v}
use Rattle.mesh_spec.specs.SliceLaws.{length_flat_v}
use Rattle.mesh_spec.specs.Closed.{all_of, below, AllThere}
use Rattle.mesh_spec.specs.Measures.{bounding_box}
use Rattle.mesh_check.specs.declared.TriMesh.{TriMesh}
use Rattle.mesh_check.specs.State.{record_of, record_for, State, state, mesh_of, stored, Sound}
use Rattle.mesh_check.specs.Places.{Recorded, Whole}
use Rattle.mesh_check.specs.StateLaws.{mesh_stored, record_stored}
use Rattle.mesh_check.proofs.Stored.{mesh_vertices, mesh_triangles, floats, numbers}

-- the fronts of the slices are m, and the record has its box
pub lies : (m : Mesh) (s : State) → flat_v m.vertices ≡ take (3 * s.mesh.vertices) s.vertices → length m.vertices ≡ s.mesh.vertices
    → flat m.triangles ≡ take (3 * s.mesh.triangles) s.triangles → length m.triangles ≡ s.mesh.triangles
    → s.mesh.bounds ≡ bounding_box m → s ≡ stored m s
unfolding stored
lies m s fv nv ft nt b =
    let v : s.vertices ≡ flat_v m.vertices ++ drop (3 * length m.vertices) s.vertices
    = sym (take-append-drop (3 * s.mesh.vertices) s.vertices) ∙ (λ j. sym fv j ++ drop (3 * sym nv j) s.vertices) in
    let t : s.triangles ≡ flat m.triangles ++ drop (3 * length m.triangles) s.triangles
    = sym (take-append-drop (3 * s.mesh.triangles) s.triangles) ∙ (λ j. sym ft j ++ drop (3 * sym nt j) s.triangles) in
    λ j. state (record_of (sym nv j) (sym nt j) (b j)) (v j) (t j)

-- the mesh that the slices hold lies in them
pub stored_self : (s : State) → Recorded s → s ≡ stored (mesh_of s) s
stored_self s r =
    let ok = r.sound in
    lies (mesh_of s) s (floats s ok) (mesh_vertices s ok) (numbers s ok) (mesh_triangles s ok) r.bounds

-- a stored mesh is the one that the slices hold
pub mesh_is : (m : Mesh) (s t : State) → s ≡ stored m t → mesh_of s ≡ m
mesh_is m s t e = ap {B = Mesh} mesh_of e ∙ mesh_stored m t

-- ---- numbers below the vertex count
flat_below : (n : ℕ) (l : List (Tri ℕ)) → T (all_of (below n) l) → (i : ℕ) → i < 3 * length l → get_or (flat l) i 0 < n
unfolding all_of
flat_below n [] h i k = absurd (not-suc-le-zero k)
flat_below n (t ∷ l) h zero k = ltb→lt t.0 n (and_l (ltb t.0 n) (ltb t.1 n) (and_l (ltb t.0 n && ltb t.1 n) (ltb t.2 n) (and_l (below n t) (all_of (below n) l) h)))
flat_below n (t ∷ l) h (suc zero) k = ltb→lt t.1 n (and_r (ltb t.0 n) (ltb t.1 n) (and_l (ltb t.0 n && ltb t.1 n) (ltb t.2 n) (and_l (below n t) (all_of (below n) l) h)))
flat_below n (t ∷ l) h (suc (suc zero)) k = ltb→lt t.2 n (and_r (ltb t.0 n && ltb t.1 n) (ltb t.2 n) (and_l (below n t) (all_of (below n) l) h))
flat_below n (t ∷ l) h (suc (suc (suc i))) k = flat_below n l (and_r (below n t) (all_of (below n) l) h) i (omega arith)

stored_sound : (m : Mesh) (t : State) → AllThere m → Sound (stored m t)
unfolding stored
stored_sound m t h = record {
  vertices = omega (arith, length-append (flat_v m.vertices) (drop (3 * length m.vertices) t.vertices), length_flat_v m.vertices);
  triangles = omega (arith, length-append (flat m.triangles) (drop (3 * length m.triangles) t.triangles), length_flat m.triangles);
  below = λ i k.
      subst (λ (x : ℕ). x < length m.vertices)
      (sym (get_or-append (flat m.triangles) (drop (3 * length m.triangles) t.triangles) 0 i (omega (arith, length_flat m.triangles))))
      (flat_below (length m.vertices) m.triangles h i k);
}

-- the record of a stored mesh is that of the mesh
pub record_is : (m : Mesh) (s t : State) → s ≡ stored m t → s.mesh ≡ record_for m
record_is m s t e = ap {B = TriMesh} (λ (r : State). r.mesh) e ∙ record_stored m t

-- a stored mesh whose triangles name only vertices that are there
pub stored_whole : (m : Mesh) (s t : State) → s ≡ stored m t → AllThere m → Whole s
stored_whole m s t e h = record {
  recorded = record {
    sound = subst Sound (sym e) (stored_sound m t h);
    bounds = ap {B = BoundingBox} (λ (r : TriMesh). r.bounds) (record_is m s t e) ∙ sym (ap {B = BoundingBox} bounding_box (mesh_is m s t e));
  };
  there = subst AllThere (sym (mesh_is m s t e)) h;
}
