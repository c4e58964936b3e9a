-- What check 8 shows of a state. Assumes nothing.
use mathlib.Core.Path.{◌≡◌, refl, sym, ap, ◌∙◌}
use mathlib.Core.Bool.{Bool, true, false, not, ◌||◌, cond, false≢true}
use Prim.Native.Nat.{ℕ, ◌*◌, ◌≤◌, ◌<◌}
use native.Mathlib.Omega.{arith}
use lib.ListN.{length, take, get_or}
use lib.Dec.{ltb}
use lib.Ieee.Scale.{finite}
use borrow.Author.Tests.{ltb-true, ltb-false, lt-ltb, le-ltb, not-false}
use Rattle.slice_law.specs.Bools.{neither, or_true}
use Rattle.refusal.specs.Answer.{Answer, Accepted, NotFinite, BadMesh}
use Rattle.slice.specs.Every.{counted_places, every}
use Rattle.refusal.specs.Accepted.{is_accepted}
use Rattle.mesh_check.specs.State.{State, bad_mesh, not_finite, bad_box, check_of, Sound}
use Rattle.slice_bounded.specs.Bounded.{is_bounded}
use Rattle.mesh_move_affine.specs.Affine.{FiniteVertices, Tested}
use Rattle.slice.specs.EveryLaws.{every_at}

pub places_three : (n len : ℕ) → n ≤ counted_places len → 3 * n ≤ len
unfolding counted_places
places_three n len h = omega arith

pub places_limit : (n len : ℕ) → n ≤ counted_places len → n ≤ 4294967295
unfolding counted_places
places_limit n len h = omega arith

module _ (s : State) (good : bad_mesh s ≡ false) where
  parts : ((ltb (counted_places (length s.vertices)) s.mesh.vertices || ltb (counted_places (length s.triangles)) s.mesh.triangles) ≡ false) ×
      (not (every (λ i. ltb i s.mesh.vertices) (take (3 * s.mesh.triangles) s.triangles)) ≡ false)
  unfolding bad_mesh
  parts = neither (ltb (counted_places (length s.vertices)) s.mesh.vertices || ltb (counted_places (length s.triangles)) s.mesh.triangles)
      (not (every (λ i. ltb i s.mesh.vertices) (take (3 * s.mesh.triangles) s.triangles))) good

  pub vertices_fit : s.mesh.vertices ≤ counted_places (length s.vertices)
  vertices_fit = ltb-false (counted_places (length s.vertices)) s.mesh.vertices
      (neither (ltb (counted_places (length s.vertices)) s.mesh.vertices) (ltb (counted_places (length s.triangles)) s.mesh.triangles) parts.0).0

  pub triangles_fit : s.mesh.triangles ≤ counted_places (length s.triangles)
  triangles_fit = ltb-false (counted_places (length s.triangles)) s.mesh.triangles
      (neither (ltb (counted_places (length s.vertices)) s.mesh.vertices) (ltb (counted_places (length s.triangles)) s.mesh.triangles) parts.0).1

  pub sound : Sound s
  sound = record {
    vertices = places_three s.mesh.vertices (length s.vertices) vertices_fit;
    triangles = places_three s.mesh.triangles (length s.triangles) triangles_fit;
    below = λ i h. ltb-true (get_or s.triangles i 0) s.mesh.vertices (
        every_at (λ j. ltb j s.mesh.vertices) s.triangles (3 * s.mesh.triangles) i 0
        (not-false (every (λ j. ltb j s.mesh.vertices) (take (3 * s.mesh.triangles) s.triangles)) parts.1) h
        (places_three s.mesh.triangles (length s.triangles) triangles_fit)
        );
  }

  pub finite_vertices : not_finite s ≡ false → FiniteVertices s.vertices s.mesh.vertices
  unfolding not_finite
  finite_vertices h = record { within = sound.vertices; finite = not-false (every finite (take (3 * s.mesh.vertices) s.vertices)) h }

  pub tested : not_finite s ≡ false → (small : Bool) → (small ≡ true → every is_bounded (take (3 * s.mesh.vertices) s.vertices) ≡ true)
      → Tested s.vertices s.mesh.vertices small
  tested h small e = record { vertices = finite_vertices h; bounded = e }

-- ---- a call that was accepted
-- its first test did not refuse
pub not_bad : (a : Bool) (q : Answer) → is_accepted (cond a BadMesh q) ≡ true → a ≡ false
not_bad true q e = absurd (false≢true e)
not_bad false q e = refl

pub check_sound : (s : State) (r : Answer) → r ≡ check_of s → is_accepted r ≡ true → Sound s
unfolding check_of
check_sound s r e h = sound s (not_bad (bad_mesh s) (cond (not_finite s) NotFinite (cond (bad_box s) BadMesh Accepted)) (sym (ap {B = Bool} is_accepted e) ∙ h))

-- ---- the tests in their order
module _ (s : State) where
  pub bad_vertices : counted_places (length s.vertices) < s.mesh.vertices → true ≡ bad_mesh s
  unfolding bad_mesh
  bad_vertices h = rw (lt-ltb (counted_places (length s.vertices)) s.mesh.vertices h)

  pub bad_triangles : counted_places (length s.triangles) < s.mesh.triangles → true ≡ bad_mesh s
  unfolding bad_mesh
  bad_triangles h = rw (lt-ltb (counted_places (length s.triangles)) s.mesh.triangles h, or_true (ltb (counted_places (length s.vertices)) s.mesh.vertices))

  pub bad_numbers : (b : Bool) → s.mesh.vertices ≤ counted_places (length s.vertices) → s.mesh.triangles ≤ counted_places (length s.triangles)
      → b ≡ every (λ i. ltb i s.mesh.vertices) (take (3 * s.mesh.triangles) s.triangles) → not b ≡ bad_mesh s
  unfolding bad_mesh
  bad_numbers b h k e = rw (le-ltb (counted_places (length s.vertices)) s.mesh.vertices h, le-ltb (counted_places (length s.triangles)) s.mesh.triangles k) (ap {B = Bool} not e)
