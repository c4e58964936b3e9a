-- What an accepted append may rely on. Assumes nothing.
use mathlib.Core.Path.{◌≡◌, refl, sym, ap}
use mathlib.Core.Bool.{Bool, true, false, ◌||◌, cond, false≢true}
use Prim.Native.Nat.{ℕ, ◌+◌, ◌*◌, ◌≤◌, ◌<◌, ◌^◌}
use native.Mathlib.Omega.{arith}
use lib.ListN.{length, get_or}
use lib.Dec.{ltb}
use borrow.Author.Tests.{ltb-false}
use Rattle.mesh_spec.specs.Mesh.{append}
use Rattle.std.specs.Prelude.{Ok}
use Rattle.math.specs.declared.BoundingBox.{BoundingBox}
use Rattle.refusal.specs.Answer.{Accepted, NotFinite, NoRoom, BadMesh, answer_with}
use Rattle.refusal.specs.Laws.{answer_ok}
use Rattle.slice.specs.Every.{counted_places}
use Rattle.refusal.specs.Accepted.{is_accepted}
use Rattle.mesh_check.specs.State.{State, mesh_of, bad_mesh, not_finite, bad_box, no_room, Sound}
use Rattle.mesh_check_append.specs.Append.{append_refusal}
use Rattle.slice_law.specs.Bools.{neither}
use Rattle.mesh_check.proofs.Sound.{not_bad, sound, places_three, places_limit}
use Rattle.mesh_check.proofs.Stored.{appended_vertices, appended_triangles}

last : (a b c d : Bool) → is_accepted (cond a BadMesh (cond b NotFinite (cond c BadMesh (cond d NoRoom Accepted)))) ≡ true → d ≡ false
last true b c d e = absurd (false≢true e)
last false true c d e = absurd (false≢true e)
last false false true d e = absurd (false≢true e)
last false false false true e = absurd (false≢true e)
last false false false false e = refl

-- two meshes of which the second can be appended to the first
pub record Appends (s o : State) : Type 0 where
  pub ok : Sound s
  pub fine : Sound o
  pub vertices : 3 * s.mesh.vertices + 3 * o.mesh.vertices ≤ length s.vertices
  pub triangles : 3 * s.mesh.triangles + 3 * o.mesh.triangles ≤ length s.triangles
  pub limit : s.mesh.vertices + o.mesh.vertices ≤ 4294967295
  pub limit_t : s.mesh.triangles + o.mesh.triangles ≤ 4294967295
  pub fits : (i : ℕ) → i < 3 * o.mesh.triangles → get_or o.triangles i 0 + s.mesh.vertices < 2 ^ 32

module _ (s o : State) (b x : BoundingBox) (e : Ok x ≡ answer_with (append_refusal s o) b) where
  pub unrefused : Accepted ≡ append_refusal s o
  unrefused = sym (answer_ok (append_refusal s o) b x e).0

  pub united : x ≡ b
  united = (answer_ok (append_refusal s o) b x e).1

  abbrev short : Bool
  short = no_room (append (mesh_of s) (mesh_of o)) (length s.vertices) (length s.triangles)

  good : (bad_mesh s || bad_mesh o) ≡ false
  unfolding append_refusal
  good =
      not_bad (bad_mesh s || bad_mesh o) (cond (not_finite s || not_finite o) NotFinite (cond (bad_box s || bad_box o) BadMesh (cond short NoRoom Accepted)))
      (sym (ap {B = Bool} is_accepted unrefused))

  roomy : short ≡ false
  unfolding append_refusal
  roomy = last (bad_mesh s || bad_mesh o) (not_finite s || not_finite o) (bad_box s || bad_box o) short (sym (ap {B = Bool} is_accepted unrefused))

  sound_s : Sound s
  sound_s = sound s (neither (bad_mesh s) (bad_mesh o) good).0

  sound_o : Sound o
  sound_o = sound o (neither (bad_mesh s) (bad_mesh o) good).1

  abbrev vn : ℕ
  vn = s.mesh.vertices + o.mesh.vertices

  abbrev tn : ℕ
  tn = s.mesh.triangles + o.mesh.triangles

  rooms : (vn ≤ counted_places (length s.vertices)) × (tn ≤ counted_places (length s.triangles))
  unfolding no_room
  rooms =
      let vp = counted_places (length s.vertices) in
      let tp = counted_places (length s.triangles) in
      let p = neither (ltb vp (length (append (mesh_of s) (mesh_of o)).vertices)) (ltb tp (length (append (mesh_of s) (mesh_of o)).triangles)) roomy in (
        omega (arith, ltb-false vp (length (append (mesh_of s) (mesh_of o)).vertices) p.0, appended_vertices s o sound_s sound_o),
        omega (arith, ltb-false tp (length (append (mesh_of s) (mesh_of o)).triangles) p.1, appended_triangles s o sound_s sound_o),
      )

  pub appends : Appends s o
  appends =
      let l : vn ≤ 4294967295 = places_limit vn (length s.vertices) rooms.0 in
      record {
        ok = sound_s;
        fine = sound_o;
        vertices = omega (arith, places_three vn (length s.vertices) rooms.0);
        triangles = omega (arith, places_three tn (length s.triangles) rooms.1);
        limit = l;
        limit_t = places_limit tn (length s.triangles) rooms.1;
        fits = λ i q. omega (arith, sound_o.below i q, l);
      }
