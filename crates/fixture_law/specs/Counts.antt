-- How many vertices and triangles the mesh of a file that nothing refuses has at most. Assumes nothing.
use Rattle.std.specs.Prelude.{◌≡◌, Bool, true, false, cond, List, [], ◌∷◌, ◌++◌, map, ℕ, zero, suc, ◌+◌, ◌*◌, ◌≤◌, length, take, eqb, ltb}
use Rattle.std.proofs.Common.{sym, subst, arith, length-append, ltb-false}
use Rattle.std.proofs.lemmas.List.{length-map}
use Rattle.std.specs.Float.{binary64}
use Rattle.std.specs.Float.Ieee.{lt, of_bits}
use Rattle.slice.specs.Every.{counted_places}
use Rattle.slice_law.specs.Bools.{neither}
use Rattle.refusal.specs.Answer.{Accepted}
use Rattle.math_matrix.specs.declared.Mat4.{Mat4}
use Rattle.math_matrix.specs.Mat.{transform_point, determinant}
use Rattle.transform.specs.Ops.{folded}
use Rattle.mesh_balance_spec.specs.Soup.{map_tri, flip_tri}
use Rattle.mesh_spec.specs.Mesh.{Mesh, no_mesh, append, flip}
use Rattle.mesh_spec.specs.Edits.{moved, transform}
use Rattle.mesh_check.specs.State.{no_room}
use Rattle.tessellate_spec.specs.Outcome.{Job, welded_mesh, placed, final_mesh}
use Rattle.tessellate_law.specs.Words.{Accepts}
use Rattle.fixture_spec.specs.Fields.{Field, size_of, payload_of, fields_from, fields_of, is_solid}
use Rattle.fixture_spec.specs.Solids.{Settings, start_settings, settings_after, job_of, jobs_from, jobs_of}
use Rattle.fixture_spec.specs.Outcome.{solid_lent, drawn_mesh, appended, fixture_mesh, open_refusal}
use Rattle.fixture_law.specs.Words.{AllAccepted}
use Rattle.fixture_law.specs.Jobs.{opened, drawn_final, had_room}

-- at most so many vertices and triangles
pub record Within (v t : ℕ) (m : Mesh) : Type 0 where
  pub vertices : length m.vertices ≤ v
  pub triangles : length m.triangles ≤ t

-- ---- a solid

flip_within : (v t : ℕ) (m : Mesh) → Within v t m → Within v t (flip m)
unfolding flip
flip_within v t m h = record { vertices = h.vertices; triangles = omega (arith, length-map m.triangles flip_tri) }

moved_within : (v t : ℕ) (a : Mat4) (m : Mesh) → Within v t m → Within v t (moved a m)
unfolding moved
moved_within v t a m h = record { vertices = omega (arith, length-map m.vertices (transform_point a)); triangles = h.triangles }

-- a transform keeps both counts
transform_within : (v t : ℕ) (a : Mat4) (m : Mesh) → Within v t m → Within v t (transform a m)
unfolding transform
transform_within v t a m h = go (lt (determinant a) (of_bits binary64 0))
  where
    go : (b : Bool) → Within v t (cond b (flip (moved a m)) (moved a m))
    go true = flip_within v t (moved a m) (moved_within v t a m h)
    go false = moved_within v t a m h

final_within : (v t : ℕ) (j : Job) → Within v t (welded_mesh j) → Within v t (final_mesh j)
unfolding final_mesh placed
final_within v t j h = go (eqb j.count 0)
  where
    go : (b : Bool) → Within v t (cond b (welded_mesh j) (transform (folded j.degrees (take j.count j.ops)) (welded_mesh j)))
    go true = h
    go false = transform_within v t (folded j.degrees (take j.count j.ops)) (welded_mesh j) h

-- a mesh for which there was room
room_within : (m : Mesh) (nv nt : ℕ) → no_room m nv nt ≡ false → Within (counted_places nv) (counted_places nt) m
unfolding no_room
room_within m nv nt e =
    let b = neither (ltb (counted_places nv) (length m.vertices)) (ltb (counted_places nt) (length m.triangles)) e in
    record { vertices = ltb-false (counted_places nv) (length m.vertices) b.0; triangles = ltb-false (counted_places nt) (length m.triangles) b.1 }

welded_within : (j : Job) → Accepts j solid_lent → Within 1024 2048 (welded_mesh j)
unfolding counted_places
welded_within j h = room_within (welded_mesh j) 3072 6144 (had_room j solid_lent h)

-- an accepted solid has at most 1,024 vertices and 2,048 triangles
pub drawn_within : (j : Job) → Accepts j solid_lent → Within 1024 2048 (drawn_mesh j)
drawn_within j h = subst (Within 1024 2048) (sym (drawn_final j h)) (final_within 1024 2048 j (welded_within j h))

-- ---- the solids in order

append_within : (v t w u : ℕ) (m o : Mesh) → Within v t m → Within w u o → Within (v + w) (t + u) (append m o)
unfolding append
append_within v t w u m o h k = record {
  vertices = omega (arith, length-append m.vertices o.vertices);
  triangles =
      let n = length m.vertices in
      let up = map (map_tri (λ i. i + n)) o.triangles in
      omega (arith, length-append m.triangles up, length-map o.triangles (map_tri (λ i. i + n)));
}

within_as : (v t w u : ℕ) (m : Mesh) → v ≤ w → t ≤ u → Within v t m → Within w u m
within_as v t w u m p q h = record { vertices = omega arith; triangles = omega arith }

appended_within : (v t : ℕ) (m : Mesh) (js : List Job) → AllAccepted js → Within v t m → Within (v + 1024 * length js) (t + 2048 * length js) (appended m js)
unfolding appended
appended_within v t m [] a h = within_as v t (v + 1024 * 0) (t + 2048 * 0) m (omega arith) (omega arith) h
appended_within v t m (j ∷ js) a h =
    let o = drawn_mesh j in
    let n = length js in
    within_as (v + 1024 + 1024 * n) (t + 2048 + 2048 * n) (v + 1024 * suc n) (t + 2048 * suc n) (appended (append m o) js) (omega arith) (omega arith)
    (appended_within (v + 1024) (t + 2048) (append m o) js a.1 (append_within v t 1024 2048 m o h (drawn_within j a.0)))

-- ---- the file

-- at most a solid a field
jobs_few : (s : Settings) (fs : List Field) → length (jobs_from s fs) ≤ length fs
unfolding jobs_from
jobs_few s [] = omega arith
jobs_few s (f ∷ fs) = go (is_solid f.tag) (jobs_from (settings_after s f.tag p) fs) (jobs_few (settings_after s f.tag p) fs)
  where
    p : List ℕ
    p = payload_of f.after

    go : (b : Bool) (js : List Job) → length js ≤ length fs → length (cond b (job_of s f.tag p ∷ []) [] ++ js) ≤ suc (length fs)
    go true js h = omega arith
    go false js h = omega arith

-- at most a field a byte
fields_few : (skip : ℕ) (file : List ℕ) → length (fields_from skip file) ≤ length file
unfolding fields_from
fields_few skip [] = omega arith
fields_few (suc skip) (b ∷ after) = omega (arith, fields_few skip after)
fields_few zero (tag ∷ after) = omega (arith, fields_few (2 + size_of after) after)

solids_few : (file : List ℕ) → length (jobs_of file) ≤ length file
unfolding jobs_of
solids_few file = omega (arith, jobs_few start_settings (fields_of file), fields_few 0 file)

pub counts_fixture : (file : List ℕ) → open_refusal file ≡ Accepted → Within (1024 * 65535) (2048 * 65535) (fixture_mesh file)
unfolding fixture_mesh
counts_fixture file e =
    let o = opened file e in
    let n = length (jobs_of file) in
    let few : n ≤ 65535 = omega (arith, solids_few file, o.short) in
    let none : Within 0 0 no_mesh = record { vertices = omega arith; triangles = omega arith } in
    within_as (0 + 1024 * n) (0 + 2048 * n) (1024 * 65535) (2048 * 65535) (appended no_mesh (jobs_of file)) (omega arith) (omega arith)
    (appended_within 0 0 no_mesh (jobs_of file) o.accepted none)
