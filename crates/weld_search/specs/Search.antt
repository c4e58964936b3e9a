-- The number of a point that came out of `+ 0.0`, and what looking it up does to the slices. Definitions only.
use Rattle.std.specs.Prelude.{◌≡◌, true, List, ℕ, ◌+◌, ◌<◌, ◌^◌, length, Float, Option, Some, None, ⊤}
use Rattle.math.specs.declared.Vec3.{Vec3}
use Rattle.mesh_spec.specs.Mesh.{Mesh, first_sight, with_point}
use Rattle.weld_bucket.specs.Bucket.{bucket_of}
use Rattle.weld_hash.specs.Hash.{FirstAt}
use Rattle.weld.specs.declared.Welder.{Welder}
use Rattle.weld.specs.declared.Welding.{Welding}
use Rattle.weld.specs.Rep.{held, Linked, Rep}
use Rattle.weld.specs.States.{settled}
use Rattle.weld.specs.Welding.{SameSlices}

-- the mesh after p was looked up
abbrev pub with_vertex : Mesh → Vec3 → Mesh
with_vertex S p = record { vertices = with_point S.vertices p; triangles = S.triangles }

-- where there is a b, it is the bucket of p, or stands for none where it is not below the places
abbrev pub BucketOrNone : ℕ → Vec3 → Option ℕ → Type 0
BucketOrNone places p (Some b) = b < places → b ≡ bucket_of places p
BucketOrNone places p None = ⊤

-- p was welded, and got the number n. Numbers in the slices count the vertices of the parts before, too.
pub record PointRuns (p : Vec3) (w : Welder) (vs : List Float) (ws : List ℕ) (n : ℕ) (r : Welder) (vs' : List Float) (ws' : List ℕ) : Type 0 where
  pub linked : Linked r vs' ws'
  pub faces : r.faces ≡ w.faces
  pub finite : r.finite ≡ w.finite
  pub sticky : r.room ≡ true → w.room ≡ true
  pub small : n < 2 ^ 32
  pub rep : (D S : Mesh) (ts : List ℕ) → Rep D S (held w vs ts ws) → Rep D (with_vertex S p) (held r vs' ts ws')
  pub number : (D S : Mesh) (ts : List ℕ) → Rep D S (held w vs ts ws) → r.room ≡ true → n ≡ first_sight S.vertices p + length D.vertices
  pub here : r.room ≡ true → FirstAt vs' r.base r.count p n
  pub stays : r.room ≡ true → (q : Vec3) (m : ℕ) → FirstAt vs w.base w.count q m → FirstAt vs' r.base r.count q m

-- the triangles stay as they were, and the slices have their lengths
pub record PointSlices (w r : Welding) : Type 0 where
  pub same : SameSlices w r
  pub triangles : r.triangles.now ≡ w.triangles.now
  pub vlong : length r.vertices.now ≡ length w.vertices.now
  pub wlong : length r.work.now ≡ length w.work.now

-- p was welded, and got the number n
pub record WeldsPoint (p : Vec3) (w r : Welding) (n : ℕ) : Type 0 where
  pub slices : PointSlices w r
  pub runs : PointRuns p w.st w.vertices.now w.work.now n r.st r.vertices.now r.work.now

-- all vertices of this part went into the chains
pub record Settles (w r : Welding) : Type 0 where
  pub slices : PointSlices w r
  pub vertices : r.vertices.now ≡ w.vertices.now
  pub answer : r.st ≡ settled w.st
  pub linked : Linked r.st r.vertices.now r.work.now
