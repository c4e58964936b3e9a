-- How the mesh of the solids so far lies in the planner's output, and what adding a mesh and the end make of it. Definitions only.
use Rattle.std.specs.Prelude.{◌≡◌, cond, List, ◌++◌, reverse, ℕ, ◌+◌, ◌-◌, ◌*◌, ◌%◌, ◌≤◌, ◌<◌, length, get_or, replicate, Float}
use Rattle.refusal.specs.Answer.{Answer}
use Rattle.refusal.specs.Answer.{Accepted, NoRoom}
use Rattle.slice_byte_lists.specs.Lists.{bytes_of_floats, bytes_of_words}
use Rattle.slice_bytes_law.specs.Lists.{AllWords}
use Rattle.mesh_balance_spec.specs.Buffer.{flat, tris}
use Rattle.mesh_spec.specs.Mesh.{Mesh, append}
use Rattle.mesh_spec.specs.Slices.{flat_v, points}
use Rattle.fixture_spec.specs.Outcome.{short_output, output_of}

-- the bytes of a mesh of so many vertices and triangles
abbrev pub bytes_for : ℕ → ℕ → ℕ
bytes_for vertices triangles = 8 + 24 * vertices + 12 * triangles

abbrev pub byte_count : Mesh → ℕ
byte_count m = bytes_for (length m.vertices) (length m.triangles)

-- a mesh in an output of n bytes while solids may come: eight zeros, the vertices, zeros, the triangles' numbers in reverse up to the last place that is
-- a multiple of four, and zeros behind it
unfoldable pub laid_as : Mesh → ℕ → List ℕ
laid_as m n =
    replicate 8 0 ++ bytes_of_floats (flat_v m.vertices) ++ replicate (n - n % 4 - byte_count m) 0 ++ bytes_of_words (reverse (flat m.triangles))
    ++ replicate (n % 4) 0

-- the output has n bytes, and holds the mesh so where it has room for its bytes; vertex numbers are 32-bit numbers
pub record Laid (m : Mesh) (n : ℕ) (out : List ℕ) : Type 0 where
  pub bytes : length out ≡ n
  pub words : AllWords (flat m.triangles)
  pub laid : byte_count m ≤ n → out ≡ laid_as m n

-- ---- adding a mesh

-- the mesh in two slices
abbrev pub slice_mesh : List Float → List ℕ → Mesh
slice_mesh vs ts = record { vertices = points vs; triangles = tris ts }

-- whole places, and numbers that stay below 2^32 when they go up by the vertex count; the counts are far below the largest number
pub record Adds (n vertices triangles : ℕ) (vs : List Float) (ts : List ℕ) : Type 0 where
  pub places : 3 * (length (points vs)) ≡ length vs
  pub triples : 3 * (length (tris ts)) ≡ length ts
  pub few : vertices < 4294967296
  pub fewer : triangles < 4294967296
  pub below : (i : ℕ) → i < length ts → get_or ts i 0 + vertices < 4294967296
  pub short : length vs < 4294967296
  pub shorter : length ts < 4294967296

-- where the output held a mesh of these counts, it holds both
abbrev pub Added : List ℕ → ℕ → ℕ → List Float → List ℕ → List ℕ → Type 0
Added out vertices triangles vs ts out' =
    (m : Mesh) → length m.vertices ≡ vertices → length m.triangles ≡ triangles → Laid m (length out) out
    → Laid (append m (slice_mesh vs ts)) (length out) out'

-- ---- the end

-- some mesh of so many vertices and triangles lies in the output, and both counts are 32-bit numbers
pub record Finishes (out : List ℕ) (vertices triangles : ℕ) : Type 0 where
  pub few : vertices < 4294967296
  pub fewer : triangles < 4294967296
  pub mesh : Mesh
  pub counted : length mesh.vertices ≡ vertices
  pub faces : length mesh.triangles ≡ triangles
  pub laid : Laid mesh (length out) out

-- where the output held a mesh of these counts: 7 and zeros where it is too short for its bytes, else the bytes, and zeros after them
pub record Ended (m : Mesh) (n : ℕ) (r : Answer) (out : List ℕ) : Type 0 where
  pub refusal : r ≡ cond (short_output m n) NoRoom Accepted
  pub output : out ≡ cond (short_output m n) (replicate n 0) (output_of m n)

abbrev pub Finished : List ℕ → ℕ → ℕ → Answer → List ℕ → Type 0
Finished out vertices triangles r out' =
    (m : Mesh) → length m.vertices ≡ vertices → length m.triangles ≡ triangles
    → Laid m (length out) out → Ended m (length out) r out'
