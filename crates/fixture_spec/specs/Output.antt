-- The planner's bytes of a mesh (docs/SCOPE.md, "Fixtures in a file"), and the mesh of such bytes. Definitions only.
use Rattle.std.specs.Prelude.{List, ◌++◌, ℕ, ◌+◌, ◌*◌, length, drop}
use Rattle.slice_bytes.specs.Bytes.{word_at, word_bytes}
use Rattle.slice_byte_lists.specs.Lists.{floats_of, words_of, bytes_of_floats, bytes_of_words}
use Rattle.mesh_balance_spec.specs.Buffer.{flat, tris}
use Rattle.mesh_spec.specs.Mesh.{Mesh}
use Rattle.mesh_spec.specs.Slices.{flat_v, points}

-- the vertex count and the triangle count of four bytes each, the vertices, three floats each, the triangles, three numbers of four bytes each; low bytes first
unfoldable pub bytes_of : Mesh → List ℕ
bytes_of m =
    word_bytes (length m.vertices) ++ word_bytes (length m.triangles) ++ bytes_of_floats (flat_v m.vertices) ++ bytes_of_words (flat m.triangles)

-- the mesh that a reader of such bytes finds, whatever follows them
unfoldable pub mesh_in : List ℕ → Mesh
mesh_in b = record {
  vertices = points (floats_of (3 * word_at b 0) (drop 8 b));
  triangles = tris (words_of (3 * word_at b 4) (drop (8 + 24 * word_at b 0) b));
}
