-- A point among the vertices of a mesh. Definitions only.
use Rattle.std.specs.Prelude.{Bool, false, ◌||◌, List, ℕ, zero, suc, ◌/◌, length, Float}
use Rattle.math.specs.declared.Vec3.{Vec3}
use Rattle.weld_vertex.specs.Points.{is_at}

-- one of the first n vertices of a list that has three floats a vertex equals p, as floats compare; a vertex that the list lacks equals nothing
unfoldable pub has_vertex : List Float → ℕ → Vec3 → Bool
has_vertex v zero p = false
has_vertex v (suc n) p = has_vertex v n p || is_at v 0 (length v / 3) p n
