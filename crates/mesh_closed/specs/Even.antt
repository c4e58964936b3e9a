-- The properties of a closed mesh as tests of one triangle after the other. Definitions only.
use Rattle.std.specs.Prelude.{Bool, ◌&&◌, List, ℕ, eqb}
use Rattle.mesh_balance_spec.specs.Soup.{Tri}
use Rattle.mesh_balance_spec.specs.Count.{edges, uses}
use Rattle.mesh_spec.specs.Mesh.{distinct}
use Rattle.mesh_spec.specs.Closed.{below}

-- the triangles use (u, v) as often as (v, u)
abbrev pub even_edge : List (Tri ℕ) → ℕ → ℕ → Bool
even_edge ts u v = eqb (uses u v (edges ts)) (uses v u (edges ts))

-- the triangles use each of the three edges of t as often as its reverse
unfoldable pub even_triangle : List (Tri ℕ) → Tri ℕ → Bool
even_triangle ts t = even_edge ts t.0 t.1 && even_edge ts t.1 t.2 && even_edge ts t.2 t.0

-- t names three different vertices, all below n, and its edges balance
unfoldable pub closed_triangle : ℕ → List (Tri ℕ) → Tri ℕ → Bool
closed_triangle n ts t = distinct t && below n t && even_triangle ts t
