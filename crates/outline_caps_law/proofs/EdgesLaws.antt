-- Weights of directed edges (the crate mesh_balance_spec), summed over triangles in a list of numbers and around a list of corners; and a corner cut out of a
-- cycle. Assumes nothing.
use Rattle.std.proofs.Common.{[]}
use Rattle.std.specs.Prelude.{ℕ, ◌+◌, ◌-◌, ◌*◌, ◌%◌, ◌<◌, ◌≤◌, ◌≡◌, List, ◌∷◌, ◌++◌, length}
use Rattle.std.proofs.Common.{◌∙◌, not-suc-le-zero, le_of_suc-le-suc}
use Rattle.mesh_balance_spec.specs.Soup.{Weight, rev}
use Rattle.outline_triangulate.specs.Triangulate.{fan}
use Rattle.outline_caps_law.specs.Edges.{cycle, edges, fans_edges}

pub fan_edges : (w : Weight ℕ) (l : List ℕ) → 1 < length l → edges w (fan l) + cycle (rev w) l ≡ edges (rev w) (fan l) + cycle w l
unfolding fan cycle
fan_edges w [] h = absurd (not-suc-le-zero h)
fan_edges w (a ∷ []) h = absurd (not-suc-le-zero (le_of_suc-le-suc h))
fan_edges w (a ∷ b ∷ l) h = fans_edges w a b l
