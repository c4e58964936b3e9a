-- The cap theorem: where n corners, 3 or more, give n - 2 triangles, the triangles' directed edges are the cycle 0 → 1 → .. → n - 1 → 0, but for pairs of an
-- edge and its reverse. It holds of every corner list, so of those that `prepared` gives. Assumes nothing.
use Rattle.std.specs.Prelude.{ℕ, suc, ◌+◌, ◌-◌, ◌*◌, ◌/◌, ◌<◌, ◌≤◌, ◌≡◌, Bool, List, ◌∷◌, length, Float}
use Rattle.std.proofs.Common.{◌∙◌}
use Rattle.mesh_balance_spec.specs.Grid.{Bounds}
use Rattle.mesh_balance_spec.specs.Prism as Prism
use Rattle.mesh_balance_spec.specs.Buffer.{tris}
use Rattle.outline.specs.Ccw.{prepared}
use Rattle.outline_triangulate.specs.Triangulate.{triangulate_polygon}
use Rattle.outline_caps_law.specs.Edges.{cycle}
use Rattle.outline_caps_law.proofs.CapsLaws.{caps}

-- the same of the corners that a solid hands to the clipper
pub caps_prepared : (swap : Bool) (list : List Float) (m : ℕ) → length (prepared swap list) / 2 ≡ suc m → 2 ≤ m
    → length (triangulate_polygon (prepared swap list)).triangles ≡ 3 * (m - 1)
    → Bounds (tris (triangulate_polygon (prepared swap list)).triangles) (Prism.cycle m)
caps_prepared swap list = caps (prepared swap list)
