-- `plane_axes` of src/primitives/poly.rs. Assumes nothing.
use Rattle.std.specs.Prelude.{ℕ, ◌+◌, ◌%◌}
use Rattle.outline.specs.declared.Axes.{Axes}

-- the two axes of the plane with the normal n: ((n + 1) % 3, (n + 2) % 3)
unfoldable pub plane_axes : ℕ → Axes
plane_axes n = record { u = (n + 1) % 3; v = (n + 2) % 3 }
