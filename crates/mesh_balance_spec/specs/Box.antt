-- The faces of a parameter box of d0 x d1 x d2 cells, at any points g. Axis k has the grid axes (k + 1) % 3 and (k + 2) % 3; its low face, at 0, has
-- each quad the other way round. The six faces are balanced, and where g closes up along the middle axis the four of the other two axes are.
-- Assumes nothing.
use Rattle.std.specs.Prelude.{List, ◌++◌, ℕ, zero, suc, ◌+◌, ◌%◌}
use Rattle.mesh_balance_spec.specs.Soup.{Tri}
use Rattle.mesh_balance_spec.specs.Grid.{upto, cells, cells_turned}

module _ {P : Type 0} where
  -- the two faces of an axis: low, at 0, and high, at d
  abbrev pub axis_faces : ℕ → ℕ → ℕ → (ℕ → ℕ → ℕ → P) → List (Tri P)
  axis_faces d nu nv f = cells_turned nu nv (f 0) ++ cells nu nv (f d)

  -- the points as each axis sees them: its own coordinate first, then the two of its grid
  abbrev pub axis0 : (ℕ → ℕ → ℕ → P) → ℕ → ℕ → ℕ → P
  axis0 g k u v = g k u v

  abbrev pub axis1 : (ℕ → ℕ → ℕ → P) → ℕ → ℕ → ℕ → P
  axis1 g k u v = g v k u

  abbrev pub axis2 : (ℕ → ℕ → ℕ → P) → ℕ → ℕ → ℕ → P
  axis2 g k u v = g u v k

  -- the six faces, the two of an axis after the other
  abbrev pub box : ℕ → ℕ → ℕ → (ℕ → ℕ → ℕ → P) → List (Tri P)
  box d0 d1 d2 g = axis_faces d0 d1 d2 (axis0 g) ++ axis_faces d1 d2 d0 (axis1 g) ++ axis_faces d2 d0 d1 (axis2 g)

  -- the four of the first and the last axis
  abbrev pub four_faces : ℕ → ℕ → ℕ → (ℕ → ℕ → ℕ → P) → List (Tri P)
  four_faces d0 d1 d2 g = axis_faces d0 d1 d2 (axis0 g) ++ axis_faces d2 d0 d1 (axis2 g)

  -- the six faces by one rule for the axis k: its grid runs along the axes (k + 1) % 3 and (k + 2) % 3, in the order low, high of axis 0, 1, 2
  abbrev pub seen : (ℕ → ℕ → ℕ → P) → ℕ → ℕ → ℕ → ℕ → P
  seen g zero = axis0 g
  seen g (suc zero) = axis1 g
  seen g (suc (suc k)) = axis2 g

  abbrev pub box_of : (ℕ → ℕ) → (ℕ → ℕ → ℕ → P) → List (Tri P)
  box_of d g = upto 3 (λ k. axis_faces (d k) (d ((k + 1) % 3)) (d ((k + 2) % 3)) (seen g k))
