-- The corners as `extruded_polygon` and `rotpoly` of src/tessellate.rs hand them to `triangulate_polygon`: `ccw_polygon`, and for a rotated outline the
-- corners swapped to (radial, axial) before. Assumes nothing.
use Rattle.std.specs.Prelude.{Bool, cond, List, [], ◌∷◌, ◌++◌, Float}
use Rattle.std.specs.Float.{binary64}
use Rattle.std.specs.Float.Ieee.{lt, of_bits}
use Rattle.outline.specs.Clean.{clean_polygon}
use Rattle.outline.specs.Area.{signed_area}

-- each corner with its coordinates exchanged; a last float without its partner is no corner
unfoldable pub swapped : List Float → List Float
swapped [] = []
swapped (x ∷ []) = []
swapped (x ∷ y ∷ v) = y ∷ x ∷ swapped v

-- the Rust's p.reverse(): the corners from the last to the first; a last float without its partner is no corner
unfoldable pub reversed : List Float → List Float
reversed [] = []
reversed (x ∷ []) = []
reversed (x ∷ y ∷ v) = reversed v ++ (x ∷ y ∷ [])

-- the corners of the Rust's `ccw_polygon`: cleaned, and reversed where the signed area is below 0
unfoldable pub ccw_polygon : List Float → List Float
unfolding reversed
ccw_polygon v = cond (lt (signed_area (clean_polygon v)) (of_bits binary64 0)) (reversed (clean_polygon v)) (clean_polygon v)

-- the same, of the corners swapped where swap says so
unfoldable pub prepared : Bool → List Float → List Float
unfolding swapped
prepared swap v = ccw_polygon (cond swap (swapped v) v)
