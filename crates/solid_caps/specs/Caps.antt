-- The caps of an outline as `extruded_polygon` and `rotpoly` of src/tessellate.rs push them: a triangle at one end, or at both. Definitions only.
use Rattle.std.specs.Prelude.{Bool, true, false, List, [], ◌∷◌, ◌++◌, ℕ}
use Rattle.mesh_balance_spec.specs.Soup.{Tri, map_tri, flip_tri}

module _ {P : Type 0} where
  -- a triangle at the one end, and where both says so turned round at the other
  abbrev pub cap_of : Bool → (ℕ → P) → (ℕ → P) → Tri ℕ → List (Tri P)
  cap_of true near far t = map_tri near t ∷ flip_tri (map_tri far t) ∷ []
  cap_of false near far t = map_tri near t ∷ []

  -- the same for each triangle in turn
  abbrev pub caps_of : Bool → (ℕ → P) → (ℕ → P) → List (Tri ℕ) → List (Tri P)
  caps_of both near far [] = []
  caps_of both near far (t ∷ ts) = cap_of both near far t ++ caps_of both near far ts
