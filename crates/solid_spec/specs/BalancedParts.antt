-- What the theorems say of the parts of a solid. Definitions only.
use Rattle.std.specs.Prelude.{◌≡◌, true, List, [], ◌∷◌, map, T}
use Rattle.mesh_balance_spec.specs.Soup.{Balanced, map_tri}
use Rattle.mesh_spec.specs.Mesh.{plus_zero_v, every_finite}
use Rattle.solid_spec.specs.Grid.{Soup}

-- what holds of every part
abbrev pub EachPart : (Soup → Type 0) → List Soup → Type 0
EachPart Q [] = T true
EachPart Q (p ∷ ps) = Q p × EachPart Q ps

-- a part whose points are finite is balanced after + 0.0
abbrev pub BalancedPart : Soup → Type 0
BalancedPart p = every_finite p ≡ true → Balanced (map (map_tri plus_zero_v) p)
