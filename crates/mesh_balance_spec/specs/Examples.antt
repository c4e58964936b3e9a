-- Edges counted by hand: of the four faces of a tetrahedron, and of one triangle. Assumes nothing.
use Rattle.std.specs.Prelude.{◌≡◌, List, [], ◌∷◌, ℕ}
use Rattle.std.proofs.Common.{arith}
use Rattle.mesh_balance_spec.specs.Soup.{Tri, Balanced}
use Rattle.mesh_balance_spec.specs.Count.{EdgesBalance}

-- the faces of a tetrahedron with the vertices 0, 1, 2, 3
abbrev pub tetrahedron : List (Tri ℕ)
tetrahedron = (0, 2, 1) ∷ (0, 1, 3) ∷ (1, 2, 3) ∷ (2, 0, 3) ∷ []

pub faces_balance : Balanced tetrahedron
faces_balance w = omega arith

-- of a triangle alone, the edge (0, 1) is used once, and (1, 0) not at all
pub triangle_open : EdgesBalance ((0, 1, 2) ∷ []) → ⊥
triangle_open h = let e : ◌≡◌ {A = ℕ} 1 0 = h 0 1 in omega arith

-- nor do two triangles balance that use the same edges the same way
pub twice_open : EdgesBalance ((0, 1, 2) ∷ (1, 2, 0) ∷ []) → ⊥
twice_open h = let e : ◌≡◌ {A = ℕ} 2 0 = h 0 1 in omega arith
