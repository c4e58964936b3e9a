-- Closed meshes by hand: a tetrahedron, and meshes that lack one of the three properties alone. Assumes nothing.
use Rattle.std.specs.Prelude.{◌≡◌, List, [], ◌∷◌, ℕ}
use Rattle.std.proofs.Common.{arith}
use Rattle.math.specs.declared.Vec3.{Vec3}
use Rattle.math.specs.Vec.{zero_v}
use Rattle.mesh_balance_spec.specs.Soup.{Tri, Balanced}
use Rattle.mesh_balance_spec.specs.Count.{EdgesBalance}
use Rattle.mesh_balance_spec.proofs.CountLaws.{balanced_edges}
use Rattle.mesh_balance_spec.specs.Examples.{tetrahedron}
use Rattle.mesh_balance_spec.proofs.ExamplesLaws.{tetrahedron_balances}
use Rattle.mesh_spec.specs.Mesh.{Mesh}
use Rattle.mesh_spec.specs.Closed.{all_of, NoneTwice, AllThere, Closed}

-- triangles over four vertices, wherever they lie
abbrev pub over_four : List (Tri ℕ) → Mesh
over_four ts = record { vertices = zero_v ∷ zero_v ∷ zero_v ∷ zero_v ∷ []; triangles = ts }

pub tetrahedron_closed : Closed (over_four tetrahedron)
unfolding all_of
tetrahedron_closed = record { edges_balance = tetrahedron_balances; none_twice = tt; all_there = tt }

-- a triangle alone names three vertices that are there, but its edges do not balance
pub sheet_none_twice : NoneTwice (over_four ((0, 1, 3) ∷ []))
unfolding all_of
sheet_none_twice = tt

pub sheet_all_there : AllThere (over_four ((0, 1, 3) ∷ []))
unfolding all_of
sheet_all_there = tt

pub sheet_open : Closed (over_four ((0, 1, 3) ∷ [])) → ⊥
sheet_open c = let e : ◌≡◌ {A = ℕ} 1 0 = c.edges_balance 0 1 in omega arith

-- (0, 1, 0) has balanced edges, and names vertex 0 twice
twice : Balanced {P = ℕ} ((0, 1, 0) ∷ [])
twice w = omega arith

pub twice_balances : EdgesBalance ((0, 1, 0) ∷ [])
twice_balances = balanced_edges ((0, 1, 0) ∷ []) twice

pub twice_not_closed : Closed (over_four ((0, 1, 0) ∷ [])) → ⊥
unfolding all_of
twice_not_closed c = c.none_twice

pub first_two_same : NoneTwice (over_four ((1, 1, 0) ∷ [])) → ⊥
unfolding all_of
first_two_same h = h

pub last_two_same : NoneTwice (over_four ((0, 1, 1) ∷ [])) → ⊥
unfolding all_of
last_two_same h = h

pub second_triangle_twice : NoneTwice (over_four ((0, 1, 2) ∷ (2, 3, 2) ∷ [])) → ⊥
unfolding all_of
second_triangle_twice h = h

-- two triangles back to back that name vertex 4, which is not there
beyond : Balanced {P = ℕ} ((0, 1, 4) ∷ (1, 0, 4) ∷ [])
beyond w = omega arith

pub beyond_balances : EdgesBalance ((0, 1, 4) ∷ (1, 0, 4) ∷ [])
beyond_balances = balanced_edges ((0, 1, 4) ∷ (1, 0, 4) ∷ []) beyond

pub beyond_none_twice : NoneTwice (over_four ((0, 1, 4) ∷ (1, 0, 4) ∷ []))
unfolding all_of
beyond_none_twice = tt

pub beyond_not_closed : Closed (over_four ((0, 1, 4) ∷ (1, 0, 4) ∷ [])) → ⊥
unfolding all_of
beyond_not_closed c = c.all_there

pub first_beyond : AllThere (over_four ((4, 1, 0) ∷ [])) → ⊥
unfolding all_of
first_beyond h = h

pub second_beyond : AllThere (over_four ((0, 4, 1) ∷ [])) → ⊥
unfolding all_of
second_beyond h = h

pub second_triangle_beyond : AllThere (over_four ((0, 1, 2) ∷ (1, 2, 4) ∷ [])) → ⊥
unfolding all_of
second_triangle_beyond h = h
