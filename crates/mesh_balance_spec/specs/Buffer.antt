-- A soup over numbers as one list of numbers, three to a triangle, as a program writes it; and the lengths.
-- Assumes nothing.
use Rattle.std.specs.Prelude.{◌≡◌, refl, List, [], ◌∷◌, ◌++◌, ℕ, zero, suc, ◌+◌, ◌*◌, length}
use Rattle.std.proofs.Common.{ap, arith, add-one, length-append}
use Rattle.mesh_balance_spec.specs.Soup.{Tri}
use Rattle.mesh_balance_spec.specs.Grid.{quad, upto, cells}

module _ {P : Type 0} where
  -- the corners of the triangles, one triangle after the other
  abbrev pub flat : List (Tri P) → List P
  flat [] = []
  flat (t ∷ ts) = t.0 ∷ t.1 ∷ t.2 ∷ flat ts

  -- the triangles in a list of corners; a broken last one is none
  abbrev pub tris : List P → List (Tri P)
  tris [] = []
  tris (a ∷ []) = []
  tris (a ∷ b ∷ []) = []
  tris (a ∷ b ∷ c ∷ r) = (a, b, c) ∷ tris r

  pub tris_flat : (ts : List (Tri P)) → tris (flat ts) ≡ ts
  tris_flat [] = refl
  tris_flat (t ∷ ts) = ap {B = List (Tri P)} (λ r. t ∷ r) (tris_flat ts)

  pub flat_append : (xs ys : List (Tri P)) → flat (xs ++ ys) ≡ flat xs ++ flat ys
  flat_append [] ys = refl
  flat_append (t ∷ xs) ys = ap {B = List P} (λ r. t.0 ∷ t.1 ∷ t.2 ∷ r) (flat_append xs ys)

  pub length_flat : (ts : List (Tri P)) → length (flat ts) ≡ 3 * length ts
  length_flat [] = refl
  length_flat (t ∷ ts) = omega (arith, length_flat ts)

  -- one more turn of a loop
  pub upto_more : (i : ℕ) (h : ℕ → List (Tri P)) → upto (i + 1) h ≡ upto i h ++ h i
  upto_more i h = rw add-one

  pub length_upto : (n m : ℕ) (h : ℕ → List (Tri P)) → ((i : ℕ) → length (h i) ≡ m) → length (upto n h) ≡ n * m
  length_upto zero m h e = omega arith
  length_upto (suc n) m h e = omega (arith, length_upto n m h e, e n, length-append (upto n h) (h n))

  pub length_cells : (nu nv : ℕ) (f : ℕ → ℕ → P) → length (cells nu nv f) ≡ 2 * nu * nv
  length_cells nu nv f =
      let cell : ℕ → ℕ → List (Tri P) = λ i j. quad (f i j) (f (suc i) j) (f (suc i) (suc j)) (f i (suc j)) in
      omega (arith, length_upto nu (nv * 2) (λ i. upto nv (cell i)) (λ i. length_upto nv 2 (cell i) (λ j. refl)))
