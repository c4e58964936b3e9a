-- What holds of every point of a soup, and what that says of the points of a grid. Laws of `grid`: as mesh_balance_spec's grids, under a map of the
-- points, its balance.
use mathlib.Core.Path.{◌≡◌, refl, sym, ap, ◌∙◌, subst}
use mathlib.Core.Logic.{inl, inr}
use mathlib.Core.List.{List, [], ◌∷◌, ◌++◌, map}
use mathlib.Core.Bool.{Bool, true, false, ◌&&◌}
use Prim.Native.Nat.{ℕ, zero, suc, ◌≤◌, ◌<◌}
use native.Mathlib.Nat.{eq-or-lt_of_le}
use native.Mathlib.Omega.{arith}
use lib.Dec.{T}
use lib.Ieee.Fits.{and_l, and_r}
use Rattle.ieee.specs.Same.{true_T}
use Rattle.mesh_balance_spec.specs.Soup.{Tri, rev, Balanced, map_tri}
use Rattle.mesh_balance_spec.specs.Grid as Plain
use Rattle.mesh_balance_spec.specs.Grid.{quad, upto, upto_cong, cells₁_cells, cells_turned₁_cells_turned, sum_cells_turned}
use Rattle.math.specs.Vec.{v_finite}
use Rattle.mesh_spec.specs.Mesh.{every_finite}
use Rattle.solid_spec.specs.Grid.{Soup, grid}
use Rattle.solid_spec.proofs.Points.{finite_says}
use Rattle.solid_spec.specs.Fits.{FiniteV}

module _ {P : Type 0} where
  abbrev pub Every : (P → Type 0) → List (Tri P) → Type 0
  Every Q [] = T true
  Every Q (t ∷ ts) = Q t.0 × Q t.1 × Q t.2 × Every Q ts

  pub every_left : (Q : P → Type 0) (xs ys : List (Tri P)) → Every Q (xs ++ ys) → Every Q xs
  every_left Q [] ys h = tt
  every_left Q (t ∷ xs) ys h = (h.0, h.1, h.2, every_left Q xs ys h.3)

  pub every_right : (Q : P → Type 0) (xs ys : List (Tri P)) → Every Q (xs ++ ys) → Every Q ys
  every_right Q [] ys h = h
  every_right Q (t ∷ xs) ys h = every_right Q xs ys h.3

  every_upto : (Q : P → Type 0) (n : ℕ) (g : ℕ → List (Tri P)) → Every Q (upto n g) → (i : ℕ) → i < n → Every Q (g i)
  every_upto Q zero g h i l = absurd (none l)
    where
      none : i < 0 → ⊥
      none l = omega arith
  every_upto Q (suc n) g h i l = elim (eq-or-lt_of_le (at_most l)) [
    | inl e ↦ rw e (every_right Q (upto n g) (g n) h)
    | inr k ↦ every_upto Q n g (every_left Q (upto n g) (g n) h) i k
  ]
    where
      at_most : i < suc n → i ≤ n
      at_most l = omega arith

  -- the two corners of a cell at its side j
  every_plain : (Q : P → Type 0) (nu nv : ℕ) (f : ℕ → ℕ → P) → Every Q (Plain.cells nu nv f) → (i j : ℕ) → i < nu → j < nv → Q (f i j) × Q (f (suc i) j)
  every_plain Q nu nv f h i j k l =
      let c = every_upto Q nv (λ j. quad (f i j) (f (suc i) j) (f (suc i) (suc j)) (f i (suc j)))
      (every_upto Q nu (λ i. upto nv (λ j. quad (f i j) (f (suc i) j) (f (suc i) (suc j)) (f i (suc j)))) h i k) j l in
      (c.0, c.1)

  every_turned : (Q : P → Type 0) (nu nv : ℕ) (f : ℕ → ℕ → P) → Every Q (Plain.cells_turned nu nv f) → (i j : ℕ) → i < nu → j < nv → Q (f i j) × Q (f (suc i) j)
  every_turned Q nu nv f h i j k l =
      let c = every_upto Q nv (λ j. quad (f i j) (f i (suc j)) (f (suc i) (suc j)) (f (suc i) j))
      (every_upto Q nu (λ i. upto nv (λ j. quad (f i j) (f i (suc j)) (f (suc i) (suc j)) (f (suc i) j))) h i k) j l in
      (c.0, c.3.2)

  -- `grid` as balance has it
  pub grid_plain : (nu nv : ℕ) (f : ℕ → ℕ → P) → grid nu nv false f ≡ Plain.cells nu nv f
  unfolding grid
  grid_plain nu nv f = cells₁_cells nu nv f

  pub grid_turned : (nu nv : ℕ) (f : ℕ → ℕ → P) → grid nu nv true f ≡ Plain.cells_turned nu nv f
  unfolding grid
  grid_turned nu nv f = cells_turned₁_cells_turned nu nv f

  pub every_grid : (Q : P → Type 0) (nu nv : ℕ) (flip : Bool) (f : ℕ → ℕ → P) → Every Q (grid nu nv flip f) → (i j : ℕ) → i < nu → j < nv → Q (f i j) × Q (f (suc i) j)
  every_grid Q nu nv false f h = every_plain Q nu nv f (subst (Every Q) (grid_plain nu nv f) h)
  every_grid Q nu nv true f h = every_turned Q nu nv f (subst (Every Q) (grid_turned nu nv f) h)

  -- a grid is balanced either way round
  pub balanced_grid : (nu nv : ℕ) (flip : Bool) (f : ℕ → ℕ → P) → Balanced (Plain.cells nu nv f) → Balanced (grid nu nv flip f)
  balanced_grid nu nv false f b = rw (grid_plain nu nv f) b
  balanced_grid nu nv true f b = rw (grid_turned nu nv f) (λ w. omega (arith, sum_cells_turned w nu nv f, sum_cells_turned (rev w) nu nv f, b w))

-- every point is finite
abbrev pub Sound : Soup → Type 0
Sound ts = Every FiniteV ts

-- what `every_finite` says
pub sound_of : (ts : Soup) → every_finite ts ≡ true → Sound ts
unfolding every_finite
sound_of ts h = go ts (true_T (every_finite ts) h)
  where
    go : (ts : Soup) → T (every_finite ts) → Sound ts
    go [] h = tt
    go (t ∷ ts) h =
        let a = v_finite t.0 in
        let b = v_finite t.1 in
        let c = v_finite t.2 in
        let abc : T (a && b && c) = and_l (a && b && c) (every_finite ts) h in
        let ab : T (a && b) = and_l (a && b) c abc in (
          finite_says t.0 (and_l a b ab),
          finite_says t.1 (and_r a b ab),
          finite_says t.2 (and_r (a && b) c abc),
          go ts (and_r (a && b && c) (every_finite ts) h),
        )

module _ {P Q : Type 0} (h : P → Q) where
  pub map_append : (xs ys : List (Tri P)) → map (map_tri h) (xs ++ ys) ≡ map (map_tri h) xs ++ map (map_tri h) ys
  map_append [] ys = refl
  map_append (t ∷ xs) ys = ap {B = List (Tri Q)} (λ r. map_tri h t ∷ r) (map_append xs ys)

  map_upto : (n : ℕ) (g : ℕ → List (Tri P)) → map (map_tri h) (upto n g) ≡ upto n (λ i. map (map_tri h) (g i))
  map_upto zero g = refl
  map_upto (suc n) g = map_append (upto n g) (g n) ∙ ap (λ (r : List (Tri Q)). r ++ map (map_tri h) (g n)) (map_upto n g)

  -- through the grid, to points that equal those of G
  pub map_plain : (nu nv : ℕ) (f : ℕ → ℕ → P) (G : ℕ → ℕ → Q) → ((i j : ℕ) → h (f i j) ≡ G i j) → map (map_tri h) (grid nu nv false f) ≡ Plain.cells nu nv G
  map_plain nu nv f G e =
      ap (map (map_tri h)) (grid_plain nu nv f)
      ∙ map_upto nu (λ i. upto nv (λ j. quad (f i j) (f (suc i) j) (f (suc i) (suc j)) (f i (suc j))))
      ∙ upto_cong nu _ _ (λ i l. map_upto nv (λ j. quad (f i j) (f (suc i) j) (f (suc i) (suc j)) (f i (suc j)))
      ∙ upto_cong nv _ _ (λ j l. λ t. quad (e i j t) (e (suc i) j t) (e (suc i) (suc j) t) (e i (suc j) t)))

  pub map_turned : (nu nv : ℕ) (f : ℕ → ℕ → P) (G : ℕ → ℕ → Q) → ((i j : ℕ) → h (f i j) ≡ G i j) → map (map_tri h) (grid nu nv true f) ≡ Plain.cells_turned nu nv G
  map_turned nu nv f G e =
      ap (map (map_tri h)) (grid_turned nu nv f)
      ∙ map_upto nu (λ i. upto nv (λ j. quad (f i j) (f i (suc j)) (f (suc i) (suc j)) (f (suc i) j)))
      ∙ upto_cong nu _ _ (λ i l. map_upto nv (λ j. quad (f i j) (f i (suc j)) (f (suc i) (suc j)) (f (suc i) j))
      ∙ upto_cong nv _ _ (λ j l. λ t. quad (e i j t) (e i (suc j) t) (e (suc i) (suc j) t) (e (suc i) j t)))

  pub map_grid : (nu nv : ℕ) (flip : Bool) (f : ℕ → ℕ → P) → map (map_tri h) (grid nu nv flip f) ≡ grid nu nv flip (λ i j. h (f i j))
  map_grid nu nv false f = map_plain nu nv f (λ i j. h (f i j)) (λ i j. refl) ∙ sym (grid_plain nu nv (λ i j. h (f i j)))
  map_grid nu nv true f = map_turned nu nv f (λ i j. h (f i j)) (λ i j. refl) ∙ sym (grid_turned nu nv (λ i j. h (f i j)))
