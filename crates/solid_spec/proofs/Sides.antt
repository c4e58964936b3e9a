-- The sides of an outline, over any points: a ring of cells round its corners, at n + 1 levels. With the caps, or where the last level is the first, it is
-- balanced.
use mathlib.Core.Path.{◌≡◌, refl, sym, ap, ◌∙◌, fun_ext}
use mathlib.Core.List.{List, [], ◌∷◌, ◌++◌}
use mathlib.Core.Bool.{true, false}
use Prim.Native.Nat.{ℕ, zero, suc, ◌+◌, ◌%◌}
use native.Mathlib.Nat.{zero-mod, mod_self, mod-eq_of_lt}
use native.Mathlib.Omega.{arith}
use Rattle.mesh_balance_spec.specs.Soup.{Tri, Weight, rev, sum, Balanced, sum_append}
use Rattle.mesh_balance_spec.specs.Grid as Plain
use Rattle.mesh_balance_spec.specs.Grid.{quad, upto, upto_cong, path, path_cong, cells_law, sum_cells_turned, Bounds}
use Rattle.mesh_balance_spec.specs.Prism.{cycle, path_map, cycle_mod}
use Rattle.solid_spec.specs.Grid.{grid}
use Rattle.solid_spec.specs.Outline.{caps}
use Rattle.solid_spec.proofs.Every.{grid_plain, grid_turned}

module _ {P : Type 0} where
  -- the corners as one function of two indices, going round
  abbrev pub ring : ℕ → (ℕ → ℕ → P) → ℕ → ℕ → P
  ring len at i k = at (i % len) k

  -- as `rotpoly` winds them
  pub sides_grid : (len n : ℕ) (at : ℕ → ℕ → P) →
      upto len (λ i. upto n (λ k. quad (at i k) (at i (k + 1)) (at ((i + 1) % len) (k + 1)) (at ((i + 1) % len) k))) ≡ grid len n true (ring len at)
  unfolding grid
  sides_grid len n at =
      upto_cong len _ _ (λ i l. ap (λ (r : ℕ). upto n (λ k. quad (at r k) (at r (k + 1)) (at ((i + 1) % len) (k + 1)) (at ((i + 1) % len) k))) (sym (mod-eq_of_lt l)))

  -- the other way, as `extruded_polygon` does
  pub walls_grid : (len n : ℕ) (at : ℕ → ℕ → P) →
      upto len (λ i. upto n (λ k. quad (at i k) (at ((i + 1) % len) k) (at ((i + 1) % len) (k + 1)) (at i (k + 1)))) ≡ grid len n false (ring len at)
  unfolding grid
  walls_grid len n at =
      upto_cong len _ _ (λ i l. ap (λ (r : ℕ). upto n (λ k. quad (at r k) (at ((i + 1) % len) k) (at ((i + 1) % len) (k + 1)) (at r (k + 1)))) (sym (mod-eq_of_lt l)))

  sum_caps : (a b : ℕ → P) (w : Weight P) (ts : List (Tri ℕ)) → sum w (caps a b ts) ≡ sum (λ u v. w (a u) (a v)) ts + sum (λ u v. w (b v) (b u)) ts
  sum_caps a b w [] = refl
  sum_caps a b w (t ∷ ts) = omega (arith, sum_caps a b w ts)

module _ {P : Type 0} (m n : ℕ) (at : ℕ → ℕ → P) where
  meets : (k : ℕ) → ring (suc m) at (suc m) k ≡ ring (suc m) at 0 k
  meets k = ap (λ (i : ℕ). at i k) (mod_self (suc m) ∙ sym (zero-mod (suc m)))

  level : (w : Weight P) (k : ℕ) → path w (λ i. ring (suc m) at i k) (suc m) ≡ cycle m (λ u v. w (at u k) (at v k))
  level w k = path_map (λ i. at i k) w (λ i. i % suc m) (suc m) ∙ cycle_mod m (λ u v. w (at u k) (at v k))

  -- the boundary of the ring of cells: the ring of corners of the first level, and that of the last turned round
  ring_law : (w : Weight P) →
      sum w (Plain.cells (suc m) n (ring (suc m) at)) + cycle m (λ u v. w (at v 0) (at u 0)) + cycle m (λ u v. w (at u n) (at v n))
      ≡ sum (rev w) (Plain.cells (suc m) n (ring (suc m) at)) + cycle m (λ u v. w (at u 0) (at v 0)) + cycle m (λ u v. w (at v n) (at u n))
  ring_law w =
      omega (
        arith,
        cells_law (suc m) n (ring (suc m) at) w,
        level w 0,
        level (rev w) 0,
        level w n,
        level (rev w) n,
        path_cong w n (ring (suc m) at (suc m)) (ring (suc m) at 0) (λ k l. meets k),
        path_cong (rev w) n (ring (suc m) at (suc m)) (ring (suc m) at 0) (λ k l. meets k),
      )

  -- the last level is the first
  pub sides_wrapped : ((v : ℕ) → at v n ≡ at v 0) → Balanced (grid (suc m) n true (ring (suc m) at))
  sides_wrapped e = rw (grid_turned (suc m) n (ring (suc m) at))
      (λ w. omega (
        arith,
        ring_law w,
        sum_cells_turned w (suc m) n (ring (suc m) at),
        sum_cells_turned (rev w) (suc m) n (ring (suc m) at),
        ap (λ (g : ℕ → P). cycle m (λ u v. w (g u) (g v))) (fun_ext e),
        ap (λ (g : ℕ → P). cycle m (λ u v. w (g v) (g u))) (fun_ext e),
      ))

  module _ (ts : List (Tri ℕ)) (bound : Bounds ts (cycle m)) where
    pub sides_caps : Balanced (grid (suc m) n true (ring (suc m) at) ++ caps (λ v. at v 0) (λ v. at v n) ts)
    sides_caps = rw (grid_turned (suc m) n (ring (suc m) at))
        (λ w. omega (
          arith,
          ring_law w,
          sum_cells_turned w (suc m) n (ring (suc m) at),
          sum_cells_turned (rev w) (suc m) n (ring (suc m) at),
          sum_append w (Plain.cells_turned (suc m) n (ring (suc m) at)) (caps (λ v. at v 0) (λ v. at v n) ts),
          sum_append (rev w) (Plain.cells_turned (suc m) n (ring (suc m) at)) (caps (λ v. at v 0) (λ v. at v n) ts),
          sum_caps (λ v. at v 0) (λ v. at v n) w ts,
          sum_caps (λ v. at v 0) (λ v. at v n) (rev w) ts,
          bound (λ u v. w (at u 0) (at v 0)),
          bound (λ u v. w (at u n) (at v n)),
        ))

    pub caps_walls : Balanced (caps (λ v. at v n) (λ v. at v 0) ts ++ grid (suc m) n false (ring (suc m) at))
    caps_walls = rw (grid_plain (suc m) n (ring (suc m) at))
        (λ w. omega (
          arith,
          ring_law w,
          sum_append w (caps (λ v. at v n) (λ v. at v 0) ts) (Plain.cells (suc m) n (ring (suc m) at)),
          sum_append (rev w) (caps (λ v. at v n) (λ v. at v 0) ts) (Plain.cells (suc m) n (ring (suc m) at)),
          sum_caps (λ v. at v n) (λ v. at v 0) w ts,
          sum_caps (λ v. at v n) (λ v. at v 0) (rev w) ts,
          bound (λ u v. w (at u 0) (at v 0)),
          bound (λ u v. w (at u n) (at v n)),
        ))
