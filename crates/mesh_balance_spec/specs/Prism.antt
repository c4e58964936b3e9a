-- A prism: a cap at one level, the same cap reversed at another, and a side quad over each edge of the ring that bounds the cap.
-- Assumes nothing.
use Rattle.std.specs.Prelude.{◌≡◌, refl, List, [], ◌∷◌, ◌++◌, map, ℕ, zero, suc, ◌+◌, ◌%◌}
use Rattle.std.proofs.Common.{sym, ap, ap₂, ◌∙◌, mod-eq_of_lt, arith, add-one}
use Rattle.std.proofs.Math.Nat.{zero-mod, mod_self}
use Rattle.mesh_balance_spec.specs.Soup.{Tri, Weight, rev, Balanced, flip_tri, map_tri, sum_append, sum_flip, sum_map}
use Rattle.mesh_balance_spec.specs.Grid.{quad, upto, upto_cong, path, path_cong, strip_law, Bounds}

module _ {C P : Type 0} where
  -- the cap at lo, the cap turned at hi, and a quad over each edge of the ring r
  abbrev pub prism : (ℕ → C) → ℕ → List (Tri C) → (C → P) → (C → P) → List (Tri P)
  prism r n caps lo hi =
      map (map_tri lo) caps ++ map flip_tri (map (map_tri hi) caps)
      ++ upto n (λ i. quad (lo (r i)) (hi (r i)) (hi (r (suc i))) (lo (r (suc i))))

  -- a path through mapped corners
  pub path_map : (f : C → P) (w : Weight P) (r : ℕ → C) (n : ℕ) → path w (λ i. f (r i)) n ≡ path (λ u v. w (f u) (f v)) r n
  path_map f w r zero = refl
  path_map f w r (suc n) = omega (arith, path_map f w r n)

  pub prism_balanced : (r : ℕ → C) (n : ℕ) (caps : List (Tri C)) (lo hi : C → P) → r n ≡ r 0 → Bounds caps (λ w. path w r n) → Balanced (prism r n caps lo hi)
  prism_balanced r n caps lo hi e b w =
      let bottom = map (map_tri lo) caps in
      let top = map flip_tri (map (map_tri hi) caps) in
      let sides = upto n (λ i. quad (lo (r i)) (hi (r i)) (hi (r (suc i))) (lo (r (suc i)))) in
      omega (
        arith,
        strip_law w n (λ i. lo (r i)) (λ i. hi (r i)),
        sum_append w (bottom ++ top) sides,
        sum_append (rev w) (bottom ++ top) sides,
        sum_append w bottom top,
        sum_append (rev w) bottom top,
        sum_flip w (map (map_tri hi) caps),
        sum_flip (rev w) (map (map_tri hi) caps),
        sum_map lo w caps,
        sum_map lo (rev w) caps,
        sum_map hi w caps,
        sum_map hi (rev w) caps,
        path_map lo w r n,
        path_map lo (rev w) r n,
        path_map hi w r n,
        path_map hi (rev w) r n,
        b (λ u v. w (lo u) (lo v)),
        b (λ u v. w (hi u) (hi v)),
        ap (λ c. w (lo c) (hi c)) e,
        ap (λ c. w (hi c) (lo c)) e,
      )

-- the edges 0 → 1 → .. → m → 0
abbrev pub cycle : ℕ → Weight ℕ → ℕ
cycle m w = path w (λ i. i) m + w m 0

-- the corners counted round: 0, 1, .. m, 0
pub cycle_mod : (m : ℕ) (w : Weight ℕ) → path w (λ i. i % suc m) (suc m) ≡ cycle m w
cycle_mod m w =
    ap₂ (λ (x y : ℕ). x + y) (path_cong w m (λ i. i % suc m) (λ i. i) (λ i l. mod-eq_of_lt (omega arith)))
    (ap₂ w (mod-eq_of_lt (omega arith)) (mod_self (suc m)))

module _ {P : Type 0} where
  -- over the corners 0 .. m
  abbrev pub prism_of : ℕ → List (Tri ℕ) → (ℕ → P) → (ℕ → P) → List (Tri P)
  prism_of m caps lo hi =
      map (map_tri lo) caps ++ map flip_tri (map (map_tri hi) caps)
      ++ upto (suc m) (λ i. quad (lo i) (hi i) (hi ((i + 1) % suc m)) (lo ((i + 1) % suc m)))

  same_sides : (m : ℕ) (lo hi : ℕ → P) →
      upto (suc m) (λ i. quad (lo i) (hi i) (hi ((i + 1) % suc m)) (lo ((i + 1) % suc m)))
      ≡ upto (suc m) (λ i. quad (lo (i % suc m)) (hi (i % suc m)) (hi (suc i % suc m)) (lo (suc i % suc m)))
  same_sides m lo hi = upto_cong (suc m) _ _ (λ i l. rw (add-one, mod-eq_of_lt l))

  pub prism_of_balanced : (m : ℕ) (caps : List (Tri ℕ)) (lo hi : ℕ → P) → Bounds caps (cycle m) → Balanced (prism_of m caps lo hi)
  prism_of_balanced m caps lo hi b =
      rw (same_sides m lo hi)
      (prism_balanced (λ i. i % suc m) (suc m) caps lo hi (mod_self (suc m) ∙ sym (zero-mod (suc m)))
      (λ w. omega (arith, b w, cycle_mod m w, cycle_mod m (rev w))))

-- the fan from corner 0: n triangles, the corners 0 .. n + 1
abbrev pub fan : ℕ → List (Tri ℕ)
fan n = upto n (λ i. (0, suc i, suc (suc i)) ∷ [])

pub fan_law : (n : ℕ) → Bounds (fan n) (cycle (suc n))
fan_law zero w = omega arith
fan_law (suc n) w =
    let t : List (Tri ℕ) = (0, suc n, suc (suc n)) ∷ [] in
    omega (arith, fan_law n w, sum_append w (fan n) t, sum_append (rev w) (fan n) t)
