-- Grids of quads, the boundary of one, and the grids that are closed up: the torus, the sphere and the six faces of a box.
-- Assumes nothing.
use Rattle.std.specs.Prelude.{◌≡◌, refl, Bool, true, false, List, [], ◌∷◌, ◌++◌, map, ℕ, zero, suc, ◌+◌, ◌%◌, ◌≤◌, ◌<◌}
use Rattle.std.proofs.Common.{sym, ap, ap₂, ◌∙◌, arith, add-one}
use Rattle.std.proofs.Math.Nat.{zero-mod, mod_self}
use Rattle.mesh_balance_spec.specs.Soup.{Tri, Weight, rev, sum, Balanced, flip_tri, map_tri, sum_append, sum_flip, sum_map}

module _ {P : Type 0} where
  -- `Soup::quad` of src/tessellate.rs
  abbrev pub quad : P → P → P → P → List (Tri P)
  quad a b c d = (a, b, c) ∷ (a, c, d) ∷ []

  -- `quad(a, d, c, b)` where flip says so, else `quad(a, b, c, d)`
  abbrev pub quad_turned : Bool → P → P → P → P → List (Tri P)
  quad_turned true a b c d = quad a d c b
  quad_turned false a b c d = quad a b c d

  -- h 0, h 1, .. h (n - 1), one after the other
  abbrev pub upto : ℕ → (ℕ → List (Tri P)) → List (Tri P)
  upto zero h = []
  upto (suc n) h = upto n h ++ h n

  -- nu × nv quads, the points of cell (i, j) being f i j and its neighbours
  abbrev pub cells : ℕ → ℕ → (ℕ → ℕ → P) → List (Tri P)
  cells nu nv f = upto nu (λ i. upto nv (λ j. quad (f i j) (f (suc i) j) (f (suc i) (suc j)) (f i (suc j))))

  -- the same with each quad the other way round
  abbrev pub cells_turned : ℕ → ℕ → (ℕ → ℕ → P) → List (Tri P)
  cells_turned nu nv f = upto nu (λ i. upto nv (λ j. quad (f i j) (f i (suc j)) (f (suc i) (suc j)) (f (suc i) j)))

  -- the weight of the edges along p 0, p 1, .. p n
  abbrev pub path : Weight P → (ℕ → P) → ℕ → ℕ
  path w p zero = 0
  path w p (suc n) = path w p n + w (p n) (p (suc n))

  -- the edges of the soup are those of F, but for pairs of an edge and its reverse
  abbrev pub Bounds : List (Tri P) → (Weight P → ℕ) → Type 0
  Bounds ts F = (w : Weight P) → sum w ts + F (rev w) ≡ sum (rev w) ts + F w

  pub bounds_append : (xs ys : List (Tri P)) (F G : Weight P → ℕ) → Bounds xs F → Bounds ys G → Bounds (xs ++ ys) (λ w. F w + G w)
  bounds_append xs ys F G p q w = omega (arith, sum_append w xs ys, sum_append (rev w) xs ys, p w, q w)

  pub bounds_flip : (xs : List (Tri P)) (F : Weight P → ℕ) → Bounds xs F → Bounds (map flip_tri xs) (λ w. F (rev w))
  bounds_flip xs F p w = omega (arith, sum_flip w xs, sum_flip (rev w) xs, p w)

  pub bounds_balanced : (xs : List (Tri P)) (F : Weight P → ℕ) → ((w : Weight P) → F w ≡ F (rev w)) → Bounds xs F → Balanced xs
  bounds_balanced xs F e p w = omega (arith, p w, e w)

  pub strip_law : (w : Weight P) (n : ℕ) (a b : ℕ → P) →
      sum w (upto n (λ j. quad (a j) (b j) (b (suc j)) (a (suc j)))) + path (rev w) b n + path w a n + w (b 0) (a 0) + w (a n) (b n)
      ≡ sum (rev w) (upto n (λ j. quad (a j) (b j) (b (suc j)) (a (suc j)))) + path w b n + path (rev w) a n + w (a 0) (b 0) + w (b n) (a n)
  strip_law w zero a b = omega arith
  strip_law w (suc n) a b =
      let q : List (Tri P) = quad (a n) (b n) (b (suc n)) (a (suc n)) in
      let s : List (Tri P) = upto n (λ j. quad (a j) (b j) (b (suc j)) (a (suc j))) in
      omega (arith, strip_law w n a b, sum_append w s q, sum_append (rev w) s q)

  -- round the grid: along the side 0 of the second axis, up the last side of the first, back, and down
  abbrev pub rim : ℕ → ℕ → (ℕ → ℕ → P) → Weight P → ℕ
  rim nu nv f w = path w (λ i. f i 0) nu + path w (λ j. f nu j) nv + path (rev w) (λ i. f i nv) nu + path (rev w) (λ j. f 0 j) nv

  pub cells_law : (nu nv : ℕ) (f : ℕ → ℕ → P) → Bounds (cells nu nv f) (rim nu nv f)
  cells_law zero nv f w = omega arith
  cells_law (suc n) nv f w =
      let s : List (Tri P) = upto nv (λ j. quad (f n j) (f (suc n) j) (f (suc n) (suc j)) (f n (suc j))) in
      omega (arith, cells_law n nv f w, strip_law w nv (f n) (f (suc n)), sum_append w (cells n nv f) s, sum_append (rev w) (cells n nv f) s)

  pub path_cong : (w : Weight P) (n : ℕ) (p q : ℕ → P) → ((i : ℕ) → i ≤ n → p i ≡ q i) → path w p n ≡ path w q n
  path_cong w zero p q h = refl
  path_cong w (suc n) p q h =
      ap₂ (λ (x y : ℕ). x + y) (path_cong w n p q (λ i l. h i (omega arith)))
      (ap₂ w (h n (omega arith)) (h (suc n) (omega arith)))

  still : (w : Weight P) (n : ℕ) (c : P) → path w (λ i. c) n ≡ path (rev w) (λ i. c) n
  still w zero c = refl
  still w (suc n) c = omega (arith, still w n c)

  pub path_still : (w : Weight P) (n : ℕ) (p : ℕ → P) (c : P) → ((i : ℕ) → i ≤ n → p i ≡ c) → path w p n ≡ path (rev w) p n
  path_still w n p c h = path_cong w n p (λ i. c) h ∙ still w n c ∙ sym (path_cong (rev w) n p (λ i. c) h)

  pub torus : (nu nv : ℕ) (f : ℕ → ℕ → P) → ((i : ℕ) → i ≤ nu → f i nv ≡ f i 0) → ((j : ℕ) → j ≤ nv → f nu j ≡ f 0 j) → Balanced (cells nu nv f)
  torus nu nv f p q w =
      omega (
        arith,
        cells_law nu nv f w,
        path_cong w nu (λ i. f i nv) (λ i. f i 0) p,
        path_cong (rev w) nu (λ i. f i nv) (λ i. f i 0) p,
        path_cong w nv (λ j. f nu j) (λ j. f 0 j) q,
        path_cong (rev w) nv (λ j. f nu j) (λ j. f 0 j) q,
      )

  -- indices that wrap round, with no condition
  pub torus_mod : (nu nv : ℕ) (p : ℕ → ℕ → P) → Balanced (cells nu nv (λ i j. p (i % nu) (j % nv)))
  torus_mod nu nv p =
      torus nu nv (λ i j. p (i % nu) (j % nv)) (λ i l. ap (p (i % nu)) (mod_self nv ∙ sym (zero-mod nv)))
      (λ j l. ap (λ k. p k (j % nv)) (mod_self nu ∙ sym (zero-mod nu)))

  pub sphere : (nu nv : ℕ) (f : ℕ → ℕ → P) (s n : P) → ((i : ℕ) → i ≤ nu → f i nv ≡ f i 0) → ((j : ℕ) → j ≤ nv → f 0 j ≡ s)
      → ((j : ℕ) → j ≤ nv → f nu j ≡ n) → Balanced (cells nu nv f)
  sphere nu nv f s n p q r w =
      omega (
        arith,
        cells_law nu nv f w,
        path_cong w nu (λ i. f i nv) (λ i. f i 0) p,
        path_cong (rev w) nu (λ i. f i nv) (λ i. f i 0) p,
        path_still w nv (λ j. f 0 j) s q,
        path_still w nv (λ j. f nu j) n r,
      )

  sum_upto : (w x : Weight P) (n : ℕ) (g h : ℕ → List (Tri P)) → ((i : ℕ) → sum w (g i) ≡ sum x (h i)) → sum w (upto n g) ≡ sum x (upto n h)
  sum_upto w x zero g h e = refl
  sum_upto w x (suc n) g h e = omega (arith, sum_upto w x n g h e, e n, sum_append w (upto n g) (g n), sum_append x (upto n h) (h n))

  pub sum_cells_turned : (w : Weight P) (nu nv : ℕ) (f : ℕ → ℕ → P) → sum w (cells_turned nu nv f) ≡ sum (rev w) (cells nu nv f)
  sum_cells_turned w nu nv f = sum_upto w (rev w) nu _ _ (λ i. sum_upto w (rev w) nv _ _ (λ j. omega arith))

  -- a grid that closes up along its second axis, with a soup that fills each of the two rings that are left
  pub capped : (nu nv : ℕ) (f : ℕ → ℕ → P) (A B : List (Tri P)) → ((i : ℕ) → i ≤ nu → f i nv ≡ f i 0) →
      Bounds A (λ w. path w (f 0) nv) → Bounds B (λ w. path (rev w) (f nu) nv) → Balanced (A ++ B ++ cells nu nv f)
  capped nu nv f A B p a b w =
      omega (
        arith,
        cells_law nu nv f w,
        a w,
        b w,
        sum_append w (A ++ B) (cells nu nv f),
        sum_append (rev w) (A ++ B) (cells nu nv f),
        sum_append w A B,
        sum_append (rev w) A B,
        path_cong w nu (λ i. f i nv) (λ i. f i 0) p,
        path_cong (rev w) nu (λ i. f i nv) (λ i. f i 0) p,
      )

  pub upto_cong : (n : ℕ) (g h : ℕ → List (Tri P)) → ((i : ℕ) → i < n → g i ≡ h i) → upto n g ≡ upto n h
  upto_cong zero g h e = refl
  upto_cong (suc n) g h e = ap₂ (λ (x y : List (Tri P)). x ++ y) (upto_cong n g h (λ i l. e i (omega arith))) (e n (omega arith))

  -- the same grid as code writes it, with i + 1 for the number after i
  abbrev pub cells₁ : ℕ → ℕ → (ℕ → ℕ → P) → List (Tri P)
  cells₁ nu nv f = upto nu (λ i. upto nv (λ j. quad (f i j) (f (i + 1) j) (f (i + 1) (j + 1)) (f i (j + 1))))

  pub cells₁_cells : (nu nv : ℕ) (f : ℕ → ℕ → P) → cells₁ nu nv f ≡ cells nu nv f
  cells₁_cells nu nv f = simp add-one

  abbrev pub cells_turned₁ : ℕ → ℕ → (ℕ → ℕ → P) → List (Tri P)
  cells_turned₁ nu nv f = upto nu (λ i. upto nv (λ j. quad (f i j) (f i (j + 1)) (f (i + 1) (j + 1)) (f (i + 1) j)))

  pub cells_turned₁_cells_turned : (nu nv : ℕ) (f : ℕ → ℕ → P) → cells_turned₁ nu nv f ≡ cells_turned nu nv f
  cells_turned₁_cells_turned nu nv f = simp add-one

module _ {P Q : Type 0} where
  pub bounds_map : (f : P → Q) (xs : List (Tri P)) (F : Weight P → ℕ) → Bounds xs F → Bounds (map (map_tri f) xs) (λ w. F (λ u v. w (f u) (f v)))
  bounds_map f xs F p w = omega (arith, sum_map f w xs, sum_map f (rev w) xs, p (λ u v. w (f u) (f v)))
