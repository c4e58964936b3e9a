-- The six faces of a parameter box are balanced, and where its points close up along the middle axis the four of the other two axes are. Assumes nothing.
use Rattle.std.specs.Prelude.{◌≡◌, ◌++◌, ℕ, ◌+◌, ◌≤◌}
use Rattle.std.proofs.Common.{arith}
use Rattle.mesh_balance_spec.specs.Soup.{Weight, rev, sum, Balanced, sum_append}
use Rattle.mesh_balance_spec.specs.Grid.{cells, cells_turned, path, cells_law, sum_cells_turned, path_cong}
use Rattle.mesh_balance_spec.specs.Box.{axis_faces, axis0, axis1, axis2, box, four_faces, box_of}

module _ {P : Type 0} where
  sum_axis_faces : (w : Weight P) (d nu nv : ℕ) (f : ℕ → ℕ → ℕ → P) → sum w (axis_faces d nu nv f) ≡ sum (rev w) (cells nu nv (f 0)) + sum w (cells nu nv (f d))
  sum_axis_faces w d nu nv f = omega (arith, sum_append w (cells_turned nu nv (f 0)) (cells nu nv (f d)), sum_cells_turned w nu nv (f 0))

  -- the boundary of both faces of an axis, as one equation
  axis_faces_law : (d nu nv : ℕ) (f : ℕ → ℕ → ℕ → P) (w : Weight P) →
      sum w (axis_faces d nu nv f)
      + (path (rev w) (λ i. f d i 0) nu + path (rev w) (λ j. f d nu j) nv + path w (λ i. f d i nv) nu + path w (λ j. f d 0 j) nv)
      + (path w (λ i. f 0 i 0) nu + path w (λ j. f 0 nu j) nv + path (rev w) (λ i. f 0 i nv) nu + path (rev w) (λ j. f 0 0 j) nv)
      ≡ sum (rev w) (axis_faces d nu nv f)
      + (path w (λ i. f d i 0) nu + path w (λ j. f d nu j) nv + path (rev w) (λ i. f d i nv) nu + path (rev w) (λ j. f d 0 j) nv)
      + (path (rev w) (λ i. f 0 i 0) nu + path (rev w) (λ j. f 0 nu j) nv + path w (λ i. f 0 i nv) nu + path w (λ j. f 0 0 j) nv)
  axis_faces_law d nu nv f w = omega (arith, sum_axis_faces w d nu nv f, sum_axis_faces (rev w) d nu nv f, cells_law nu nv (f 0) w, cells_law nu nv (f d) w)

  pub box_balanced : (d0 d1 d2 : ℕ) (g : ℕ → ℕ → ℕ → P) → Balanced (box d0 d1 d2 g)
  box_balanced d0 d1 d2 g w =
      let a = axis_faces d0 d1 d2 (axis0 g) in
      let b = axis_faces d1 d2 d0 (axis1 g) in
      let c = axis_faces d2 d0 d1 (axis2 g) in
      omega (
        arith,
        axis_faces_law d0 d1 d2 (axis0 g) w,
        axis_faces_law d1 d2 d0 (axis1 g) w,
        axis_faces_law d2 d0 d1 (axis2 g) w,
        sum_append w (a ++ b) c,
        sum_append (rev w) (a ++ b) c,
        sum_append w a b,
        sum_append (rev w) a b,
      )

  pub four_faces_balanced : (d0 d1 d2 : ℕ) (g : ℕ → ℕ → ℕ → P) → ((i k : ℕ) → i ≤ d0 → k ≤ d2 → g i d1 k ≡ g i 0 k) → Balanced (four_faces d0 d1 d2 g)
  four_faces_balanced d0 d1 d2 g p w =
      let a = axis_faces d0 d1 d2 (axis0 g) in
      let c = axis_faces d2 d0 d1 (axis2 g) in
      omega (
        arith,
        axis_faces_law d0 d1 d2 (axis0 g) w,
        axis_faces_law d2 d0 d1 (axis2 g) w,
        sum_append w a c,
        sum_append (rev w) a c,
        along w 0 (omega arith),
        along w d0 (omega arith),
        along (rev w) 0 (omega arith),
        along (rev w) d0 (omega arith),
        across w 0 (omega arith),
        across w d2 (omega arith),
        across (rev w) 0 (omega arith),
        across (rev w) d2 (omega arith),
      )
    where
      along : (w : Weight P) (i : ℕ) → i ≤ d0 → path w (λ k. g i d1 k) d2 ≡ path w (λ k. g i 0 k) d2
      along w i h = path_cong w d2 (λ k. g i d1 k) (λ k. g i 0 k) (λ k l. p i k h l)

      across : (w : Weight P) (k : ℕ) → k ≤ d2 → path w (λ i. g i d1 k) d0 ≡ path w (λ i. g i 0 k) d0
      across w k h = path_cong w d0 (λ i. g i d1 k) (λ i. g i 0 k) (λ i l. p i k l h)

  pub box_of_balanced : (d : ℕ → ℕ) (g : ℕ → ℕ → ℕ → P) → Balanced (box_of d g)
  box_of_balanced d g = box_balanced (d 0) (d 1) (d 2) g
