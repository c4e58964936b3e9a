-- One more cell of a row, and one more row of a grid. Assumes nothing.
use mathlib.Core.Path.{◌≡◌, refl, sym, ap, ◌∙◌}
use mathlib.Core.Bool.{Bool, true, false}
use mathlib.Core.List.{◌++◌}
use Prim.Native.Nat.{ℕ, ◌+◌, ◌≤◌}
use Rattle.math.specs.declared.Vec3.{Vec3}
use Rattle.mesh_balance_spec.specs.Buffer.{upto_more}
use Rattle.weld.specs.declared.Welding.{Welding}
use Rattle.weld.specs.Rep.{Ready}
use Rattle.weld.specs.Welding.{held_by, Welds, welds_none, welds_then, welds_as}
use Rattle.weld_quad.specs.Quads.{WeldsQuad}
use Rattle.weld.specs.declared.Four.{Four}
use Rattle.weld.specs.declared.FourNumbers.{FourNumbers}
use Rattle.solid_grid.specs.declared.sheet.Sheet.{Sheet}
use Rattle.solid_grid.specs.Sheet.{SheetWithin}
use Rattle.surface.proofs.Surfaces.{within_less, tabled_less}
use Rattle.solid_spec.specs.Grid.{Soup, cell, row, grid}
use Rattle.mesh_balance_spec.specs.Grid.{quad_turned}

cell_turned : (flip : Bool) (f : ℕ → ℕ → Vec3) (i j : ℕ) → quad_turned flip (f i j) (f (i + 1) j) (f (i + 1) (j + 1)) (f i (j + 1)) ≡ cell flip f i j
cell_turned true f i j = refl
cell_turned false f i j = refl

turned_as : (flip : Bool) (a b c d x y z w : Vec3) → a ≡ x → b ≡ y → c ≡ z → d ≡ w → quad_turned flip a b c d ≡ quad_turned flip x y z w
turned_as flip a b c d x y z w p q r s =
    ap (λ (v : Vec3). quad_turned flip v b c d) p ∙ ap (λ (v : Vec3). quad_turned flip x v c d) q ∙ ap (λ (v : Vec3). quad_turned flip x y v d) r ∙ ap (quad_turned flip x y z) s

-- the points of a smaller part of a sheet
pub sheet_less : (x : Sheet) (m n i j : ℕ) → i ≤ m → j ≤ n → SheetWithin x m n → SheetWithin x i j
sheet_less x m n i j p q r =
    (within_less x.corners.now x.s m n i j p q r.0, tabled_less x.s x.rows.now x.cols.now m n i j p q r.1)

-- a cell as a soup
pub cell_welds : {soup : Soup} {p : Four} {v w : Welding} {n : FourNumbers} → WeldsQuad soup p v w n → Welds soup v w
cell_welds Q = record { same = Q.same; runs = Q.numbered.runs }

module _ (flip : Bool) (f : ℕ → ℕ → Vec3) where
  pub row_none : (i : ℕ) (w : Welding) → Ready (held_by w) → Welds (row 0 flip f i) w w
  row_none i w R = welds_none w R

  pub row_more : (i j : ℕ) (a b c d : Vec3) (u v w : Welding) → a ≡ f i j → b ≡ f (i + 1) j → c ≡ f (i + 1) (j + 1) → d ≡ f i (j + 1)
      → Welds (row j flip f i) u v → Welds (quad_turned flip a b c d) v w → Welds (row (j + 1) flip f i) u w
  row_more i j a b c d u v w p q r s R Q =
      let e : quad_turned flip a b c d ≡ cell flip f i j = turned_as flip a b c d (f i j) (f (i + 1) j) (f (i + 1) (j + 1)) (f i (j + 1)) p q r s ∙ cell_turned flip f i j in
      welds_as (ap (λ (x : Soup). row j flip f i ++ x) e ∙ sym (upto_more j (cell flip f i))) (welds_then (row j flip f i) (quad_turned flip a b c d) u v w R Q)

  pub grid_none : (nv : ℕ) (w : Welding) → Ready (held_by w) → Welds (grid 0 nv flip f) w w
  unfolding grid
  grid_none nv w R = welds_none w R

  pub grid_more : (i nv : ℕ) (u v w : Welding) → Welds (grid i nv flip f) u v → Welds (row nv flip f i) v w → Welds (grid (i + 1) nv flip f) u w
  unfolding grid
  grid_more i nv u v w R Q = welds_as (sym (upto_more i (row nv flip f))) (welds_then (grid i nv flip f) (row nv flip f i) u v w R Q)

  -- one more cell of a grid of one column
  pub column_more : (i : ℕ) (a b c d : Vec3) (u v w : Welding) → a ≡ f i 0 → b ≡ f (i + 1) 0 → c ≡ f (i + 1) 1 → d ≡ f i 1
      → Welds (grid i 1 flip f) u v → Welds (quad_turned flip a b c d) v w → Welds (grid (i + 1) 1 flip f) u w
  column_more i a b c d u v w p q r s R Q = grid_more i 1 u v w R (row_more i 0 a b c d v v w p q r s (row_none i v R.runs.ready) Q)
