-- `Soup::quad` and `Soup::grid` of src/tessellate.rs. A soup is a list of triangles of points, in the order in which the Rust pushes them. Definitions only.
use Rattle.std.specs.Prelude.{List, Bool, true, false, ℕ, ◌+◌}
use Rattle.math.specs.declared.Vec3.{Vec3}
use Rattle.mesh_balance_spec.specs.Soup.{Tri}
use Rattle.mesh_balance_spec.specs.Grid.{quad, upto}
pub use Rattle.mesh_spec.specs.Parts.{Soup}

module _ {P : Type 0} where
  -- one cell of `Soup::grid`: `quad(a, b, c, d)`, or `quad(a, d, c, b)` where flip says so
  abbrev pub cell : Bool → (ℕ → ℕ → P) → ℕ → ℕ → List (Tri P)
  cell false f i j = quad (f i j) (f (i + 1) j) (f (i + 1) (j + 1)) (f i (j + 1))
  cell true f i j = quad (f i j) (f i (j + 1)) (f (i + 1) (j + 1)) (f (i + 1) j)

  -- the inner loop of `Soup::grid`, for one i
  abbrev pub row : ℕ → Bool → (ℕ → ℕ → P) → ℕ → List (Tri P)
  row nv flip f i = upto nv (cell flip f i)

  -- `Soup::grid(nu, nv, flip, f)`
  unfoldable pub grid : ℕ → ℕ → Bool → (ℕ → ℕ → P) → List (Tri P)
  grid nu nv flip f = upto nu (row nv flip f)
