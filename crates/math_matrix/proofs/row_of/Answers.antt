-- `math_matrix::row_of` meets its contract. Assumes nothing.
use mathlib.Core.Path.{◌≡◌, sym, ap}
use Prim.Native.Nat.{ℕ, ◌*◌}
use native.Mathlib.Nat.{add-zero}
use lib.ListN.{get_or}
use lib.Ieee.{nan}
use Rattle.math_matrix.specs.declared.Mat4.{Mat4}
use Rattle.math_matrix.specs.declared.Row.{Row}
use Rattle.math_matrix.specs.Mat.{row_of, entry}
use Rattle.math_matrix.proofs.row_of.Goals as goal

-- a row starts at its number times 4
from_place : Mat4 → ℕ → ℕ → Row
from_place a i k = record { x = get_or a.m k nan; y = entry a i 1; z = entry a i 2; w = entry a i 3 }

starts : (a : Mat4) (i : ℕ) → from_place a i (i * 4) ≡ row_of a i
unfolding from_place
starts a i = sym (ap (from_place a i) (add-zero (i * 4)))

pub returns : goal.returns
unfolding from_place
returns c = starts c.args.a c.args.i
