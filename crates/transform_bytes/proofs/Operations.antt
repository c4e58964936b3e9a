-- The operation of each kind, and its floats. Assumes nothing.
use mathlib.Core.Path.{◌≡◌, ap, ◌∙◌}
use mathlib.Core.List.{List}
use Prim.Native.Nat.{ℕ}
use borrow.Author.Tests.{ne_eqb}
use Rattle.transform.specs.declared.TransformOp.{TransformOp}
use Rattle.slice_law.specs.Arms.{of_kind, Not}
use Rattle.transform_bytes.specs.Layout.{op_floats, op_of_kind, matrix_at}

-- the kinds that no arm names
abbrev Others : ℕ → Type 0
Others k = ((((((Unit {0} × Not k 1) × Not k 2) × Not k 3) × Not k 4) × Not k 5) × Not k 6) × Not k 7

pub other_floats : {k : ℕ} → Others k → 16 ≡ op_floats k
unfolding op_floats
other_floats {k} h =
    simp (
      ne_eqb k 1 h.0.0.0.0.0.0.1,
      ne_eqb k 2 h.0.0.0.0.0.1,
      ne_eqb k 3 h.0.0.0.0.1,
      ne_eqb k 4 h.0.0.0.1,
      ne_eqb k 5 h.0.0.1,
      ne_eqb k 6 h.0.1,
      ne_eqb k 7 h.1,
    )

-- the floats of a kind that an arm names
pub kind_floats : (j m : ℕ) {k : ℕ} → k ≡ j → op_floats j ≡ m → op_floats k ≡ m
kind_floats j m h e = ap op_floats h ∙ e

pub of_op_kind : (b : List ℕ) (n j : ℕ) {k : ℕ} {r : TransformOp} → k ≡ j → r ≡ op_of_kind j b n → r ≡ op_of_kind k b n
of_op_kind b n = of_kind (λ (i : ℕ). op_of_kind i b n)

pub other_kind : (b : List ℕ) (n : ℕ) {k : ℕ} {r : TransformOp} → Others k → r ≡ matrix_at b n → r ≡ op_of_kind k b n
unfolding op_of_kind
other_kind b n {k} h e =
    simp (
      ne_eqb k 1 h.0.0.0.0.0.0.1,
      ne_eqb k 2 h.0.0.0.0.0.1,
      ne_eqb k 3 h.0.0.0.0.1,
      ne_eqb k 4 h.0.0.0.1,
      ne_eqb k 5 h.0.0.1,
      ne_eqb k 6 h.0.1,
      ne_eqb k 7 h.1,
    ) e
