-- Why an affine matrix needs no division: the fourth coordinate of a finite point is 1. Assumes nothing.
use mathlib.Core.Path.{◌≡◌, refl, sym, ap, ◌∙◌, subst}
use mathlib.Core.Logic.{◌⊎◌, inl, inr}
use mathlib.Core.Bool.{Bool, true, false, ◌&&◌, false≢true}
use mathlib.Core.List.{List}
use Prim.Native.Nat.{ℕ, zero, suc, ◌+◌, ◌*◌, ◌≤◌, ◌<◌}
use native.Mathlib.Omega.{arith}
use lib.ListN.{length, take, get_or}
use lib.Dec.{T}
use lib.Ieee.{Float, nan, binary64, add, mul, eq, ne, fits}
use lib.Ieee.Scale.{finite}
use Rattle.ieee.specs.Number.{is_zero, Same, plus_zero}
use Rattle.ieee.specs.Same.{plus_zero_lem, add_same, mul_zero_l, zero_add_same, eq→same, zeros_eq, true_T, T_true}
use Rattle.math.specs.declared.Vec3.{Vec3}
use Rattle.math_matrix.specs.declared.Mat4.{Mat4}
use Rattle.math.specs.Vec.{one}
use Rattle.math_matrix.specs.Mat.{entry, row_of, along, over_w, transform_point}
use Rattle.slice_law.specs.Bools.{and_left, and_right, and_both}
use Rattle.slice.specs.Every.{every}
use Rattle.mesh_spec.specs.Decides.{Decides}
use Rattle.mesh_spec.specs.Slices.{vertex_at}
use Rattle.mesh_move_affine.specs.Affine.{Affine, affine_point, Movable}
use Rattle.slice.specs.EveryLaws.{every_at}

-- ---- the tests of the last row
is_zero_lem : (x : Float) → fits binary64 x ≡ true → eq x plus_zero ≡ true → T (is_zero x)
unfolding fits
is_zero_lem x f e = elim (eq→same binary64 x plus_zero (true_T (fits binary64 x) f) tt (true_T (eq x plus_zero) e)) [
  | inl p ↦ subst (λ (y : Float). T (is_zero y)) (sym p) tt
  | inr q ↦ q.0
]

is_one : (x : Float) → fits binary64 x ≡ true → eq x one ≡ true → x ≡ one
unfolding fits
is_one x f e = elim (eq→same binary64 x one (true_T (fits binary64 x) f) tt (true_T (eq x one) e)) [
  | inl p ↦ p
  | inr q ↦ absurd q.1
]

pub zero_test : (x : Float) → fits binary64 x ≡ true → eq x plus_zero ≡ is_zero x
zero_test x f = go (eq x plus_zero) (is_zero x) refl refl
  where
    go : (b z : Bool) → eq x plus_zero ≡ b → is_zero x ≡ z → b ≡ z
    go true z e h = sym (T_true (is_zero x) (is_zero_lem x f e)) ∙ h
    go false false e h = refl
    go false true e h = sym e ∙ T_true (eq x plus_zero) (zeros_eq x plus_zero (true_T (is_zero x) h) tt)

pub one_test : (x : Float) → fits binary64 x ≡ true → Decides (eq x one) (x ≡ one)
unfolding eq
one_test x f = record { yes = is_one x f; no = λ e. ap {B = Bool} (λ (y : Float). eq y one) e }

-- the four tests of the last row
pub is_affine : (a : Mat4) (p q r s : Bool) → p ≡ is_zero (entry a 3 0) → q ≡ is_zero (entry a 3 1) → r ≡ is_zero (entry a 3 2) → Decides s (entry a 3 3 ≡ one)
    → Decides (p && q && r && s) (Affine a)
is_affine a p q r s x y z w = record {
  yes = λ e.
      let b = and_left (p && q && r) s e in
      let d = and_left (p && q) r b in
      record {
        x = true_T (is_zero (entry a 3 0)) (sym x ∙ and_left p q d);
        y = true_T (is_zero (entry a 3 1)) (sym y ∙ and_right p q d);
        z = true_T (is_zero (entry a 3 2)) (sym z ∙ and_right (p && q) r b);
        w = w.yes (and_right (p && q && r) s e);
      };
  no = λ h.
      and_both (p && q && r) s
      (and_both (p && q) r (and_both p q (x ∙ T_true (is_zero (entry a 3 0)) h.x) (y ∙ T_true (is_zero (entry a 3 1)) h.y)) (z ∙ T_true (is_zero (entry a 3 2)) h.z))
      (w.no h.w);
}

-- ---- the fourth coordinate
add_zeros : (x y : Float) → T (is_zero x) → T (is_zero y) → T (is_zero (add binary64 x y))
unfolding fits
add_zeros x y u v = elim (add_same binary64 x plus_zero y plus_zero (inr (u, tt)) (inr (v, tt))) [
  | inl p ↦ subst (λ (z : Float). T (is_zero z)) (sym (p ∙ plus_zero_lem binary64 plus_zero tt)) tt
  | inr q ↦ q.0
]

zero_and_one : (z : Float) → T (is_zero z) → add binary64 z one ≡ one
unfolding fits
zero_and_one z u = elim (zero_add_same binary64 z one u tt) [
  | inl p ↦ p
  | inr q ↦ absurd q.1
]

module _ (a : Mat4) (h : Affine a) where
  fourth : (p : Vec3) → T (finite p.x) → T (finite p.y) → T (finite p.z) → along (row_of a 3) p ≡ one
  unfolding along
  fourth p fx fy fz =
      let x = mul binary64 (entry a 3 0) p.x in
      let y = mul binary64 (entry a 3 1) p.y in
      let z = mul binary64 (entry a 3 2) p.z in
      let s = add binary64 (add binary64 x y) z in
      let zx : T (is_zero x) = mul_zero_l binary64 (entry a 3 0) p.x h.x fx in
      let zy : T (is_zero y) = mul_zero_l binary64 (entry a 3 1) p.y h.y fy in
      let zz : T (is_zero z) = mul_zero_l binary64 (entry a 3 2) p.z h.z fz in
      ap {B = Float} (add binary64 s) h.w ∙ zero_and_one s (add_zeros (add binary64 x y) z (add_zeros x y zx zy) zz)

  pub affine_point_lem : (p : Vec3) → T (finite p.x) → T (finite p.y) → T (finite p.z) → affine_point a p ≡ transform_point a p
  unfolding transform_point over_w affine_point ne eq
  affine_point_lem p fx fy fz = sym (ap {B = Vec3} (over_w (along (row_of a 0) p) (along (row_of a 1) p) (along (row_of a 2) p)) (fourth p fx fy fz))

-- vertex i of n finite ones
pub affine_vertex : (vs : List Float) (n : ℕ) (a : Mat4) → Movable vs n a → (i : ℕ) → i < n → affine_point a (vertex_at vs i) ≡ transform_point a (vertex_at vs i)
affine_vertex vs n a m i h =
    let at : (j : ℕ) → j < 3 * n → T (finite (get_or vs j nan)) = λ j k. true_T (finite (get_or vs j nan)) (every_at finite vs (3 * n) j nan m.vertices.finite k m.vertices.within) in
    affine_point_lem a m.affine (vertex_at vs i) (at (3 * i) (omega arith)) (at (3 * i + 1) (omega arith)) (at (3 * i + 2) (omega arith))
