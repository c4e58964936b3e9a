-- A bounded matrix keeps bounded vertices finite. Assumes nothing.
use mathlib.Core.Path.{◌≡◌, refl, sym, ap, ◌∙◌}
use mathlib.Core.Bool.{Bool, true, false, ◌&&◌, false≢true}
use mathlib.Core.List.{List, [], ◌∷◌, map}
use Prim.Native.Nat.{ℕ, zero, suc, ◌+◌, ◌*◌, ◌/◌, ◌%◌, ◌≤◌, ◌<◌}
use native.Mathlib.Omega.{arith}
use lib.ListN.{length, take, get_or}
use lib.Dec.{T}
use lib.Ieee.{Float, nan}
use lib.Ieee.Bits.{is_true}
use lib.Ieee.Scale.{finite}
use Rattle.slice_law.specs.Bools.{and_left, and_right, and_both}
use Rattle.ieee.specs.Same.{true_T}
use Rattle.math.specs.declared.Vec3.{Vec3}
use Rattle.math_matrix.specs.declared.Mat4.{Mat4}
use Rattle.math.specs.Vec.{v_finite}
use Rattle.math_matrix.specs.Mat.{entry, row_of, along, transform_point}
use Rattle.slice.specs.Every.{every}
use Rattle.slice.specs.EveryLaws.{every_at}
use Rattle.mesh_spec.specs.Decides.{Decides}
use Rattle.mesh_spec.specs.Slices.{points}
use Rattle.slice_bounded.specs.Bounded.{is_bounded}
use Rattle.slice_bounded.specs.Laws.{bounded_finite, every_finite, row_finite}
use Rattle.mesh_move_affine.specs.Affine.{Affine, affine_point, RowsWithin, BoundedMatrix, FiniteVertices, Tested}
use Rattle.mesh_move_affine.proofs.AffineLaws.{affine_point_lem}

-- the elements of the front pass a test, one by one
every_of : {A : Type 0} (k : A → Bool) (l : List A) (n : ℕ) (d : A) → ((i : ℕ) → i < n → k (get_or l i d) ≡ true) → every k (take n l) ≡ true
unfolding every
every_of k l zero d h = refl
every_of k [] (suc n) d h = refl
every_of k (x ∷ l) (suc n) d h = and_both (k x) (every k (take n l)) (h 0 (omega arith)) (every_of k l n d (λ i u. h (suc i) (omega arith)))

-- the test of the first three rows
pub rows_within : (a : Mat4) (r : Bool) → 12 ≤ length a.m → r ≡ every is_bounded (take 12 a.m) → Decides r (RowsWithin a)
rows_within a r l e = record {
  yes = λ t i j u v. true_T (is_bounded (entry a i j)) (every_at is_bounded a.m 12 (i * 4 + j) nan (sym e ∙ t) (omega arith) l);
  no = λ h. e ∙ every_of is_bounded a.m 12 nan (λ k u. at h k u);
}
  where
    at : RowsWithin a → (k : ℕ) → k < 12 → is_bounded (get_or a.m k nan) ≡ true
    at h k u =
        let w : k / 4 * 4 + k % 4 ≡ k = omega arith in
        ap {B = Bool} (λ (n : ℕ). is_bounded (get_or a.m n nan)) (sym w) ∙ is_true (is_bounded (entry a (k / 4) (k % 4))) (h (k / 4) (k % 4) (omega arith) (omega arith))

-- both tests of the matrix
pub is_bounded_lem : (a : Mat4) (p q : Bool) → Decides p (Affine a) → Decides q (RowsWithin a) → Decides (p && q) (BoundedMatrix a)
is_bounded_lem a p q h k = record {
  yes = λ t. record { affine = h.yes (and_left p q t); rows = k.yes (and_right p q t) };
  no = λ b. and_both p q (h.no b.affine) (k.no b.rows);
}

module _ (a : Mat4) (h : BoundedMatrix a) where
  row : (i : ℕ) → i < 3 → (p : Vec3) → T (is_bounded p.x) → T (is_bounded p.y) → T (is_bounded p.z) → finite (along (row_of a i) p) ≡ true
  unfolding along
  row i u p x y z = is_true (finite (along (row_of a i) p))
      (row_finite (entry a i 0) (entry a i 1) (entry a i 2) (entry a i 3) p.x p.y p.z
      (h.rows i 0 u (omega arith)) (h.rows i 1 u (omega arith)) (h.rows i 2 u (omega arith)) (h.rows i 3 u (omega arith)) x y z)

  point : (p : Vec3) → T (is_bounded p.x) → T (is_bounded p.y) → T (is_bounded p.z) → v_finite (transform_point a p) ≡ true
  unfolding v_finite affine_point
  point p x y z =
      ap {B = Bool} v_finite (sym (affine_point_lem a h.affine p (bounded_finite p.x x) (bounded_finite p.y y) (bounded_finite p.z z)))
      ∙ and_both (finite (along (row_of a 0) p) && finite (along (row_of a 1) p)) (finite (along (row_of a 2) p))
      (and_both (finite (along (row_of a 0) p)) (finite (along (row_of a 1) p)) (row 0 (omega arith) p x y z) (row 1 (omega arith) p x y z)) (row 2 (omega arith) p x y z)

  pub keeps : (l : List Float) → every is_bounded l ≡ true → every v_finite (map (transform_point a) (points l)) ≡ true
  unfolding every
  keeps [] e = refl
  keeps (x ∷ []) e = refl
  keeps (x ∷ y ∷ []) e = refl
  keeps (x ∷ y ∷ z ∷ l) e =
      let f = and_right (is_bounded x) (is_bounded y && (is_bounded z && every is_bounded l)) e in
      let g = and_right (is_bounded y) (is_bounded z && every is_bounded l) f in
      let p : Vec3 = record { x = x; y = y; z = z } in
      and_both (v_finite (transform_point a p)) (every v_finite (map (transform_point a) (points l)))
      (point p (true_T (is_bounded x) (and_left (is_bounded x) (is_bounded y && (is_bounded z && every is_bounded l)) e)) (true_T (is_bounded y) (and_left (is_bounded y) (is_bounded z && every is_bounded l) f))
      (true_T (is_bounded z) (and_left (is_bounded z) (every is_bounded l) g)))
      (keeps l (and_right (is_bounded z) (every is_bounded l) g))

-- what the passes over the vertices show
pub tested_small : (vs : List Float) (n : ℕ) (r : Bool) → 3 * n ≤ length vs → r ≡ every is_bounded (take (3 * n) vs) → r ≡ true → Tested vs n true
tested_small vs n r l e t = record {
  vertices = record { within = l; finite = every_finite (take (3 * n) vs) (sym e ∙ t) };
  bounded = λ u. sym e ∙ t;
}

pub tested_finite : (vs : List Float) (n : ℕ) → FiniteVertices vs n → Tested vs n false
tested_finite vs n h = record { vertices = h; bounded = λ u. absurd (false≢true u) }
