-- Which refusal `transform` answers, by the tests in their order, and vertices in a small box. Assumes nothing.
use mathlib.Core.Path.{◌≡◌, refl, sym, ap, ◌∙◌}
use mathlib.Core.Bool.{Bool, true, false, not, ◌&&◌, ◌||◌, cond}
use mathlib.Core.List.{List, map, ◌++◌}
use Prim.Native.Nat.{ℕ, ◌*◌}
use lib.ListN.{take, get_or}
use lib.Seq.{length-take-le}
use lib.Dec.{T, eqb}
use lib.Ieee.{nan, binary64, fits}
use Rattle.math.specs.declared.Vec3.{Vec3}
use Rattle.math.specs.declared.BoundingBox.{BoundingBox}
use Rattle.math.specs.Vec.{v_finite}
use Rattle.math_matrix.specs.declared.Mat4.{Mat4}
use Rattle.math_matrix.specs.Mat.{transform_point}
use Rattle.transform.specs.declared.TransformOp.{TransformOp}
use Rattle.transform.specs.Ops.{folded}
use Rattle.transform.specs.Checks.{too_many_ops, ops_finite, ops_angles_within}
use Rattle.mesh_spec.specs.Slices.{coords, points}
use Rattle.mesh_spec.specs.Measures.{box_of}
use Rattle.mesh_box.specs.declared.FiniteBox.{FiniteBox}
use Rattle.mesh_box.specs.FiniteBox.{finite_box}
use Rattle.mesh_box_law.specs.Boxes.{take_fit, box_bounded}
use Rattle.refusal.specs.Answer.{Answer, Accepted, NotFinite, AngleTooLarge, BadList, PointNotFinite, BadMesh}
use Rattle.slice.specs.Every.{every}
use Rattle.slice_bounded.specs.Bounded.{is_bounded}
use Rattle.mesh_move_affine.specs.Affine.{Tested}
use Rattle.mesh_check.specs.State.{State, mesh_of, bad_mesh, not_finite, bad_box}
use Rattle.slice_law.specs.Bools.{not_and}
use Rattle.mesh_check.proofs.Sound.{finite_vertices, tested}
use Rattle.mesh_check.proofs.Tests.{found_points, found_not_finite, transform_vertices}
use Rattle.mesh_check_transform.specs.Transform.{transformed, move_refusal, transform_refusal}

-- ---- 8, 4, 1 and 8 for the box
-- what one pass over the vertices tells
module _ (s : State) (f : FiniteBox) (e : f ≡ finite_box (take (3 * s.mesh.vertices) s.vertices)) where
  -- the test of the coordinates and of the operations' numbers
  pub finite_tests : (used : List TransformOp) {x b : Bool} → x ≡ ops_finite used → not (f.finite && x) ≡ b → (not_finite s || not (ops_finite used)) ≡ b
  finite_tests used {x} h t = (λ j. found_not_finite s f e (not f.finite) refl j || not (sym h j)) ∙ not_and f.finite x ∙ t

  -- vertices in a box within ±2^400 lie within it too
  pub small_box : ((i : ℕ) → T (fits binary64 (get_or s.vertices i nan))) → bad_mesh s ≡ false → not_finite s ≡ false
      → (small : Bool) → small ≡ every is_bounded (coords f.bounds.min ++ coords f.bounds.max) → Tested s.vertices s.mesh.vertices small
  small_box k good known small r =
      let n = s.mesh.vertices in
      let v = finite_vertices s good known in
      let box : f.bounds ≡ box_of (points (take (3 * n) s.vertices)) = found_points s f e in
      tested s good known small
      (λ t. box_bounded n (take (3 * n) s.vertices) (length-take-le (3 * n) s.vertices v.within) (take_fit (3 * n) s.vertices k) v.finite
      (sym (ap {B = Bool} (λ (b : BoundingBox). every is_bounded (coords b.min ++ coords b.max)) box) ∙ sym r ∙ t))

module _ (ops : List TransformOp) (count : ℕ) (degrees : Bool) (s : State) where
  abbrev used : List TransformOp
  used = take count ops

  pub transform_bad : bad_mesh s ≡ true → BadMesh ≡ transform_refusal ops count degrees s
  unfolding transform_refusal
  transform_bad e = rw e

  module _ (good : bad_mesh s ≡ false) where
    pub transform_long : too_many_ops count ≡ true → BadList ≡ transform_refusal ops count degrees s
    unfolding transform_refusal
    transform_long e = rw (good, e)

    module _ (short : too_many_ops count ≡ false) where
      pub transform_not_finite : (not_finite s || not (ops_finite used)) ≡ true → NotFinite ≡ transform_refusal ops count degrees s
      unfolding transform_refusal
      transform_not_finite e = rw (good, short, e)

      module _ (known : (not_finite s || not (ops_finite used)) ≡ false) where
        pub transform_bad_box : bad_box s ≡ true → BadMesh ≡ transform_refusal ops count degrees s
        unfolding transform_refusal
        transform_bad_box e = rw (good, short, known, e)

        -- after these tests, the rest
        pub transform_rest : bad_box s ≡ false → (r : Answer) → r ≡ move_refusal ops count degrees (points (take (3 * s.mesh.vertices) s.vertices))
            → r ≡ transform_refusal ops count degrees s
        unfolding transform_refusal move_refusal mesh_of transformed
        transform_rest right r e = rw (good, short, known, right, transform_vertices (folded degrees used) (mesh_of s)) e

-- ---- the end of a transform's refusals
module _ (ops : List TransformOp) (count : ℕ) (degrees : Bool) (ps : List Vec3) where
  pub move_angle : ops_angles_within degrees (take count ops) ≡ false → AngleTooLarge ≡ move_refusal ops count degrees ps
  unfolding move_refusal
  move_angle e = rw e

  module _ (within : ops_angles_within degrees (take count ops) ≡ true) where
    pub move_none : eqb count 0 ≡ true → Accepted ≡ move_refusal ops count degrees ps
    unfolding move_refusal
    move_none e = rw (within, e)

    pub move_points : eqb count 0 ≡ false → (a : Mat4) (r b : Bool) → a ≡ folded degrees (take count ops) → r ≡ every v_finite (map (transform_point a) ps) → r ≡ b
        → cond b Accepted PointNotFinite ≡ move_refusal ops count degrees ps
    unfolding move_refusal
    move_points e a r b f t h =
        let q : every v_finite (map (transform_point (folded degrees (take count ops))) ps) ≡ b = sym (ap {B = Bool} (λ (m : Mat4). every v_finite (map (transform_point m) ps)) f) ∙ sym t ∙ h in
        rw (within, e, q)
