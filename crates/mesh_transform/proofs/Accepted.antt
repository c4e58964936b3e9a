-- What an accepted transform may rely on. Assumes nothing.
use mathlib.Core.Path.{◌≡◌, refl, sym, ap, ◌∙◌}
use mathlib.Core.Bool.{Bool, true, false, not, ◌||◌, cond, false≢true}
use mathlib.Core.List.{List}
use Prim.Native.Nat.{ℕ}
use lib.ListN.{take}
use lib.Dec.{eqb}
use Rattle.math.specs.Vec.{v_finite}
use Rattle.transform.specs.declared.TransformOp.{TransformOp}
use Rattle.transform.specs.Checks.{too_many_ops, ops_finite, ops_angles_within}
use Rattle.refusal.specs.Answer.{Answer, Accepted, NotFinite, AngleTooLarge, BadList, PointNotFinite, BadMesh}
use Rattle.slice.specs.Every.{every}
use Rattle.refusal.specs.Accepted.{is_accepted}
use Rattle.mesh_check.specs.State.{State, mesh_of, bad_mesh, not_finite, bad_box, Sound}
use Rattle.mesh_move_affine.specs.Affine.{FiniteVertices}
use Rattle.mesh_check_transform.specs.Transform.{transformed, transform_refusal}
use Rattle.slice_law.specs.Bools.{neither}
use Rattle.mesh_check.proofs.Sound.{not_bad, sound, finite_vertices}

third : (a b c : Bool) (q : Answer) → is_accepted (cond a BadMesh (cond b BadList (cond c NotFinite q))) ≡ true → c ≡ false
third true b c q e = absurd (false≢true e)
third false true c q e = absurd (false≢true e)
third false false true q e = absurd (false≢true e)
third false false false q e = refl

module _ (s : State) where
  -- what a transform tests after 8, 4 and 1: the box, 2 and 5
  abbrev after : List TransformOp → ℕ → Bool → Answer
  after ops count degrees =
      cond (bad_box s) BadMesh
      (cond (not (ops_angles_within degrees (take count ops))) AngleTooLarge
      (cond (eqb count 0) Accepted
      (cond (every v_finite (transformed ops count degrees (mesh_of s)).vertices) Accepted PointNotFinite)))

  module _ (ops : List TransformOp) (count : ℕ) (degrees : Bool) (r : Answer) (e : r ≡ transform_refusal ops count degrees s) (h : is_accepted r ≡ true) where
    abbrev bad_op : Bool
    bad_op = not (ops_finite (take count ops))

    transform_good : bad_mesh s ≡ false
    unfolding transform_refusal
    transform_good =
        not_bad (bad_mesh s) (cond (too_many_ops count) BadList (cond (not_finite s || bad_op) NotFinite (after ops count degrees))) (sym (ap {B = Bool} is_accepted e) ∙ h)

    pub transform_sound : Sound s
    transform_sound = sound s transform_good

    pub transform_finite : FiniteVertices s.vertices s.mesh.vertices
    unfolding transform_refusal
    transform_finite =
        let n = third (bad_mesh s) (too_many_ops count) (not_finite s || bad_op) (after ops count degrees) (sym (ap {B = Bool} is_accepted e) ∙ h) in
        finite_vertices s transform_good (neither (not_finite s) bad_op n).0
