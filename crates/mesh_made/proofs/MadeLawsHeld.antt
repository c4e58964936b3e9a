-- The record of an ending has the box of the counted vertices. Of an ending that is no refusal: nothing refused the call, and its slices hold the mesh.
-- Assumes nothing.
use Rattle.std.specs.Prelude.{◌≡◌, Bool, cond}
use Rattle.std.proofs.Math.Path.{refl, ap}
use Rattle.std.proofs.Common.{sym, ◌∙◌}
use Rattle.std.proofs.Math.Bool.{true, false}
use Rattle.math.specs.declared.BoundingBox.{BoundingBox}
use Rattle.refusal.specs.Answer.{Answer, Accepted}
use Rattle.refusal.specs.Accepted.{is_accepted}
use Rattle.refusal.specs.Laws.{accepted_is}
use Rattle.mesh_spec.specs.Mesh.{Mesh}
use Rattle.mesh_spec.specs.Measures.{bounding_box}
use Rattle.mesh_check.specs.declared.TriMesh.{TriMesh}
use Rattle.mesh_check.specs.State.{mesh_of}
use Rattle.mesh_check.specs.StateLaws.{empty_is}
use Rattle.mesh_made.specs.Made.{Lent, refused_as, accepted_as, made_as}
use Rattle.mesh_made.specs.MadeLaws.{laid, none_laid}

-- accepted or refused, the record has the box of the counted vertices
pub made_bounds : (q : Answer) (m : Mesh) (n : Lent) → (made_as q m n).state.mesh.bounds ≡ bounding_box (mesh_of (made_as q m n).state)
unfolding made_as accepted_as refused_as
made_bounds q m n = go (is_accepted q)
  where
    go : (b : Bool) → (cond b (accepted_as m n) (refused_as q n)).state.mesh.bounds ≡ bounding_box (mesh_of (cond b (accepted_as m n) (refused_as q n)).state)
    go true = sym (ap {B = BoundingBox} bounding_box (laid m n))
    go false = sym (ap {B = BoundingBox} (λ (r : TriMesh). r.bounds) empty_is) ∙ sym (ap {B = BoundingBox} bounding_box (none_laid q n))

module _ (q : Answer) (m : Mesh) (n : Lent) (accepted : (made_as q m n).refusal ≡ Accepted) where
  -- nothing refused the call
  pub made_unrefused : q ≡ Accepted
  unfolding made_as accepted_as refused_as
  made_unrefused = go (is_accepted q) refl accepted
    where
      go : (b : Bool) → is_accepted q ≡ b → (cond b (accepted_as m n) (refused_as q n)).refusal ≡ Accepted → q ≡ Accepted
      go true e h = accepted_is q e
      go false e h = h

  -- and the slices hold the mesh
  pub made_holds : mesh_of (made_as q m n).state ≡ m
  unfolding made_as
  made_holds = ap (λ (p : Answer). mesh_of (made_as p m n).state) made_unrefused ∙ laid m n
