-- An edit that was refused, and one that was done. Assumes nothing.
use mathlib.Core.Path.{◌≡◌, sym, ap, ◌∙◌}
use mathlib.Core.Bool.{Bool, cond}
use mathlib.Core.List.{List}
use Prim.Native.Nat.{ℕ}
use lib.Ieee.{Float}
use Rattle.std.specs.Prelude.{Result, Ok, Err, Some}
use Rattle.refusal.specs.declared.Refusal.{Refusal}
use Rattle.refusal.specs.Answer.{Answer, Accepted, answer_of}
use Rattle.refusal.specs.Number.{number_of}
use Rattle.refusal.specs.Accepted.{is_accepted}
use Rattle.refusal.specs.Laws.{refused_is}
use Rattle.mesh_check.specs.declared.TriMesh.{TriMesh}
use Rattle.mesh_check.specs.State.{State, record_after}
use Rattle.mesh_edit_law.specs.Outcome.{edited, GivesEdit}

module _ (q : Answer) (s t : State) where
  kept : (p : Refusal) → Some p ≡ q → (edited q s t).state ≡ s
  unfolding edited
  kept p e = ap {B = State} (λ (x : Answer). cond (is_accepted x) t s) (sym e) ∙ ap {B = State} (λ (b : Bool). cond b t s) (refused_is p)

  done : Accepted ≡ q → (edited q s t).state ≡ t
  unfolding edited
  done e = ap {B = State} (λ (x : Answer). cond (is_accepted x) t s) (sym e)

  pub gives_kept : (r : Result TriMesh Refusal) (p : Refusal) → r ≡ Err p → Some p ≡ q → GivesEdit (edited q s t) s.mesh r s.vertices s.triangles
  unfolding edited
  gives_kept r p h e = record {
    refusal = ap answer_of h ∙ e;
    number = ap number_of (ap answer_of h ∙ e);
    mesh = ap {B = TriMesh} (record_after s.mesh) h ∙ sym (λ j. (kept p e j).mesh);
    vertices = sym (λ j. (kept p e j).vertices);
    triangles = sym (λ j. (kept p e j).triangles);
  }

  pub gives_done : (m : TriMesh) (u : State) (vs : List Float) (ts : List ℕ) → Accepted ≡ q → t ≡ u → vs ≡ u.vertices → ts ≡ u.triangles
      → GivesEdit (edited q s t) m (Ok u.mesh) vs ts
  unfolding edited
  gives_done m u vs ts e w v x = record {
    refusal = e;
    number = ap number_of e;
    mesh = sym (λ j. ((done e ∙ w) j).mesh);
    vertices = v ∙ sym (λ j. ((done e ∙ w) j).vertices);
    triangles = x ∙ sym (λ j. ((done e ∙ w) j).triangles);
  }
