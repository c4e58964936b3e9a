-- What a call of `from_soup` promises: its outcome, the box of the vertices that it leaves, and of an accepted soup a proper mesh. Assumes nothing.
use Rattle.std.specs.Prelude.{◌≡◌, Result, List, ℕ, Float}
use Rattle.std.proofs.Common.{sym, subst, ◌∙◌}
use Rattle.refusal.specs.declared.Refusal.{Refusal}
use Rattle.refusal.specs.Answer.{Accepted, answer_of}
use Rattle.mesh_spec.specs.Mesh.{from_soup}
use Rattle.mesh_spec.specs.Measures.{bounding_box}
use Rattle.mesh_spec.specs.Closed.{Proper}
use Rattle.mesh_spec.proofs.WeldedLaws.{from_soup_proper}
use Rattle.mesh_check.specs.declared.TriMesh.{TriMesh}
use Rattle.mesh_check.specs.State.{State, state, mesh_of}
use Rattle.mesh_made.specs.Made.{Lent, record_made, GivesMade}
use Rattle.mesh_made.specs.MadeLaws.{left_as, left_bounds}
use Rattle.mesh_made.proofs.MadeLawsHeld.{made_bounds, made_holds}
use Rattle.weld_from_soup.specs.Soups.{soup_of, soup_refusal, from_soup_of}

-- the answer r and the slices' final lists of a call with the soup l and slices of the lengths n
pub record SoupPromise (l : List Float) (n : Lent) (r : Result TriMesh Refusal) (vs : List Float) (ts ws : List ℕ) : Type 0 where
  -- they are those of the outcome
  pub outcome : GivesMade (from_soup_of l n) r vs ts ws
  -- accepted or refused, the record's box is `bounding_box` of the counted vertices, bit for bit
  pub bounds : (record_made r).bounds ≡ bounding_box (mesh_of (state (record_made r) vs ts))
  -- of an accepted soup, each triangle of the mesh names three different vertices, all of them there
  pub proper : answer_of r ≡ Accepted → Proper (mesh_of (state (record_made r) vs ts))

-- the outcome has it
pub soup_promised : (l : List Float) (n : Lent) (r : Result TriMesh Refusal) (vs : List Float) (ts ws : List ℕ)
    → GivesMade (from_soup_of l n) r vs ts ws → SoupPromise l n r vs ts ws
soup_promised l n r vs ts ws g = record {
  outcome = g;
  bounds = left_bounds boxed g;
  proper = λ a. subst (λ (x : State). Proper (mesh_of x)) (left_as g) (subst Proper (sym (holds (sym g.refusal ∙ a))) (from_soup_proper (soup_of l)));
}
  where
    boxed : (from_soup_of l n).state.mesh.bounds ≡ bounding_box (mesh_of (from_soup_of l n).state)
    boxed = unfold from_soup_of in made_bounds (soup_refusal l n) (from_soup (soup_of l)) n

    holds : (from_soup_of l n).refusal ≡ Accepted → mesh_of (from_soup_of l n).state ≡ from_soup (soup_of l)
    holds = unfold from_soup_of in made_holds (soup_refusal l n) (from_soup (soup_of l)) n
