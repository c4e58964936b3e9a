-- The laws of `PartsRun`, for callers that weld parts one after the other, and what is known when all parts are welded. Assumes nothing.
use Rattle.std.specs.Prelude.{◌≡◌, refl, Bool, true, ◌&&◌, List, [], ◌∷◌, ◌++◌, ℕ, Float}
use Rattle.std.proofs.Common.{sym, ap, ◌∙◌, subst}
use Rattle.mesh_spec.specs.Mesh.{Mesh, no_mesh, append, weld_soup, from_soup, every_finite, append_parts, from_parts}
use Rattle.mesh_spec.specs.WeldLaws.{append_none}
use Rattle.mesh_spec.specs.Parts.{Soup, parts_finite, parts_finite_append, append_parts_append}
use Rattle.weld.specs.declared.Welder.{Welder}
use Rattle.weld.specs.Rep.{Held, held, Ready, Holds, Over, Rep, Runs, Begun, Parted}
use Rattle.slice_law.specs.Bools.{and_true, and_left, and_assoc}
use Rattle.weld.specs.Runs.{holds_fits}
use Rattle.weld.specs.Parts.{PartsRun, AllWelded}

-- no parts
pub parts_none : (h : Held) → Ready h → PartsRun [] h h
unfolding parts_finite append_parts
parts_none h R = record { ready = R; vlong = refl; tlong = refl; wlong = refl; finite = sym (and_true h.st.finite); rep = λ e D Q. Q }

-- one soup was welded, and a new part begins
pub parts_one : (soup : Soup) (h : Held) (w r : Welder) (vs : List Float) (ts ws : List ℕ) → Runs soup h (held w vs ts ws) → Parted w r
    → PartsRun (soup ∷ []) h (held r vs ts ws)
unfolding parts_finite append_parts from_soup
parts_one soup h w r vs ts ws R P =
    record {
      ready = P.ready vs ts ws R.ready;
      vlong = R.vlong;
      tlong = R.tlong;
      wlong = R.wlong;
      finite = P.finite ∙ R.finite ∙ ap (λ (b : Bool). h.st.finite && b) (sym (and_true (every_finite soup)));
      rep = λ e D Q. P.rep D (weld_soup no_mesh soup) vs ts ws (R.rep (sym P.finite ∙ e) D no_mesh Q);
    }

-- some parts, then others
pub parts_then : (xs ys : List Soup) (h k l : Held) → PartsRun xs h k → PartsRun ys k l → PartsRun (xs ++ ys) h l
parts_then xs ys h k l X Y =
    record {
      ready = Y.ready;
      vlong = Y.vlong ∙ X.vlong;
      tlong = Y.tlong ∙ X.tlong;
      wlong = Y.wlong ∙ X.wlong;
      finite =
          Y.finite
          ∙ ap (λ (b : Bool). b && parts_finite ys) X.finite
          ∙ and_assoc h.st.finite (parts_finite xs) (parts_finite ys)
          ∙ ap (λ (b : Bool). h.st.finite && b) (sym (parts_finite_append xs ys));
      rep = λ e D Q.
          subst (λ (M : Mesh). Rep M no_mesh l) (sym (append_parts_append D xs ys))
          (Y.rep e (append_parts D xs) (X.rep (and_left k.st.finite (parts_finite ys) (sym Y.finite ∙ e)) D Q));
    }

-- the same parts written in another way
pub parts_as : {xs ys : List Soup} {h k : Held} → xs ≡ ys → PartsRun xs h k → PartsRun ys h k
parts_as {h} {k} e R = subst (λ (s : List Soup). PartsRun s h k) e R

-- all parts were welded, from an empty mesh
pub parts_welded : (parts : List Soup) (r : Welder) (vs : List Float) (ts ws : List ℕ) (k : Held) → Begun r vs ws → PartsRun parts (held r vs ts ws) k
    → AllWelded parts k
unfolding from_parts
parts_welded parts r vs ts ws k B P = record {
  finite = P.finite ∙ ap {B = Bool} (λ (b : Bool). b && parts_finite parts) B.finite;
  over = λ e f. subst (λ (m : Mesh). Over m k) whole ((rep e).over f);
  fits = λ e f. holds_fits (from_parts parts) k P.ready (holding e f);
  holds = holding;
}
  where
    whole : append (append_parts no_mesh parts) no_mesh ≡ from_parts parts
    whole = append_none (append_parts no_mesh parts)

    rep : k.st.finite ≡ true → Rep (append_parts no_mesh parts) no_mesh k
    rep e = P.rep e no_mesh (B.rep ts)

    holding : k.st.finite ≡ true → k.st.room ≡ true → Holds (from_parts parts) k
    holding e f = subst (λ (m : Mesh). Holds m k) whole ((rep e).holds f)
