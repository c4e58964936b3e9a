-- The laws of `Runs`, for callers that weld a soup piece by piece, and when the mesh fits. Assumes nothing.
use Rattle.std.specs.Prelude.{◌≡◌, refl, Bool, true, false, ◌&&◌, List, [], ◌∷◌, ◌++◌, ◌↔◌}
use Rattle.std.proofs.Common.{sym, ap, ◌∙◌, subst, true≢false, inl, inr, arith}
use Rattle.slice_law.specs.Bools.{and_true, and_left, and_assoc, true_unless}
use Rattle.math.specs.declared.Vec3.{Vec3}
use Rattle.mesh_balance_spec.specs.Soup.{Tri}
use Rattle.mesh_spec.specs.Mesh.{Mesh, no_mesh, append, weld_soup, from_soup, every_finite}
use Rattle.mesh_spec.specs.WeldLaws.{weld_soup_append, every_finite_append}
use Rattle.weld.specs.Rep.{Held, Ready, Holds, Over, Rep, Runs}
use Rattle.weld.specs.Parts.{Fits}

-- the empty soup
pub runs_none : (h : Held) → Ready h → Runs [] h h
unfolding weld_soup every_finite
runs_none h R = record { ready = R; vlong = refl; tlong = refl; wlong = refl; finite = sym (and_true h.st.finite); rep = λ e D S Q. Q }

-- one soup, then another
pub runs_then : (xs ys : List (Tri Vec3)) (h k l : Held) → Runs xs h k → Runs ys k l → Runs (xs ++ ys) h l
runs_then xs ys h k l X Y =
    record {
      ready = Y.ready;
      vlong = Y.vlong ∙ X.vlong;
      tlong = Y.tlong ∙ X.tlong;
      wlong = Y.wlong ∙ X.wlong;
      finite =
          Y.finite
          ∙ ap (λ (b : Bool). b && every_finite ys) X.finite
          ∙ and_assoc h.st.finite (every_finite xs) (every_finite ys)
          ∙ ap (λ (b : Bool). h.st.finite && b) (sym (every_finite_append xs ys));
      rep = λ e D S Q.
          subst (λ (M : Mesh). Rep D M l) (sym (weld_soup_append S xs ys))
          (Y.rep e D (weld_soup S xs) (X.rep (and_left k.st.finite (every_finite ys) (sym Y.finite ∙ e)) D S Q));
    }

-- one triangle, then the others
pub runs_cons : (t : Tri Vec3) (ts : List (Tri Vec3)) (h k l : Held) → Runs (t ∷ []) h k → Runs ts k l → Runs (t ∷ ts) h l
runs_cons t ts h k l X Y = runs_then (t ∷ []) ts h k l X Y

-- the same soup written in another way
pub runs_as : {xs ys : List (Tri Vec3)} {h k : Held} → xs ≡ ys → Runs xs h k → Runs ys h k
runs_as {h} {k} e R = subst (λ (s : List (Tri Vec3)). Runs s h k) e R

-- after a point that was not finite, a caller may stop: whatever soup was left counts as welded
pub runs_stopped : (soup : List (Tri Vec3)) (h : Held) → Ready h → h.st.finite ≡ false → Runs soup h h
runs_stopped soup h R f =
    record {
      ready = R;
      vlong = refl;
      tlong = refl;
      wlong = refl;
      finite = f ∙ sym (ap (λ (b : Bool). b && every_finite soup) f);
      rep = λ e D S Q. absurd (true≢false (sym e ∙ f));
    }

-- a part from its beginning: what was welded is from_soup of the part
pub runs_part : (soup : List (Tri Vec3)) (h k : Held) (D : Mesh) → Runs soup h k → k.st.finite ≡ true → Rep D no_mesh h → Rep D (from_soup soup) k
unfolding from_soup
runs_part soup h k D R e Q = R.rep e D no_mesh Q

-- `room` is exact: a mesh that the slices hold fits them, and one that is over does not
pub holds_fits : (M : Mesh) (h : Held) → Ready h → Holds M h → Fits M h
holds_fits M h R H = (omega (arith, H.count, R.linked.distinct.fits, R.linked.places), omega (arith, H.faces, R.faces))

pub over_not_fits : (M : Mesh) (h : Held) → Over M h → Fits M h → ⊥
over_not_fits M h (inl w) f = omega (arith, f.0)
over_not_fits M h (inr w) f = omega (arith, f.1)

-- there is room exactly where the mesh fits
pub room_exact : (D S : Mesh) (h : Held) → Ready h → Rep D S h → (h.st.room ≡ true) ↔ Fits (append D S) h
room_exact D S h R Q = ((λ e. holds_fits (append D S) h R (Q.holds e)), (λ f. true_unless h.st.room (λ e. over_not_fits (append D S) h (Q.over e) f)))
