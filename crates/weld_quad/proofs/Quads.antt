-- What welding the two triangles of a quad does to the mesh that the slices hold, and which vertices its points are. Assumes nothing.
use mathlib.Core.Path.{◌≡◌, refl, sym, ◌∙◌, subst}
use mathlib.Core.Bool.{Bool, true, false, ◌&&◌}
use mathlib.Core.List.{List, [], ◌∷◌}
use mathlib.Core.Logic.{◌⊎◌, inl, inr}
use Prim.Native.Nat.{ℕ, ◌≤◌, ◌<◌, ◌^◌}
use native.Mathlib.Omega.{arith}
use lib.Dec.{T}
use lib.ListN.{length}
use lib.Ieee.{Float, fits, binary64}
use Rattle.math.specs.declared.Vec3.{Vec3}
use Rattle.mesh_balance_spec.specs.Soup.{Tri}
use Rattle.mesh_balance_spec.specs.Grid.{quad}
use Rattle.math.specs.Vec.{v_finite}
use Rattle.mesh_spec.specs.Mesh.{Mesh, same_point, plus_zero_v, weld_triangle, weld_soup, every_finite}
use Rattle.mesh_spec.specs.Slices.{vertex_at}
use Rattle.weld_vertex.specs.Points.{Clean}
use Rattle.weld_vertex.proofs.Clean.{clean_self, equal_clean}
use Rattle.weld_hash.specs.Hash.{Distinct, FirstAt}
use Rattle.slice_law.specs.Bools.{not_both}
use Rattle.weld_hash.proofs.Chains.{first_at}
use Rattle.weld.specs.declared.Welder.{Welder}
use Rattle.weld.specs.declared.Welding.{Welding}
use Rattle.weld.specs.declared.Four.{Four}
use Rattle.weld.specs.declared.FourNumbers.{FourNumbers}
use Rattle.weld.specs.Welding.{same_refl, same_then, held_by}
use Rattle.weld.specs.Rep.{Held, held, Linked, Ready, Rep, Runs}
use Rattle.weld.specs.States.{unfinite}
use Rattle.weld_search.specs.Search.{WeldsPoint}
use Rattle.weld_triangle.specs.Steps.{weld_points, PointsRun, WeldsNumbers}
use Rattle.weld.proofs.Places.{places_limit}
use Rattle.weld_search.proofs.Point.{point_known, slices_kept}
use Rattle.weld_triangle.proofs.Triangle.{and_false, linked_after, points_run}
use Rattle.weld_quad.specs.Quads.{Given, Known, Numbered, WeldsQuad, QuadRuns, CornersRun, WeldsCorners, LastRuns}

-- ---- the triangles a, b, c and a, c, d
pub quad_points : (p : Four) (h m k : Held) → PointsRun p.a p.b p.c h m → PointsRun p.a p.c p.d m k → QuadRuns p h k
quad_points p h m k P Q =
    record {
      ready = Q.ready;
      vlong = Q.vlong ∙ P.vlong;
      tlong = Q.tlong ∙ P.tlong;
      wlong = Q.wlong ∙ P.wlong;
      finite = Q.finite ∙ P.finite;
      rep = λ D S R. Q.rep D (weld_points S p.a p.b p.c) (P.rep D S R);
    }

quad_finite : (x y z w : Bool) → (x && y && z && (x && z && w && true)) ≡ (x && y && z && w)
quad_finite false y z w = refl
quad_finite true false z w = refl
quad_finite true true false w = refl
quad_finite true true true false = refl
quad_finite true true true true = refl

-- the second or the third of four is not finite
pub one_false : (x y z w : Bool) → (y ≡ false) ⊎ (z ≡ false) → (x && y && z && w) ≡ false
one_false false y z w e = refl
one_false true y z w (inl e) = rw e
one_false true false z w (inr e) = refl
one_false true true z w (inr e) = rw e

-- where a point is not finite, nothing is written
pub quad_stops : (w : Welder) (vs : List Float) (ts ws : List ℕ) (a b c d : Vec3) → Ready (held w vs ts ws) → (v_finite a && v_finite b && v_finite c && v_finite d) ≡ false
    → Runs ((a, b, c) ∷ (a, c, d) ∷ []) (held w vs ts ws) (held (unfinite w) vs ts ws)
unfolding every_finite
quad_stops w vs ts ws a b c d R n =
    record {
      ready = record { linked = record { distinct = R.linked.distinct; chained = R.linked.chained; places = R.linked.places; rows = R.linked.rows }; faces = R.faces };
      vlong = refl;
      tlong = refl;
      wlong = refl;
      finite = and_false w.finite (every_finite ((a, b, c) ∷ (a, c, d) ∷ [])) (quad_finite (v_finite a) (v_finite b) (v_finite c) (v_finite d) ∙ n);
      rep = λ e. absurd (not_both false e refl);
    }

-- ---- points whose vertices are known

-- a point that equals a vertex of this part
pub known_at : (w : Welder) (vs : List Float) (p : Vec3) (m : ℕ) → Distinct vs w.places w.base w.count → T (fits binary64 p.x) → T (fits binary64 p.y) → T (fits binary64 p.z)
    → w.base ≤ m → m < w.count → same_point (vertex_at vs m) p ≡ true → Known w vs p m
known_at w vs p m S fx fy fz l i e =
    let c : Clean (vertex_at vs m) = S.clean m i in
    let q = equal_clean (vertex_at vs m) p c fx fy fz e in
    let F : FirstAt vs w.base w.count (vertex_at vs m) m =
    first_at vs w.places w.base w.count S (vertex_at vs m) c m l i (clean_self (vertex_at vs m) c) in
    record {
      finite = λ f r. q.0;
      first = λ f r. subst (λ (v : Vec3). FirstAt vs w.base w.count v m) (sym q.1) F;
    }

-- once a point was not finite, nothing is asked
pub known_stopped : (w : Welder) (vs : List Float) (p : Vec3) (m : ℕ) → w.finite ≡ false → Known w vs p m
known_stopped w vs p m f = record { finite = λ e. absurd (not_both w.finite e f); first = λ e. absurd (not_both w.finite e f) }

-- the number of a vertex is a 32-bit number
pub known_small : (w : Welder) (vs : List Float) (ws : List ℕ) (p : Vec3) (m : ℕ) → Linked w vs ws → w.finite ≡ true → w.room ≡ true → Known w vs p m → m < 2 ^ 32
known_small w vs ws p m L f r K = omega (arith, (K.first f r).high, L.places, places_limit vs, L.distinct.fits)

pub numbered_stopped : (soup : List (Tri Vec3)) (p : Four) (h k : Held) (n : FourNumbers) → k.st.finite ≡ false → Runs soup h k → Numbered soup p h k n
numbered_stopped soup p h k n f R =
    record {
      runs = R;
      known_a = known_stopped k.st k.vertices p.a n.a f;
      known_b = known_stopped k.st k.vertices p.b n.b f;
      known_c = known_stopped k.st k.vertices p.c n.c f;
      known_d = known_stopped k.st k.vertices p.d n.d f;
    }

-- ---- all points are finite
and_true : (v x : Bool) → x ≡ true → v ≡ (v && x)
and_true true x e = sym e
and_true false x e = refl

-- q are the points p after `+ 0.0`
pub record Zeroed (p q : Four) : Type 0 where
  pub a : q.a ≡ plus_zero_v p.a
  pub b : q.b ≡ plus_zero_v p.b
  pub c : q.c ≡ plus_zero_v p.c
  pub d : q.d ≡ plus_zero_v p.d

-- all four points are finite
pub record AllFinite (p : Four) : Type 0 where
  pub a : v_finite p.a ≡ true
  pub b : v_finite p.b ≡ true
  pub c : v_finite p.c ≡ true
  pub d : v_finite p.d ≡ true

pub quad_runs : (p q : Four) (h k : Held) → AllFinite p → Zeroed p q → QuadRuns q h k → Runs (quad p.a p.b p.c p.d) h k
unfolding every_finite weld_soup weld_triangle weld_points
quad_runs p q h k F Z P =
    record {
      ready = P.ready;
      vlong = P.vlong;
      tlong = P.tlong;
      wlong = P.wlong;
      finite = P.finite ∙ and_true h.st.finite (every_finite (quad p.a p.b p.c p.d)) (quad_finite (v_finite p.a) (v_finite p.b) (v_finite p.c) (v_finite p.d) ∙ (λ i. F.a i && F.b i && F.c i && F.d i));
      rep = λ e D S Q. subst (λ (M : Mesh). Rep D M k) (λ i. weld_points (weld_points S (Z.a i) (Z.b i) (Z.c i)) (Z.a i) (Z.c i) (Z.d i)) (P.rep D S Q);
    }

known_given : (w : Welder) (vs : List Float) (p p' : Vec3) (m : ℕ) → v_finite p ≡ true → p' ≡ plus_zero_v p → Given w vs p' m → Known w vs p m
known_given w vs p p' m f e G = record { finite = λ _ _. f; first = λ _ r. subst (λ (v : Vec3). FirstAt vs w.base w.count v m) e (G r) }

pub quad_numbered : (p q : Four) (h k : Held) (n : FourNumbers) → AllFinite p → Zeroed p q → CornersRun q h k n → Numbered (quad p.a p.b p.c p.d) p h k n
quad_numbered p q h k n F Z P =
    record {
      runs = quad_runs p q h k F Z P.runs;
      known_a = known_given k.st k.vertices p.a q.a n.a F.a Z.a P.given_a;
      known_b = known_given k.st k.vertices p.b q.b n.b F.b Z.b P.given_b;
      known_c = known_given k.st k.vertices p.c q.c n.c F.c Z.c P.given_c;
      known_d = known_given k.st k.vertices p.d q.d n.d F.d Z.d P.given_d;
    }

-- ---- each point of a quad gets its number

-- what is given stays so over another point
pub given_on : {p q : Vec3} {m n : ℕ} {w r : Welding} → WeldsPoint p w r n → Given w.st w.vertices.now q m → Given r.st r.vertices.now q m
given_on {q} {m} P G e = P.runs.stays e q m (G (P.runs.sticky e))

-- and over a triangle of numbers
pub given_over : {a b c m : ℕ} {p : Vec3} {w r : Welding} → WeldsNumbers a b c w r → Given w.st w.vertices.now p m → Given r.st r.vertices.now p m
given_over T G e = rw (T.vertices, T.runs.base, T.runs.count) (G (T.runs.sticky e))

-- a point that has its number already
pub point_again : {w : Welding} (p : Vec3) (n : ℕ) → Linked w.st w.vertices.now w.work.now → n < 2 ^ 32 → Given w.st w.vertices.now p n → WeldsPoint p w w n
point_again {w} p n L l G = record { slices = slices_kept w; runs = point_known w.st w.vertices.now w.work.now p n L l G }

-- three points and a triangle, then the fourth and another triangle
pub both_runs : (p : Four) (n : FourNumbers) {w wa wb wc u wd r : Welding} → WeldsPoint p.a w wa n.a → WeldsPoint p.b wa wb n.b → WeldsPoint p.c wb wc n.c
    → WeldsNumbers n.a n.b n.c wc u → WeldsPoint p.d u wd n.d → WeldsNumbers n.a n.c n.d wd r → CornersRun p (held_by w) (held_by r) n
both_runs p n {w} {u} {r} A B C T₁ E T₂ =
    let L = linked_after T₁ C.runs.linked in
    let ga = given_over T₁ (given_on C (given_on B A.runs.here)) in
    let gb = given_over T₁ (given_on C B.runs.here) in
    let gc = given_over T₁ C.runs.here in
    record {
      runs = quad_points p (held_by w) (held_by u) (held_by r) (points_run p.a p.b p.c A B C T₁)
          (points_run p.a p.c p.d (point_again p.a n.a L A.runs.small ga) (point_again p.c n.c L C.runs.small gc) E T₂);
      given_a = given_over T₂ (given_on E ga);
      given_b = given_over T₂ (given_on E gb);
      given_c = given_over T₂ (given_on E gc);
      given_d = given_over T₂ E.runs.here;
    }

pub both_welded : (p : Four) (n : FourNumbers) {w wa wb wc u wd r : Welding} → WeldsPoint p.a w wa n.a → WeldsPoint p.b wa wb n.b → WeldsPoint p.c wb wc n.c
    → WeldsNumbers n.a n.b n.c wc u → WeldsPoint p.d u wd n.d → WeldsNumbers n.a n.c n.d wd r → WeldsCorners p w r n
both_welded p n A B C T₁ E T₂ =
    record {
      same = same_then A.slices.same (same_then B.slices.same (same_then C.slices.same (same_then T₁.same (same_then E.slices.same T₂.same))));
      corners = both_runs p n A B C T₁ E T₂;
    }

-- ---- a quad of which only c is looked up
pub last_runs : (c c' : Vec3) (na nb nd : ℕ) {w wc u r : Welding} {nc : ℕ} → Ready (held_by w) → w.st.finite ≡ true → w.st.room ≡ true → v_finite c ≡ true → c' ≡ plus_zero_v c
    → WeldsPoint c' w wc nc → WeldsNumbers na nb nc wc u → WeldsNumbers na nc nd u r → na < 2 ^ 32 → nb < 2 ^ 32 → nd < 2 ^ 32
    → LastRuns c na nb nd (held_by w) (held_by r) nc
last_runs c c' na nb nd {w} {r} {nc} R f e fc ec P T₁ T₂ sa sb sd a b d A B D =
    let p : Four = record { a = a; b = b; c = c; d = d } in
    let q : Four = record { a = plus_zero_v a; b = plus_zero_v b; c = c'; d = plus_zero_v d } in
    let n : FourNumbers = record { a = na; b = nb; c = nc; d = nd } in
    let L = linked_after T₁ P.runs.linked in
    quad_numbered p q (held_by w) (held_by r) n
    (record { a = A.finite f e; b = B.finite f e; c = fc; d = D.finite f e })
    (record { a = refl; b = refl; c = ec; d = refl })
    (both_runs q n (point_again q.a na R.linked sa (A.first f)) (point_again q.b nb R.linked sb (B.first f)) P T₁
    (point_again q.d nd L sd (given_over T₁ (given_on P (D.first f)))) T₂)

pub last_stops : (w : Welder) (vs : List Float) (ts ws : List ℕ) → Ready (held w vs ts ws) → (c : Vec3) (na nb nd nc : ℕ) → v_finite c ≡ false
    → LastRuns c na nb nd (held w vs ts ws) (held (unfinite w) vs ts ws) nc
last_stops w vs ts ws R c na nb nd nc n a b d A B D =
    numbered_stopped (quad a b c d) (record { a = a; b = b; c = c; d = d }) (held w vs ts ws) (held (unfinite w) vs ts ws) (record { a = na; b = nb; c = nc; d = nd }) refl
    (quad_stops w vs ts ws a b c d R (one_false (v_finite a) (v_finite b) (v_finite c) (v_finite d) (inr n)))
