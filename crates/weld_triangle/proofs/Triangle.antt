-- What offering a triangle of numbers, and welding a triangle of points, does to the mesh that the slices hold. Assumes nothing.
use mathlib.Core.Path.{◌≡◌, refl, sym, ap, ◌∙◌, subst}
use mathlib.Core.Bool.{Bool, true, false, not, ◌&&◌, cond}
use mathlib.Core.List.{List, [], ◌∷◌, ◌++◌, map, append_assoc}
use mathlib.Core.Logic.{◌⊎◌, inl, inr}
use Prim.Native.Nat.{ℕ, ◌+◌, ◌*◌, ◌≤◌, ◌<◌}
use native.Mathlib.Omega.{arith}
use borrow.Author.Tests.{eq-eqb, ne_eqb}
use lib.ListN.{length, set, take, length-set, length-append}
use lib.Dec.{eqb}
use lib.Ieee.{Float}
use Rattle.math.specs.declared.Vec3.{Vec3}
use Rattle.mesh_balance_spec.specs.Soup.{Tri, map_tri}
use Rattle.mesh_balance_spec.specs.Buffer.{flat_append}
use Rattle.math.specs.Vec.{v_finite}
use Rattle.mesh_spec.specs.Mesh.{Mesh, plus_zero_v, distinct, append, weld_triangle, weld_soup, every_finite}
use Rattle.weld.specs.declared.Welder.{Welder}
use Rattle.weld.specs.declared.Welding.{Welding}
use Rattle.weld.specs.Welding.{same_refl, same_then, held_by}
use Rattle.slice.specs.Every.{places_of}
use Rattle.weld.specs.Rep.{Held, held, row_of, Linked, Ready, Holds, Over, Rep, Runs}
use Rattle.weld.specs.States.{unfinite, shut, more_faces}
use Rattle.weld_search.specs.Search.{WeldsPoint}
use Rattle.weld_triangle.specs.Steps.{with_triangle, weld_points, TriangleRuns, PointsRun, WeldsNumbers, WeldsPoints}
use Rattle.weld.proofs.Places.{take_three, places_fit, places_long}
use Rattle.slice_law.specs.Bools.{not_both}
use Rattle.weld_search.proofs.Point.{rep_shut, three_more}

-- ---- three different numbers
module _ (t : Tri ℕ) where
  one_false : (a b c : Bool) → (a ≡ true) ⊎ ((b ≡ true) ⊎ (c ≡ true)) → (not a && not b && not c) ≡ false
  one_false true b c e = refl
  one_false false true c e = refl
  one_false false false true e = refl
  one_false false false false (inl e) = sym e
  one_false false false false (inr (inl e)) = sym e
  one_false false false false (inr (inr e)) = sym e

  not_distinct : (t.0 ≡ t.1) ⊎ ((t.1 ≡ t.2) ⊎ (t.0 ≡ t.2)) → distinct t ≡ false
  not_distinct (inl e) = one_false (eqb t.0 t.1) (eqb t.1 t.2) (eqb t.0 t.2) (inl (eq-eqb t.0 t.1 e))
  not_distinct (inr (inl e)) = one_false (eqb t.0 t.1) (eqb t.1 t.2) (eqb t.0 t.2) (inr (inl (eq-eqb t.1 t.2 e)))
  not_distinct (inr (inr e)) = one_false (eqb t.0 t.1) (eqb t.1 t.2) (eqb t.0 t.2) (inr (inr (eq-eqb t.0 t.2 e)))

  are_distinct : (t.0 ≡ t.1 → ⊥) → (t.1 ≡ t.2 → ⊥) → (t.0 ≡ t.2 → ⊥) → distinct t ≡ true
  are_distinct p q r = λ i. not (ne_eqb t.0 t.1 p i) && not (ne_eqb t.1 t.2 q i) && not (ne_eqb t.0 t.2 r i)

-- ---- meshes that grow
stay_longer : (S : Mesh) (t : Tri ℕ) (b : Bool) → length S.triangles ≤ length (cond b (S.triangles ++ (t ∷ [])) S.triangles)
stay_longer S t true = omega (arith, length-append S.triangles (t ∷ []))
stay_longer S t false = omega arith

map_snoc : (f : Tri ℕ → Tri ℕ) (ts : List (Tri ℕ)) (t : Tri ℕ) → map f (ts ++ (t ∷ [])) ≡ map f ts ++ (f t ∷ [])
map_snoc f [] t = refl
map_snoc f (x ∷ ts) t = ap {B = List (Tri ℕ)} (λ r. f x ∷ r) (map_snoc f ts t)

-- the mesh with t as its last triangle
abbrev more_triangle : Mesh → Tri ℕ → Mesh
more_triangle M t = record { vertices = M.vertices; triangles = M.triangles ++ (t ∷ []) }

kept : (S : Mesh) (t : Tri ℕ) (b : Bool) → distinct t ≡ b → with_triangle S t ≡ record { vertices = S.vertices; triangles = cond b (S.triangles ++ (t ∷ [])) S.triangles }
kept S t b e = ap (λ (u : Bool). record { vertices = S.vertices; triangles = cond u (S.triangles ++ (t ∷ [])) S.triangles }) e

grown : (D S : Mesh) (t u : Tri ℕ) → distinct t ≡ true → map_tri (λ (i : ℕ). i + length D.vertices) t ≡ u → append D (with_triangle S t) ≡ more_triangle (append D S) u
unfolding append
grown D S t u e q =
    let f : Tri ℕ → Tri ℕ = map_tri (λ (i : ℕ). i + length D.vertices) in
    ap (append D) (kept S t true e)
    ∙ (λ i. record {
      vertices = D.vertices ++ S.vertices;
      triangles = (ap (λ (l : List (Tri ℕ)). D.triangles ++ l) (map_snoc f S.triangles t)
          ∙ sym (append_assoc D.triangles (map f S.triangles) (f t ∷ []))
          ∙ ap (λ (x : Tri ℕ). (D.triangles ++ map f S.triangles) ++ (x ∷ [])) q) i;
    })

-- ---- the cases of `add_triangle`
module _ (a b c : ℕ) (w : Welder) (ts : List ℕ) (fits : w.faces ≤ places_of ts) where
  -- the numbers are those of t in the mesh
  abbrev Named : Mesh → Tri ℕ → Type 0
  Named D t = (a ≡ t.0 + length D.vertices) × (b ≡ t.1 + length D.vertices) × (c ≡ t.2 + length D.vertices)

  pub triangle_shut : w.room ≡ false → TriangleRuns a b c w ts w ts
  triangle_shut f =
      record {
        base = refl;
        count = refl;
        places = refl;
        ordered = refl;
        row = refl;
        finite = refl;
        faces = fits;
        sticky = λ q. q;
        rep = λ D S vs ws t q R. rep_shut D S (with_triangle S t) (held w vs ts ws) f (omega arith) (stay_longer S t (distinct t)) R;
      }

  flat_named : (D : Mesh) (t : Tri ℕ) → Named D t → (a ≡ b) ⊎ ((b ≡ c) ⊎ (a ≡ c)) → distinct t ≡ false
  flat_named D t n (inl e) = not_distinct t (inl (omega (arith, n.0, n.1)))
  flat_named D t n (inr (inl e)) = not_distinct t (inr (inl (omega (arith, n.1, n.2))))
  flat_named D t n (inr (inr e)) = not_distinct t (inr (inr (omega (arith, n.0, n.2))))

  pub triangle_flat : w.room ≡ true → (a ≡ b) ⊎ ((b ≡ c) ⊎ (a ≡ c)) → TriangleRuns a b c w ts w ts
  triangle_flat e d =
      record {
        base = refl;
        count = refl;
        places = refl;
        ordered = refl;
        row = refl;
        finite = refl;
        faces = fits;
        sticky = λ q. q;
        rep = λ D S vs ws t q R. subst (λ (M : Mesh). Rep D M (held w vs ts ws)) (sym (kept S t false (flat_named D t (q e) d))) R;
      }

  module _ (p : a ≡ b → ⊥) (q : b ≡ c → ⊥) (r : a ≡ c → ⊥) where
    distinct_named : (D : Mesh) (t : Tri ℕ) → Named D t → distinct t ≡ true
    distinct_named D t n = are_distinct t (λ e. p (omega (arith, n.0, n.1))) (λ e. q (omega (arith, n.1, n.2))) (λ e. r (omega (arith, n.0, n.2)))

    grows : (D S : Mesh) (t : Tri ℕ) → Named D t → append D (with_triangle S t) ≡ more_triangle (append D S) (a, b, c)
    grows D S t n = grown D S t (a, b, c) (distinct_named D t n) (sym (λ i. (n.0 i, n.1 i, n.2 i)))

    pub triangle_full : w.room ≡ true → places_of ts ≤ w.faces → TriangleRuns a b c w ts (shut w) ts
    triangle_full e l =
        record {
          base = refl;
          count = refl;
          places = refl;
          ordered = refl;
          row = refl;
          finite = refl;
          faces = fits;
          sticky = λ q. e;
          rep = λ D S vs ws t n R. record {
            base = λ f. absurd (not_both false f refl);
            holds = λ f. absurd (not_both false f refl);
            over = λ f. subst (λ (M : Mesh). Over M (held (shut w) vs ts ws)) (sym (grows D S t (n e)))
                (inr (omega (arith, length-append (append D S).triangles ((a, b, c) ∷ []), (R.holds e).faces)));
          };
        }

    abbrev ts₁ : List ℕ
    ts₁ = set (set (set ts (3 * w.faces) a) (3 * w.faces + 1) b) (3 * w.faces + 2) c

    held_more : (M : Mesh) (vs : List Float) (ws : List ℕ) → w.faces < places_of ts → Holds M (held w vs ts ws) → Holds (more_triangle M (a, b, c)) (held (more_faces w) vs ts₁ ws)
    held_more M vs ws l H =
        record {
          vertices = H.vertices;
          count = H.count;
          triangles =
              flat_append M.triangles ((a, b, c) ∷ [])
              ∙ ap (λ (x : List ℕ). x ++ (a ∷ b ∷ c ∷ [])) H.triangles
              ∙ sym (ap (λ (n : ℕ). take n ts₁) (three_more w.faces) ∙ take_three ts (3 * w.faces) a b c (omega (arith, places_fit ts)));
          faces = length-append M.triangles ((a, b, c) ∷ []) ∙ ap (λ (n : ℕ). n + 1) H.faces;
        }

    pub triangle_new : w.room ≡ true → w.faces < places_of ts → TriangleRuns a b c w ts (more_faces w) ts₁
    triangle_new e l =
        record {
          base = refl;
          count = refl;
          places = refl;
          ordered = refl;
          row = refl;
          finite = refl;
          faces = omega (arith, places_long ts ts₁ (sym (simp length-set)));
          sticky = λ q. q;
          rep = λ D S vs ws t n R. record {
            base = R.base;
            holds = λ f. subst (λ (M : Mesh). Holds M (held (more_faces w) vs ts₁ ws)) (sym (grows D S t (n e))) (held_more (append D S) vs ws l (R.holds f));
            over = λ f. absurd (not_both w.room e f);
          };
        }

-- ---- a triangle of points
pub linked_moved : {vs : List Float} {ws : List ℕ} (w r : Welder) → r.base ≡ w.base → r.count ≡ w.count → r.places ≡ w.places → r.ordered ≡ w.ordered → row_of r ≡ row_of w
    → Linked w vs ws → Linked r vs ws
linked_moved w r b c p o k L = record { distinct = rw (b, c, p) L.distinct; chained = rw (b, c, p, o) L.chained; places = p ∙ L.places; rows = rw (b, c, o, k) L.rows }

pub linked_after : {a b c : ℕ} {w r : Welding} → WeldsNumbers a b c w r → Linked w.st w.vertices.now w.work.now → Linked r.st r.vertices.now r.work.now
linked_after {w} {r} T L = rw (T.vertices, T.work) (linked_moved w.st r.st T.runs.base T.runs.count T.runs.places T.runs.ordered T.runs.row L)

pub faces_after : {p : Vec3} {n : ℕ} {w r : Welding} → WeldsPoint p w r n → w.st.faces ≤ places_of w.triangles.now → r.st.faces ≤ places_of r.triangles.now
faces_after P l = rw (P.slices.triangles, P.runs.faces) l

pub points_run : (a b c : Vec3) {w u v t r : Welding} {m n k : ℕ} → WeldsPoint a w u m → WeldsPoint b u v n → WeldsPoint c v t k → WeldsNumbers m n k t r
    → PointsRun a b c (held_by w) (held_by r)
unfolding weld_points
points_run a b c {w} {u} {v} {t} {r} {m} {n} {k} P₁ P₂ P₃ T =
    let e : t.triangles.now ≡ w.triangles.now = P₃.slices.triangles ∙ P₂.slices.triangles ∙ P₁.slices.triangles in
    let R : TriangleRuns m n k t.st w.triangles.now r.st r.triangles.now =
    subst (λ (l : List ℕ). TriangleRuns m n k t.st l r.st r.triangles.now) e T.runs in
    let ts : List ℕ = w.triangles.now in
    record {
      ready = record { linked = linked_after T P₃.runs.linked; faces = R.faces };
      vlong = ap length T.vertices ∙ P₃.slices.vlong ∙ P₂.slices.vlong ∙ P₁.slices.vlong;
      tlong = T.tlong ∙ ap length e;
      wlong = ap length T.work ∙ P₃.slices.wlong ∙ P₂.slices.wlong ∙ P₁.slices.wlong;
      finite = R.finite ∙ P₃.runs.finite ∙ P₂.runs.finite ∙ P₁.runs.finite;
      rep = λ D S Q.
          let Q₁ = P₁.runs.rep D S ts Q in
          let Q₂ = P₂.runs.rep D _ ts Q₁ in
          rw (T.vertices, T.work)
          (R.rep D _ t.vertices.now t.work.now _
          (λ q. (P₁.runs.number D S ts Q (P₂.runs.sticky (P₃.runs.sticky q)), P₂.runs.number D _ ts Q₁ (P₃.runs.sticky q), P₃.runs.number D _ ts Q₂ q))
          (P₃.runs.rep D _ ts Q₂));
    }

-- the same slices after three points and a triangle
pub points_welded : (a b c : Vec3) {w u v t r : Welding} {m n k : ℕ} → WeldsPoint a w u m → WeldsPoint b u v n → WeldsPoint c v t k → WeldsNumbers m n k t r
    → WeldsPoints a b c w r
points_welded a b c P₁ P₂ P₃ T =
    record { same = same_then P₁.slices.same (same_then P₂.slices.same (same_then P₃.slices.same T.same)); runs = points_run a b c P₁ P₂ P₃ T }

-- nothing was done
pub numbers_stay : (a b c : ℕ) (w : Welding) → TriangleRuns a b c w.st w.triangles.now w.st w.triangles.now → WeldsNumbers a b c w w
numbers_stay a b c w T = record { same = same_refl w; vertices = refl; work = refl; tlong = refl; runs = T }

-- ---- the cases of `weld_triangle::weld_triangle`
unfinished : (x y z : Bool) → (x ≡ false) ⊎ ((y ≡ false) ⊎ (z ≡ false)) → (x && y && z && true) ≡ false
unfinished x y z (inl e) = rw e
unfinished true y z (inr (inl e)) = rw e
unfinished false y z (inr (inl e)) = refl
unfinished true true z (inr (inr e)) = rw e
unfinished true false z (inr (inr e)) = refl
unfinished false y z (inr (inr e)) = refl

pub and_false : (x y : Bool) → y ≡ false → false ≡ (x && y)
and_false true y e = sym e
and_false false y e = refl

-- a point is not finite: nothing is written
pub triangle_stops : (w : Welder) (vs : List Float) (ts ws : List ℕ) (a b c : Vec3) → Ready (held w vs ts ws) → (v_finite a ≡ false) ⊎ ((v_finite b ≡ false) ⊎ (v_finite c ≡ false))
    → Runs ((a, b, c) ∷ []) (held w vs ts ws) (held (unfinite w) vs ts ws)
unfolding every_finite
triangle_stops w vs ts ws a b c R n =
    record {
      ready = record { linked = record { distinct = R.linked.distinct; chained = R.linked.chained; places = R.linked.places; rows = R.linked.rows }; faces = R.faces };
      vlong = refl;
      tlong = refl;
      wlong = refl;
      finite = and_false w.finite (every_finite ((a, b, c) ∷ [])) (unfinished (v_finite a) (v_finite b) (v_finite c) n);
      rep = λ e. absurd (not_both false e refl);
    }

all_finite : (v x y z : Bool) → x ≡ true → y ≡ true → z ≡ true → v ≡ (v && (x && y && z && true))
all_finite true x y z p q r = sym (λ i. p i && q i && r i && true)
all_finite false x y z p q r = refl

-- all points are finite
pub triangle_runs : (a b c a' b' c' : Vec3) (h k : Held) → v_finite a ≡ true → v_finite b ≡ true → v_finite c ≡ true → a' ≡ plus_zero_v a → b' ≡ plus_zero_v b → c' ≡ plus_zero_v c
    → PointsRun a' b' c' h k → Runs ((a, b, c) ∷ []) h k
unfolding every_finite weld_soup weld_triangle weld_points
triangle_runs a b c a' b' c' h k p q r ea eb ec P =
    record {
      ready = P.ready;
      vlong = P.vlong;
      tlong = P.tlong;
      wlong = P.wlong;
      finite = P.finite ∙ all_finite h.st.finite (v_finite a) (v_finite b) (v_finite c) p q r;
      rep = λ e D S Q. subst (λ (M : Mesh). Rep D M k) (λ i. weld_points S (ea i) (eb i) (ec i)) (P.rep D S Q);
    }
