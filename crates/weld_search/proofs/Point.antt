-- What welding one point does to the mesh that the slices hold. Assumes nothing.
use mathlib.Core.Path.{◌≡◌, refl, sym, ap, ◌∙◌, subst}
use mathlib.Core.Bool.{Bool, true, false, cond}
use mathlib.Core.List.{List, [], ◌∷◌, ◌++◌, map, append_assoc}
use mathlib.Core.Logic.{⊎_elim, inl, inr}
use Prim.Native.Nat.{ℕ, ◌+◌, ◌-◌, ◌*◌, ◌≤◌, ◌<◌, ◌^◌}
use native.Mathlib.Nat.{eq-or-lt_of_le, add-sub_cancel}
use native.Mathlib.Omega.{arith}
use lib.ListN.{length, get_or, take, length-set, length-append, length-map}
use lib.Seq.{get_or-append-add}
use lib.Ieee.{Float}
use Rattle.math.specs.declared.Vec3.{Vec3}
use Rattle.mesh_balance_spec.specs.Soup.{Tri, map_tri}
use Rattle.mesh_spec.specs.Mesh.{Mesh, same_point, first_sight, append}
use Rattle.mesh_spec.specs.Slices.{flat_v, vertex_at}
use Rattle.mesh_spec.specs.SliceLaws.{flatV_append}
use Rattle.mesh_spec.specs.WeldLaws.{with_seen, with_new, with_longer}
use Rattle.mesh_spec.proofs.WeldLawsHeld.{sight_at, sight_none}
use Rattle.std.specs.Prelude.{None}
use Rattle.weld_order.specs.declared.Row.{Row}
use Rattle.weld.specs.declared.Welder.{Welder}
use Rattle.weld.specs.declared.Welding.{Welding}
use Rattle.weld.specs.Welding.{same_refl, same_then}
use Rattle.weld_vertex.specs.Points.{Clean}
use Rattle.mesh_triples.specs.Triples.{put_vertex}
use Rattle.weld_bucket.specs.Bucket.{bucket_of}
use Rattle.weld_hash.specs.Hash.{Chained, linked_in, FirstAt, Sought}
use Rattle.weld_order.specs.Rows.{among}
use Rattle.weld.specs.Rep.{Held, held, InRow, indexed, Linked, Holds, Over, Rep}
use Rattle.weld.specs.States.{shut, more_at, no_row, settled, Fresh}
use Rattle.weld_search.specs.Search.{with_vertex, PointRuns, PointSlices, WeldsPoint}
use Rattle.weld.proofs.Places.{take_three, take_vertex, flatV_at, places_limit, places_long}
use Rattle.weld_vertex.proofs.Clean.{clean_self}
use Rattle.weld_vertex.proofs.Places.{put_at, put_before}
use Rattle.weld_hash.proofs.Chains.{first_stays, first_new, distinct_more, chained_still, chained_more}
use Rattle.slice_law.specs.Bools.{not_both}

-- ---- a look-up in the slice is a look-up in the part
module _ (us ws : List Vec3) (vs : List Float) (count : ℕ) (front : flat_v (us ++ ws) ≡ take (3 * count) vs) (long : length (us ++ ws) ≡ count) (p : Vec3) where
  part_at : (k : ℕ) → k < length ws → vertex_at vs (length us + k) ≡ get_or ws k p
  part_at k l =
      let n : length us + k < length (us ++ ws) = omega (arith, length-append us ws) in
      sym (take_vertex vs count (length us + k) (omega arith))
      ∙ ap (λ (r : List Float). vertex_at r (length us + k)) (sym front)
      ∙ flatV_at (us ++ ws) (length us + k) p n
      ∙ get_or-append-add us ws k p

  same_at : (k : ℕ) → k < length ws → same_point (vertex_at vs (length us + k)) p ≡ same_point (get_or ws k p) p
  same_at k l = ap (λ (v : Vec3). same_point v p) (part_at k l)

  part_first : (m : ℕ) → FirstAt vs (length us) count p m → m ≡ first_sight ws p + length us
  part_first m F =
      let k : ℕ = m - length us in
      let e : m ≡ length us + k = omega (arith, F.low) in
      let l : k < length ws = omega (arith, F.high, length-append us ws) in
      let s : first_sight ws p ≡ k =
      sight_at p p ws k l
      (sym (same_at k l) ∙ ap (λ (n : ℕ). same_point (vertex_at vs n) p) (sym e) ∙ F.equal)
      (λ j r t. F.first (length us + j) (omega arith) (omega arith) (same_at j (omega arith) ∙ t)) in
      omega arith

  part_none : Sought vs (length us) count p None → first_sight ws p ≡ length ws
  part_none f = sight_none p p ws (λ m l s. f (length us + m) (omega arith) (omega (arith, length-append us ws)) (same_at m l ∙ s))

-- ---- meshes that grow
pub over_grows : (D S S' : Mesh) (h : Held) → length S.vertices ≤ length S'.vertices → length S.triangles ≤ length S'.triangles → Over (append D S) h → Over (append D S') h
unfolding append
over_grows D S S' h a b (inl w) = inl (omega (arith, length-append D.vertices S.vertices, length-append D.vertices S'.vertices))
over_grows D S S' h a b (inr w) =
    let f : Tri ℕ → Tri ℕ = map_tri (λ (i : ℕ). i + length D.vertices) in
    inr (omega (arith, length-append D.triangles (map f S.triangles), length-append D.triangles (map f S'.triangles), length-map S.triangles f, length-map S'.triangles f))

-- after "no room" nothing is written, and the mesh still does not fit
pub rep_shut : (D S S' : Mesh) (h : Held) → h.st.room ≡ false → length S.vertices ≤ length S'.vertices → length S.triangles ≤ length S'.triangles → Rep D S h → Rep D S' h
rep_shut D S S' h f a b R =
    record {
      base = R.base;
      holds = λ e. absurd (not_both h.st.room e f);
      over = λ e. over_grows D S S' h a b (R.over e);
    }

-- the mesh with p as its last vertex
abbrev more_vertex : Mesh → Vec3 → Mesh
more_vertex M p = record { vertices = M.vertices ++ (p ∷ []); triangles = M.triangles }

grown : (D S : Mesh) (p : Vec3) → first_sight S.vertices p ≡ length S.vertices → append D (with_vertex S p) ≡ more_vertex (append D S) p
unfolding append
grown D S p e =
    λ i. record {
      vertices = (ap (λ (l : List Vec3). D.vertices ++ l) (with_new S.vertices p e) ∙ sym (append_assoc D.vertices S.vertices (p ∷ []))) i;
      triangles = (append D S).triangles;
    }

pub three_more : (n : ℕ) → 3 * (n + 1) ≡ 3 * n + 3
three_more n = omega arith

-- ---- buckets that are worked out beforehand
pub few_places : {w : Welder} {vs : List Float} {ws : List ℕ} → Linked w vs ws → w.places < 2 ^ 32
few_places {w} {vs} {ws} L = omega (arith, places_limit vs, L.places)

-- the places stay as many as the slice of vertices has
pub places_stay : {w r : Welder} {vs vs' : List Float} {ws ws' : List ℕ} → Linked w vs ws → Linked r vs' ws' → length vs' ≡ length vs → r.places ≡ w.places
places_stay {vs} {vs'} L M e = M.places ∙ places_long vs' vs e ∙ sym L.places

-- ---- the cases of `weld_point`
module _ (w : Welder) (vs : List Float) (ws : List ℕ) (L : Linked w vs ws) (p : Vec3) where
  abbrev here : List ℕ → Held
  here ts = held w vs ts ws

  seen : (D S : Mesh) (ts : List ℕ) (m : ℕ) → w.room ≡ true → FirstAt vs w.base w.count p m → Rep D S (here ts) → m ≡ first_sight S.vertices p + length D.vertices
  unfolding append
  seen D S ts m e F R =
      part_first D.vertices S.vertices vs w.count (R.holds e).vertices (R.holds e).count p m
      (subst (λ (n : ℕ). FirstAt vs n w.count p m) (R.base e) F)

  unseen : (D S : Mesh) (ts : List ℕ) → w.room ≡ true → Sought vs w.base w.count p None → Rep D S (here ts) → first_sight S.vertices p ≡ length S.vertices
  unfolding append
  unseen D S ts e F R =
      part_none D.vertices S.vertices vs w.count (R.holds e).vertices (R.holds e).count p
      (subst (λ (n : ℕ). Sought vs n w.count p None) (R.base e) F)

  long : (D S : Mesh) (ts : List ℕ) → w.room ≡ true → Rep D S (here ts) → length D.vertices + length S.vertices ≡ w.count
  unfolding append
  long D S ts e R = sym (length-append D.vertices S.vertices) ∙ (R.holds e).count

  pub point_shut : w.room ≡ false → PointRuns p w vs ws 0 w vs ws
  point_shut f =
      record {
        linked = L;
        faces = refl;
        finite = refl;
        sticky = λ q. q;
        small = omega arith;
        rep = λ D S ts R. rep_shut D S (with_vertex S p) (here ts) f (with_longer S.vertices p) (omega arith) R;
        number = λ D S ts R q. absurd (not_both w.room q f);
        here = λ q. absurd (not_both w.room q f);
        stays = λ q. absurd (not_both w.room q f);
      }

  pub point_at : (m : ℕ) → w.room ≡ true → FirstAt vs w.base w.count p m → PointRuns p w vs ws m w vs ws
  point_at m e F =
      record {
        linked = L;
        faces = refl;
        finite = refl;
        sticky = λ q. q;
        small = omega (arith, F.high, L.places, places_limit vs, L.distinct.fits);
        rep = λ D S ts R. subst (λ (us : List Vec3). Rep D (record { vertices = us; triangles = S.triangles }) (here ts)) (sym (with_seen S.vertices p (omega
            (arith, F.high, seen D S ts m e F R, long D S ts e R)))) R;
        number = λ D S ts R q. seen D S ts m e F R;
        here = λ q. F;
        stays = λ q x n G. G;
      }

  pub point_full : w.room ≡ true → Sought vs w.base w.count p None → w.places ≤ w.count → PointRuns p w vs ws 0 (shut w) vs ws
  point_full e F k =
      record {
        linked = record { distinct = L.distinct; chained = L.chained; places = L.places; rows = L.rows };
        faces = refl;
        finite = refl;
        sticky = λ q. e;
        small = omega arith;
        rep = λ D S ts R. record {
          base = λ q. absurd (not_both false q refl);
          holds = λ q. absurd (not_both false q refl);
          over = λ q. subst (λ (M : Mesh). Over M (here ts)) (sym (grown D S p (unseen D S ts e F R)))
              (inl (omega (arith, length-append (append D S).vertices (p ∷ []), (R.holds e).count, L.places)));
        };
        number = λ D S ts R q. absurd (not_both false q refl);
        here = λ q. absurd (not_both false q refl);
        stays = λ q. absurd (not_both false q refl);
      }

  abbrev vs₁ : List Float
  vs₁ = put_vertex vs w.count p

  -- the state after p became a vertex
  module _ (f : Row) (o : Bool) (W : o ≡ true → InRow w.base w.count vs p f) where
    held_more : (M : Mesh) (ts ws' : List ℕ) → w.count < w.places → Holds M (here ts) → Holds (more_vertex M p) (held (more_at w f o) vs₁ ts ws')
    held_more M ts ws' k H =
        record {
          vertices =
              flatV_append M.vertices (p ∷ [])
              ∙ ap (λ (l : List Float). l ++ (p.x ∷ p.y ∷ p.z ∷ [])) H.vertices
              ∙ sym (ap (λ (n : ℕ). take n vs₁) (three_more w.count) ∙ take_three vs (3 * w.count) p.x p.y p.z (omega (arith, L.distinct.room)));
          count = length-append M.vertices (p ∷ []) ∙ ap (λ (n : ℕ). n + 1) H.count;
          triangles = H.triangles;
          faces = H.faces;
        }

    rows_more : w.count < w.places → o ≡ true → (m : ℕ) → w.base ≤ m → m < w.count + 1 → among f (vertex_at vs₁ (w.count + 1 - 1)) (vertex_at vs₁ m) ≡ true
    rows_more k q m a l =
        ap (λ (v : Vec3). among f v (vertex_at vs₁ m)) (ap (vertex_at vs₁) (add-sub_cancel w.count 1) ∙ last)
        ∙ ⊎_elim
        (λ e. ap (λ (n : ℕ). among f p (vertex_at vs₁ n)) e ∙ ap (among f p) last ∙ (W q).has)
        (λ j. ap (among f p) (put_before vs w.count p m j) ∙ (W q).keeps m a j)
        (eq-or-lt_of_le {n = m} {m = w.count} (omega arith))
      where
        last : vertex_at vs₁ w.count ≡ p
        last = put_at vs w.count p (omega (arith, L.distinct.room))

    -- p became a vertex, and the chains are ws' now
    grown_runs : (ws' : List ℕ) → Clean p → Chained vs₁ ws' w.places w.base (indexed (more_at w f o)) → w.room ≡ true → Sought vs w.base w.count p None → w.count < w.places
        → PointRuns p w vs ws w.count (more_at w f o) vs₁ ws'
    grown_runs ws' cp C e F k =
        record {
          linked = record {
            distinct = distinct_more vs w.places w.base w.count L.distinct p k cp F;
            chained = C;
            places = L.places ∙ places_long vs vs₁ (sym (simp length-set));
            rows = rows_more k;
          };
          faces = refl;
          finite = refl;
          sticky = λ q. q;
          small = omega (arith, L.places, places_limit vs);
          rep = λ D S ts R. record {
            base = R.base;
            holds = λ q. subst (λ (M : Mesh). Holds M (held (more_at w f o) vs₁ ts ws')) (sym (grown D S p (unseen D S ts e F R)))
                (held_more (append D S) ts ws' k (R.holds q));
            over = λ q. absurd (not_both w.room e q);
          };
          number = λ D S ts R q. omega (arith, unseen D S ts e F R, long D S ts e R);
          here = λ q. first_new vs w.base w.count p L.distinct.based (omega (arith, L.distinct.room)) (clean_self p cp) F;
          stays = λ q x n G. first_stays vs w.base w.count p x n G;
        }

  -- the rows showed that p is new: the chains stay
  pub point_fresh : (f : Row) → Fresh w vs p f → Clean p → w.room ≡ true → w.count < w.places → PointRuns p w vs ws w.count (more_at w f true) vs₁ ws
  point_fresh f W cp r k =
      grown_runs f true (λ _. W.row) ws cp
      (chained_still vs w.places w.base w.count L.distinct p k ws w.base L.distinct.based (subst (Chained vs ws w.places w.base) W.loose L.chained))
      r W.missing k

  -- a search showed it: p goes into its chain
  pub point_new : w.ordered ≡ false → Clean p → (b : ℕ) → b ≡ bucket_of w.places p → b < w.places → w.room ≡ true
      → Sought vs w.base w.count p None → w.count < w.places
      → PointRuns p w vs ws w.count (more_at w no_row false) vs₁ (linked_in ws w.places w.count b)
  point_new o cp b eb bl r F k =
      grown_runs no_row false (λ q. absurd (not_both false q refl)) (linked_in ws w.places w.count b) cp
      (chained_more vs ws w.places w.base w.count L.distinct
      (subst (Chained vs ws w.places w.base) (ap (λ (t : Bool). cond t w.base w.count) o) L.chained) p k b eb bl)
      r F k

-- a point that was seen, or any after there was no room
pub point_known : (w : Welder) (vs : List Float) (ws : List ℕ) (p : Vec3) (m : ℕ) → Linked w vs ws → m < 2 ^ 32 → (w.room ≡ true → FirstAt vs w.base w.count p m)
    → PointRuns p w vs ws m w vs ws
point_known w vs ws p m L l F = go w.room refl
  where
    go : (b : Bool) → w.room ≡ b → PointRuns p w vs ws m w vs ws
    go true e = point_at w vs ws L p m e (F e)
    go false e =
        let P = point_shut w vs ws L p e in
        record {
          linked = P.linked;
          faces = P.faces;
          finite = P.finite;
          sticky = P.sticky;
          small = l;
          rep = P.rep;
          number = λ D S ts R q. absurd (not_both w.room q e);
          here = λ q. absurd (not_both w.room q e);
          stays = λ q. absurd (not_both w.room q e);
        }

-- ---- the vertices of this part go into the chains
rep_settled : (w : Welder) (vs : List Float) (ts ws ws' : List ℕ) (D S : Mesh) → Rep D S (held w vs ts ws) → Rep D S (held (settled w) vs ts ws')
rep_settled w vs ts ws ws' D S R =
    record {
      base = R.base;
      holds = λ q. let H = R.holds q in record { vertices = H.vertices; count = H.count; triangles = H.triangles; faces = H.faces };
      over = R.over;
    }

-- what is done to the settled state is done to the state before
pub point_settled : (w : Welder) (vs : List Float) (ws ws' : List ℕ) (p : Vec3) (n : ℕ) (r : Welder) (vs₂ : List Float) (ws₂ : List ℕ) → PointRuns p (settled w) vs ws' n r vs₂ ws₂ → PointRuns p w vs ws n r vs₂ ws₂
point_settled w vs ws ws' p n r vs₂ ws₂ P =
    record {
      linked = P.linked;
      faces = P.faces;
      finite = P.finite;
      sticky = P.sticky;
      small = P.small;
      rep = λ D S ts R. P.rep D S ts (rep_settled w vs ts ws ws' D S R);
      number = λ D S ts R. P.number D S ts (rep_settled w vs ts ws ws' D S R);
      here = P.here;
      stays = P.stays;
    }

pub linked_settled : (w : Welder) (vs : List Float) (ws ws' : List ℕ) → Linked w vs ws → Chained vs ws' w.places w.base w.count → Linked (settled w) vs ws'
linked_settled w vs ws ws' L C = record { distinct = L.distinct; chained = C; places = L.places; rows = λ q. absurd (not_both false q refl) }

-- ---- the slices of a mesh while it is welded
pub slices_kept : (w : Welding) → PointSlices w w
slices_kept w = record { same = same_refl w; triangles = refl; vlong = refl; wlong = refl }

pub slices_then : {w m r : Welding} → PointSlices w m → PointSlices m r → PointSlices w r
slices_then a b = record { same = same_then a.same b.same; triangles = b.triangles ∙ a.triangles; vlong = b.vlong ∙ a.vlong; wlong = b.wlong ∙ a.wlong }

-- nothing was done
pub point_stays : (w : Welding) (p : Vec3) (n : ℕ) → PointRuns p w.st w.vertices.now w.work.now n w.st w.vertices.now w.work.now → WeldsPoint p w w n
point_stays w p n P = record { slices = slices_kept w; runs = P }
