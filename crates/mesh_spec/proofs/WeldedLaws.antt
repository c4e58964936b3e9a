-- What `from_soup` gives: a proper mesh for every soup, and a closed one for a finite soup that is balanced after `+ 0.0`. Assumes nothing.
use Rattle.std.proofs.Common.{[]}
use Rattle.std.specs.Prelude.{◌≡◌, ◌⊎◌, Bool, ◌&&◌, cond, List, ◌∷◌, ◌++◌, map, ℕ, ◌≤◌, ◌<◌, length, T}
use Rattle.std.proofs.Common.{sym, ap, ◌∙◌, subst, append-nil, arith}
use Rattle.std.proofs.Math.Bool.{true, false}
use Rattle.std.specs.Float.Ieee.Fits.{and_i}
use Rattle.math.specs.declared.Vec3.{Vec3}
use Rattle.mesh_balance_spec.specs.Soup.{Tri, map_tri, Balanced}
use Rattle.mesh_balance_spec.specs.Count.{EdgesBalance, keep_if}
use Rattle.mesh_balance_spec.proofs.CountLaws.{welded_edges}
use Rattle.math.specs.Vec.{v_finite}
use Rattle.mesh_spec.specs.Mesh.{Mesh, no_mesh, plus_zero_v, same_point, first_sight, with_point, distinct, weld_triangle, weld_soup, from_soup, every_finite}
use Rattle.mesh_spec.specs.Closed.{all_of, below, Closed, Proper}
use Rattle.mesh_spec.specs.ProperLaws.{all_weaken}
use Rattle.mesh_spec.proofs.ProperLawsHeld.{all_append, there, below_more}
use Rattle.mesh_spec.specs.WeldLaws.{with_longer, with_front, sight_stays}
use Rattle.mesh_spec.proofs.WeldLawsHeld.{sight_with, sight_there}
use Rattle.mesh_spec.specs.SelfSame.{same_self}
use Rattle.mesh_spec.specs.Welded.{Front, four, front_then, not_distinct, turn}

-- ---- proper
module _ (j k : Tri ℕ → Bool) (weaker : (t : Tri ℕ) → T (j t) → T (k t)) where
  -- a test that every triangle passes is made weaker, and the triangle passes it where it is kept
  all_offered : (ts : List (Tri ℕ)) (t : Tri ℕ) (b : Bool) → T (all_of j ts) → (T b → T (k t)) → T (all_of k (cond b (ts ++ (t ∷ [])) ts))
  unfolding all_of
  all_offered ts t true s h = all_append k ts (t ∷ []) (all_weaken k j weaker ts s) (and_i (k t) true (h tt) tt)
  all_offered ts t false s h = all_weaken k j weaker ts s

triangle_proper : (S : Mesh) (t : Tri Vec3) → Proper S → Proper (weld_triangle S t)
unfolding weld_triangle
triangle_proper S t P =
    let a : Vec3 = plus_zero_v t.0 in
    let b : Vec3 = plus_zero_v t.1 in
    let c : Vec3 = plus_zero_v t.2 in
    let us : List Vec3 = S.vertices in
    let ua : List Vec3 = with_point us a in
    let ub : List Vec3 = with_point ua b in
    let uc : List Vec3 = with_point ub c in
    let ids : Tri ℕ = (first_sight us a, first_sight ua b, first_sight ub c) in
    let la : length us ≤ length ua = with_longer us a in
    let lb : length ua ≤ length ub = with_longer ua b in
    let lc : length ub ≤ length uc = with_longer ub c in
    record {
      none_twice = all_offered distinct distinct (λ x h. h) S.triangles ids (distinct ids) P.none_twice (λ h. h);
      all_there = all_offered (below (length us)) (below (length uc)) (below_more (length us) (length uc) (omega arith))
          S.triangles ids (distinct ids) P.all_there
          (λ h. there (length uc) ids (omega (arith, sight_there us a)) (omega (arith, sight_there ua b)) (sight_there ub c));
    }

soup_proper : (S : Mesh) (soup : List (Tri Vec3)) → Proper S → Proper (weld_soup S soup)
unfolding weld_soup
soup_proper S [] P = P
soup_proper S (t ∷ soup) P = soup_proper (weld_triangle S t) soup (triangle_proper S t P)

-- each triangle of a welded mesh names three different vertices, all of them there
pub from_soup_proper : (soup : List (Tri Vec3)) → Proper (from_soup soup)
unfolding from_soup all_of
from_soup_proper soup = soup_proper no_mesh soup (record { none_twice = tt; all_there = tt })

front_with : (us : List Vec3) (p : Vec3) → Front us (with_point us p)
front_with us p = let f = with_front us p in record { rest = f.0; splits = f.1 }

triangle_front : (S : Mesh) (t : Tri Vec3) → Front S.vertices (weld_triangle S t).vertices
unfolding weld_triangle
triangle_front S t =
    let ua : List Vec3 = with_point S.vertices (plus_zero_v t.0) in
    let ub : List Vec3 = with_point ua (plus_zero_v t.1) in
    front_then (front_with S.vertices (plus_zero_v t.0)) (front_then (front_with ua (plus_zero_v t.1)) (front_with ub (plus_zero_v t.2)))

soup_front : (S : Mesh) (soup : List (Tri Vec3)) → Front S.vertices (weld_soup S soup).vertices
unfolding weld_soup
soup_front S [] = record { rest = []; splits = sym (append-nil S.vertices) }
soup_front S (t ∷ soup) = front_then (triangle_front S t) (soup_front (weld_triangle S t) soup)

-- a point keeps its number, whatever is welded afterwards
keeps_number : (us vs : List Vec3) (p : Vec3) → same_point p p ≡ true → Front (with_point us p) vs → first_sight us p ≡ first_sight vs p
keeps_number us vs p r f =
    sym (ap (λ (l : List Vec3). first_sight l p) f.splits
    ∙ sight_stays (with_point us p) f.rest p (subst (λ (n : ℕ). n < length (with_point us p)) (sym (sight_with us p r)) (sight_there us p))
    ∙ sight_with us p r)

-- the welded triangles: each corner by its number in the final mesh, and those with two equal numbers dropped
pub welded_triangles : (S : Mesh) (soup : List (Tri Vec3)) → every_finite soup ≡ true
    → (weld_soup S soup).triangles ≡ S.triangles ++ keep_if distinct (map (map_tri (first_sight (weld_soup S soup).vertices)) (map (map_tri plus_zero_v) soup))
unfolding weld_soup weld_triangle every_finite
welded_triangles S [] h = sym (append-nil S.triangles)
welded_triangles S (t ∷ soup) h =
    let a : Vec3 = plus_zero_v t.0 in
    let b : Vec3 = plus_zero_v t.1 in
    let c : Vec3 = plus_zero_v t.2 in
    let us : List Vec3 = S.vertices in
    let ua : List Vec3 = with_point us a in
    let ub : List Vec3 = with_point ua b in
    let f = four (v_finite t.0) (v_finite t.1) (v_finite t.2) (every_finite soup) h in
    let T₁ : Mesh = weld_triangle S t in
    let vs : List Vec3 = (weld_soup T₁ soup).vertices in
    let last : Front (with_point ub c) vs = soup_front T₁ soup in
    let mid : Front ub vs = front_then (front_with ub c) last in
    let e : ◌≡◌ {A = Tri ℕ} (first_sight us a, first_sight ua b, first_sight ub c) (first_sight vs a, first_sight vs b, first_sight vs c) =
    (λ i. (
      keeps_number us vs a (same_self t.0 f.0) (front_then (front_with ua b) mid) i,
      keeps_number ua vs b (same_self t.1
          f.1) mid i,
      keeps_number ub vs c (same_self t.2 f.2) last i,
    )) in
    welded_triangles T₁ soup f.3 ∙ turn S.triangles (keep_if distinct (map (map_tri (first_sight vs)) (map (map_tri plus_zero_v) soup)))
    (first_sight us a, first_sight ua b, first_sight ub c) (first_sight vs a, first_sight vs b, first_sight vs c) e

-- a finite soup that is balanced after `+ 0.0` gives a mesh with balanced edges
from_soup_edges : (soup : List (Tri Vec3)) → Balanced (map (map_tri plus_zero_v) soup) → every_finite soup ≡ true → EdgesBalance (from_soup soup).triangles
unfolding from_soup
from_soup_edges soup p e =
    subst EdgesBalance (sym (welded_triangles no_mesh soup e))
    (welded_edges distinct not_distinct (first_sight (weld_soup no_mesh soup).vertices) (map (map_tri plus_zero_v) soup) p)

-- and a closed mesh
pub from_soup_closed : (soup : List (Tri Vec3)) → Balanced (map (map_tri plus_zero_v) soup) → every_finite soup ≡ true → Closed (from_soup soup)
from_soup_closed soup p e = record {
  edges_balance = from_soup_edges soup p e;
  none_twice = (from_soup_proper soup).none_twice;
  all_there = (from_soup_proper soup).all_there;
}
