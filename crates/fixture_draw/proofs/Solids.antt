-- What the slices hold after an accepted solid was drawn. Assumes nothing.
use mathlib.Core.Path.{◌≡◌, sym, ap, ◌∙◌, subst}
use mathlib.Core.Bool.{◌&&◌}
use mathlib.Core.List.{List, [], ◌∷◌}
use Prim.Native.Nat.{ℕ, zero, suc, ◌*◌, ◌≤◌, ◌<◌}
use native.Mathlib.Omega.{arith}
use lib.Dec.{T, ltb, ltb→lt}
use lib.ListN.{length, take, get_or}
use lib.Seq.{length-take-le}
use lib.Ieee.{Float}
use lib.Ieee.Fits.{and_l, and_r}
use Rattle.refusal.specs.Answer.{Answer}
use Rattle.mesh_balance_spec.specs.Soup.{Tri}
use Rattle.mesh_balance_spec.specs.Buffer.{flat, tris}
use Rattle.mesh_spec.specs.Mesh.{Mesh}
use Rattle.mesh_spec.specs.Closed.{all_of, below, AllThere}
use Rattle.mesh_spec.specs.Slices.{points}
use Rattle.mesh_spec.specs.SliceLaws.{length_points, length_tris, flat_tris}
use Rattle.mesh_check.specs.declared.TriMesh.{TriMesh}
use Rattle.mesh_check.specs.State.{State, mesh_of, record_for}
use Rattle.std.specs.Prelude.{Ok}
use Rattle.mesh_made.specs.Made.{GivesMade, made_as, accepted_as}
use Rattle.mesh_made.specs.MadeLaws.{left_as}
use Rattle.mesh_made.proofs.MadeLawsHeld.{made_unrefused}
use Rattle.tessellate_spec.specs.Outcome.{Job, final_mesh, refusal_of, tessellate_of}
use Rattle.tessellate_law.specs.Words.{Accepts}
use Rattle.tessellate_law.proofs.Demand3Laws.{demand3}
use Rattle.fixture_spec.specs.Outcome.{solid_lent, drawn, drawn_mesh}
use Rattle.fixture_law.specs.Jobs.{drawn_final}
use Rattle.fixture_law.specs.Counts.{drawn_within}
use Rattle.fixture_output.specs.Laid.{slice_mesh, Adds}

-- ---- vertex numbers that are there
number_below : (k : ℕ) (ts : List (Tri ℕ)) → T (all_of (below k) ts) → (i : ℕ) → i < length (flat ts) → get_or (flat ts) i 0 < k
unfolding all_of
number_below k [] h i l = absurd (omega arith)
number_below k (t ∷ ts) h i l =
    let a = ltb t.0 k in
    let b = ltb t.1 k in
    let c = ltb t.2 k in
    let s : T (a && b && c) = and_l (a && b && c) (all_of (below k) ts) h in
    let ab : T (a && b) = and_l (a && b) c s in
    go i l (ltb→lt t.0 k (and_l a b ab)) (ltb→lt t.1 k (and_r a b ab)) (ltb→lt t.2 k (and_r (a && b) c s))
    (number_below k ts (and_r (a && b && c) (all_of (below k) ts) h))
  where
    go : (i : ℕ) → i < length (flat (t ∷ ts)) → t.0 < k → t.1 < k → t.2 < k → ((j : ℕ) → j < length (flat ts) → get_or (flat ts) j 0 < k)
        → get_or (flat (t ∷ ts)) i 0 < k
    go zero l x y z r = x
    go (suc zero) l x y z r = y
    go (suc (suc zero)) l x y z r = z
    go (suc (suc (suc j))) l x y z r = r j (omega arith)

-- ---- an accepted solid
-- its record is that of its mesh
record_drawn : (j : Job) → Accepts j solid_lent → (tessellate_of j solid_lent).state.mesh ≡ record_for (final_mesh j)
unfolding tessellate_of made_as accepted_as
record_drawn j a = ap (λ (q : Answer). (made_as q (final_mesh j) solid_lent).state.mesh) (made_unrefused (refusal_of j solid_lent) (final_mesh j) solid_lent a)

-- what the slices vs and ts hold under the record r of an accepted solid
pub record Solid (j : Job) (r : TriMesh) (vs : List Float) (ts : List ℕ) : Type 0 where
  pub mesh : drawn_mesh j ≡ slice_mesh (take (3 * r.vertices) vs) (take (3 * r.triangles) ts)
  pub few : r.vertices ≤ 1024
  pub fewer : r.triangles ≤ 2048
  pub points_count : length (points (take (3 * r.vertices) vs)) ≡ r.vertices
  pub tris_count : length (tris (take (3 * r.triangles) ts)) ≡ r.triangles
  pub below : (i : ℕ) → i < length (take (3 * r.triangles) ts) → get_or (take (3 * r.triangles) ts) i 0 < r.vertices

pub solid_made : (j : Job) (r : TriMesh) (vs : List Float) (ts ws : List ℕ) → GivesMade (drawn j) (Ok r) vs ts ws
    → length vs ≡ 3072 → length ts ≡ 6144 → Solid j r vs ts
unfolding drawn drawn_mesh mesh_of
solid_made j r vs ts ws g ev et = record {
  mesh = mesh;
  few = few;
  fewer = fewer;
  points_count = points_count;
  tris_count = tris_count;
  below = λ i l. subst (λ (k : List ℕ). get_or k i 0 < r.vertices) same
      (number_below r.vertices (tris (take (3 * r.triangles) ts)) there i (subst (λ (k : List ℕ). i < length k) (sym same) l));
}
  where
    accepts : Accepts j solid_lent
    accepts = sym g.refusal

    mesh : drawn_mesh j ≡ slice_mesh (take (3 * r.vertices) vs) (take (3 * r.triangles) ts)
    mesh = unfold drawn_mesh drawn mesh_of in ap (λ (s : State). mesh_of s) (left_as g)

    recorded : r ≡ record_for (final_mesh j)
    recorded = unfold drawn in g.mesh ∙ record_drawn j accepts

    final : drawn_mesh j ≡ final_mesh j
    final = drawn_final j accepts

    counted : r.vertices ≡ length (drawn_mesh j).vertices
    counted = ap (λ (x : TriMesh). x.vertices) recorded ∙ ap (λ (x : Mesh). length x.vertices) (sym final)

    faces : r.triangles ≡ length (drawn_mesh j).triangles
    faces = ap (λ (x : TriMesh). x.triangles) recorded ∙ ap (λ (x : Mesh). length x.triangles) (sym final)

    few : r.vertices ≤ 1024
    few = omega (arith, counted, (drawn_within j accepts).vertices)

    fewer : r.triangles ≤ 2048
    fewer = omega (arith, faces, (drawn_within j accepts).triangles)

    points_count : length (points (take (3 * r.vertices) vs)) ≡ r.vertices
    points_count = length_points r.vertices (take (3 * r.vertices) vs) (length-take-le (3 * r.vertices) vs (omega (arith, few, ev)))

    triples : length (take (3 * r.triangles) ts) ≡ 3 * r.triangles
    triples = length-take-le (3 * r.triangles) ts (omega (arith, fewer, et))

    tris_count : length (tris (take (3 * r.triangles) ts)) ≡ r.triangles
    tris_count = length_tris r.triangles (take (3 * r.triangles) ts) triples

    same : flat (tris (take (3 * r.triangles) ts)) ≡ take (3 * r.triangles) ts
    same = flat_tris r.triangles (take (3 * r.triangles) ts) triples

    there : T (all_of (below r.vertices) (tris (take (3 * r.triangles) ts)))
    there =
        subst (λ (k : ℕ). T (all_of (below k) (tris (take (3 * r.triangles) ts)))) points_count
        (subst AllThere mesh (unfold drawn_mesh drawn in demand3.all_there j solid_lent accepts))

-- so it may be added to the output
pub solid_adds : (j : Job) (r : TriMesh) (vs : List Float) (ts : List ℕ) (n v t : ℕ) → Solid j r vs ts → length vs ≡ 3072 → length ts ≡ 6144
    → v ≤ 1024 * 65535 → t ≤ 2048 * 65535 → Adds n v t (take (3 * r.vertices) vs) (take (3 * r.triangles) ts)
solid_adds j r vs ts n v t s ev et hv ht =
    let a = length-take-le (3 * r.vertices) vs (omega (arith, s.few)) in
    let b = length-take-le (3 * r.triangles) ts (omega (arith, s.fewer)) in
    record {
      places = omega (arith, s.points_count);
      triples = omega (arith, s.tris_count);
      few = omega arith;
      fewer = omega arith;
      below = λ i l. omega (arith, s.below i l, s.few);
      short = omega (arith, s.few);
      shorter = omega (arith, s.fewer);
    }
