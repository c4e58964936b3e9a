-- What a call has made before its end, and what the lent slices hold after it. Assumes nothing.
use mathlib.Core.Path.{◌≡◌, refl, sym, ap, ◌∙◌, subst}
use mathlib.Core.Bool.{Bool, true, false, cond, true≢false}
use mathlib.Core.List.{List, ◌++◌}
use Prim.Native.Nat.{ℕ, ◌*◌, ◌-◌, ◌≤◌, zero-le}
use native.Mathlib.Omega.{arith}
use lib.ListN.{length, take, drop, replicate, length-append}
use lib.Ieee.{Float, binary64, of_bits}
use Rattle.slice.specs.Cleared.{cleared_from}
use Rattle.slice.specs.ClearedLaws.{cleared_all}
use Rattle.mesh_balance_spec.specs.Buffer.{flat, length_flat}
use Rattle.refusal.specs.declared.Refusal.{Refusal}
use Rattle.refusal.specs.Answer.{Answer, Accepted, answer_of}
use Rattle.std.specs.Prelude.{Result, Ok, Err, Some}
use Rattle.refusal.specs.Number.{number_of}
use Rattle.refusal.specs.Accepted.{is_accepted}
use Rattle.refusal.specs.Laws.{accepted_is}
use Rattle.mesh_spec.specs.Mesh.{Mesh}
use Rattle.mesh_spec.specs.Slices.{flat_v}
use Rattle.mesh_spec.specs.Measures.{bounding_box}
use Rattle.mesh_spec.specs.SliceLaws.{take_flat, take_flat_v, length_flat_v}
use Rattle.mesh_check.specs.declared.TriMesh.{TriMesh}
use Rattle.mesh_check.specs.State.{record_of, empty_record, State, state, stored}
use Rattle.mesh_check.proofs.Lying.{lies}
use Rattle.mesh_made.specs.Made.{lent, record_made, Ending, refused_as, accepted_as, made_as, GivesMade}
use Rattle.mesh_made.specs.Steps.{Makes, Ends}

-- slices that kept their lengths
pub lent_same : (vs us : List Float) (ts ss ws xs : List ℕ) → length vs ≡ length us → length ts ≡ length ss → length ws ≡ length xs → lent vs ts ws ≡ lent us ss xs
lent_same vs us ts ss ws xs a b c = λ j. record { vertices = a j; triangles = b j; work = c j }

-- ---- what was made

-- the same, written in another way
pub makes_as : {q p : Answer} {m o : Mesh} {r : Result TriMesh Refusal} {vs : List Float} {ts : List ℕ} → q ≡ p → m ≡ o → Makes q m r vs ts → Makes p o r vs ts
makes_as {q} {p} {m} {o} {r} {vs} {ts} e f M = subst (λ (x : Mesh). Makes p x r vs ts) f (subst (λ (x : Answer). Makes x m r vs ts) e M)

-- the same answer
pub makes_is : {q : Answer} {m : Mesh} {r t : Result TriMesh Refusal} {vs : List Float} {ts : List ℕ} → r ≡ t → Makes q m t vs ts → Makes q m r vs ts
makes_is {q} {m} {r} {t} {vs} {ts} e M = subst (λ (x : Result TriMesh Refusal). Makes q m x vs ts) (sym e) M

-- a refusal makes no mesh
pub makes_refused : (q : Refusal) (m : Mesh) (vs : List Float) (ts : List ℕ) → is_accepted (Some q) ≡ false → Makes (Some q) m (Err q) vs ts
makes_refused q m vs ts n = record { refusal = refl; refused = λ e. refl; holds = λ e. absurd (true≢false (sym e ∙ n)) }

-- whatever the mesh
pub makes_none : {q : Answer} {m : Mesh} (o : Mesh) {r : Result TriMesh Refusal} {vs us : List Float} {ts ss : List ℕ} → is_accepted q ≡ false → Makes q m r vs ts → Makes q o r us ss
makes_none o n M = record { refusal = M.refusal; refused = M.refused; holds = λ e. absurd (true≢false (sym e ∙ n)) }

-- the fronts of slices in which m is stored
module _ (m : Mesh) (s t : State) (held : t ≡ stored m s) where
  pub vertices_counted : t.mesh.vertices ≡ length m.vertices
  unfolding stored
  vertices_counted = λ j. (held j).mesh.vertices

  pub triangles_counted : t.mesh.triangles ≡ length m.triangles
  unfolding stored
  triangles_counted = λ j. (held j).mesh.triangles

  all_floats : t.vertices ≡ flat_v m.vertices ++ drop (3 * length m.vertices) s.vertices
  unfolding stored
  all_floats = λ j. (held j).vertices

  all_numbers : t.triangles ≡ flat m.triangles ++ drop (3 * length m.triangles) s.triangles
  unfolding stored
  all_numbers = λ j. (held j).triangles

  pub front_floats : take (3 * t.mesh.vertices) t.vertices ≡ flat_v m.vertices
  front_floats = (λ j. take (3 * vertices_counted j) (all_floats j)) ∙ take_flat_v m.vertices (drop (3 * length m.vertices) s.vertices)

  pub front_numbers : take (3 * t.mesh.triangles) t.triangles ≡ flat m.triangles
  front_numbers = (λ j. take (3 * triangles_counted j) (all_numbers j)) ∙ take_flat m.triangles (drop (3 * length m.triangles) s.triangles)

  pub recorded_bounds : t.mesh.bounds ≡ bounding_box m
  unfolding stored
  recorded_bounds = λ j. (held j).mesh.bounds

  -- they hold m, and what stands after it is theirs
  pub again : t ≡ stored m t
  again = lies m t (sym front_floats) (sym vertices_counted) (sym front_numbers) (sym triangles_counted) recorded_bounds

  pub vertices_lie : 3 * t.mesh.vertices ≤ length t.vertices
  vertices_lie =
      omega (arith, vertices_counted, ap length all_floats, length-append (flat_v m.vertices) (drop (3 * length m.vertices) s.vertices), length_flat_v m.vertices)

  pub triangles_lie : 3 * t.mesh.triangles ≤ length t.triangles
  triangles_lie =
      omega (arith, triangles_counted, ap length all_numbers, length-append (flat m.triangles) (drop (3 * length m.triangles) s.triangles), length_flat m.triangles)

-- a mesh that lies in the slices is made
pub makes_accepted : (m : Mesh) (s : State) (c : TriMesh) (vs : List Float) (ts : List ℕ) → state c vs ts ≡ stored m s → Makes Accepted m (Ok c) vs ts
makes_accepted m s c vs ts e = record { refusal = refl; refused = λ n. absurd (true≢false n); holds = λ a. again m s (state c vs ts) e }

-- ---- the end

-- the counted places lie in the slices
pub makes_lie : (q : Answer) (m : Mesh) (r : Result TriMesh Refusal) (vs : List Float) (ts : List ℕ) → Makes q m r vs ts
    → (3 * (record_made r).vertices ≤ length vs) × (3 * (record_made r).triangles ≤ length ts)
makes_lie q m r vs ts M = go (is_accepted q) refl
  where
    go : (b : Bool) → is_accepted q ≡ b → (3 * (record_made r).vertices ≤ length vs) × (3 * (record_made r).triangles ≤ length ts)
    go true e = let h = M.holds e in (vertices_lie m (state (record_made r) vs ts) (state (record_made r) vs ts) h, triangles_lie m (state (record_made r) vs ts) (state (record_made r) vs ts) h)
    go false e = subst (λ (x : TriMesh). (3 * x.vertices ≤ length vs) × (3 * x.triangles ≤ length ts)) (sym (M.refused e)) (zero-le, zero-le)

-- the same ending written in another way
pub gives_as : {o p : Ending} {r : Result TriMesh Refusal} {vs : List Float} {ts ws : List ℕ} → o ≡ p → GivesMade o r vs ts ws → GivesMade p r vs ts ws
gives_as {r} {vs} {ts} {ws} e g = subst (λ (x : Ending). GivesMade x r vs ts ws) e g

module _ (q : Answer) (m : Mesh) (made : Result TriMesh Refusal) (vs : List Float) (ts ws : List ℕ) (M : Makes q m made vs ts)
    (r : Result TriMesh Refusal) (vs' : List Float) (ts' ws' : List ℕ) (E : Ends made vs ts ws r vs' ts' ws') where
  answered : answer_of r ≡ q
  answered = (λ j. answer_of (E.answer j)) ∙ M.refusal

  -- refused
  gives_refused : (record_made r) ≡ empty_record → GivesMade (refused_as q (lent vs ts ws)) r vs' ts' ws'
  unfolding refused_as
  gives_refused e =
      let c : (record_made made) ≡ empty_record = sym (λ j. record_made (E.answer j)) ∙ e in
      record {
        refusal = answered;
        number = ap number_of answered;
        mesh = e;
        vertices = E.keeps.vertices ∙ (λ j. cleared_from (of_bits binary64 0) (3 * (c j).vertices) vs) ∙ cleared_all (of_bits binary64 0) vs;
        triangles = E.keeps.triangles ∙ (λ j. cleared_from 0 (3 * (c j).triangles) ts) ∙ cleared_all 0 ts;
        work = E.keeps.work ∙ cleared_all 0 ws;
      }

  -- accepted: the slices held m, and were cleared after it
  gives_accepted : q ≡ Accepted → state (record_made made) vs ts ≡ stored m (state (record_made made) vs ts) → GivesMade (accepted_as m (lent vs ts ws)) r vs' ts' ws'
  unfolding accepted_as cleared_from
  gives_accepted e h =
      let s = state (record_made made) vs ts in
      let nv = vertices_counted m s s h in
      let nt = triangles_counted m s s h in
      record {
        refusal = answered ∙ e;
        number = ap number_of (answered ∙ e);
        mesh = (λ j. record_made (E.answer j)) ∙ (λ j. record_of (nv j) (nt j) (recorded_bounds m s s h j));
        vertices = E.keeps.vertices ∙ (λ j. front_floats m s s h j ++ replicate (length vs - 3 * nv j) (of_bits binary64 0));
        triangles = E.keeps.triangles ∙ (λ j. front_numbers m s s h j ++ replicate (length ts - 3 * nt j) 0);
        work = E.keeps.work ∙ cleared_all 0 ws;
      }

  pub makes_gives : GivesMade (made_as q m (lent vs ts ws)) r vs' ts' ws'
  makes_gives = go (is_accepted q) refl
    where
      same : (b : Bool) → is_accepted q ≡ b → cond b (accepted_as m (lent vs ts ws)) (refused_as q (lent vs ts ws)) ≡ made_as q m (lent vs ts ws)
      same b e = unfold made_as in sym (ap {B = Ending} (λ (x : Bool). cond x (accepted_as m (lent vs ts ws)) (refused_as q (lent vs ts ws))) e)

      go : (b : Bool) → is_accepted q ≡ b → GivesMade (made_as q m (lent vs ts ws)) r vs' ts' ws'
      go true e = gives_as (same true e) (gives_accepted (accepted_is q e) (M.holds e))
      go false e = gives_as (same false e) (gives_refused ((λ j. record_made (E.answer j)) ∙ M.refused e))
