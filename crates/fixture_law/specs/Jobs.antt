-- What it says of the file and of each solid that nothing refuses a file. Assumes nothing.
use Rattle.std.specs.Prelude.{◌≡◌, refl, Bool, true, false, not, cond, List, [], ◌∷◌, ℕ, ◌≤◌, length, ltb}
use Rattle.std.proofs.Common.{sym, ap, ◌∙◌, arith, ltb-false}
use Rattle.refusal.specs.Answer.{Answer}
use Rattle.refusal.specs.Answer.{Accepted, ShortWork, PointNotFinite, NoRoom, BrokenField, NoSolid}
use Rattle.refusal.specs.Number.{number_of}
use Rattle.refusal.specs.Accepted.{is_accepted, or_else}
use Rattle.refusal.specs.Laws.{accepted_is}
use Rattle.mesh_spec.specs.Mesh.{Mesh, append}
use Rattle.mesh_check.specs.State.{no_room}
use Rattle.mesh_made.specs.Made.{Lent, short_work}
use Rattle.mesh_made.proofs.MadeLawsHeld.{made_unrefused}
use Rattle.tessellate_spec.specs.Outcome.{Job, final_mesh, welded_mesh, job_refusal, bad_soup, bad_vertex, refusal_of, tessellate_of}
use Rattle.tessellate_law.specs.Words.{Accepts}
use Rattle.tessellate_law.specs.AcceptedLaws.{given_final}
use Rattle.fixture_spec.specs.Fields.{file_refusal, fields_of, first_refusal, any_solid}
use Rattle.fixture_spec.specs.Solids.{jobs_of}
use Rattle.fixture_spec.specs.Outcome.{solid_lent, drawn, drawn_mesh, solids_refusal, appended, open_refusal}
use Rattle.fixture_law.specs.Words.{EachJob, AllAccepted}

-- ---- tests that did not refuse

passed : (b : Bool) (x r : Answer) → (number_of x ≡ 0 → ⊥) → cond b x r ≡ Accepted → (b ≡ false) × (r ≡ Accepted)
passed true x r n e = absurd (n (ap number_of e))
passed false x r n e = (refl, e)

pub neither_refuses : (r s : Answer) → or_else r s ≡ Accepted → (r ≡ Accepted) × (s ≡ Accepted)
unfolding or_else
neither_refuses r s = go (is_accepted r) refl
  where
    go : (b : Bool) → is_accepted r ≡ b → cond b s r ≡ Accepted → (r ≡ Accepted) × (s ≡ Accepted)
    go true q e = (accepted_is r q, e)
    go false q e = let no : false ≡ true = sym q ∙ ap is_accepted e in (e, cc)

-- ---- the file

-- a file that is not refused has at most 65,535 bytes
pub file_short : (file : List ℕ) → file_refusal file ≡ Accepted → length file ≤ 65535
unfolding file_refusal
file_short file e =
    let later = or_else (first_refusal (fields_of file)) (cond (not (any_solid (fields_of file))) NoSolid Accepted) in
    ltb-false 65535 (length file) (passed (ltb 65535 (length file)) BrokenField later (λ z. omega (arith, z)) e).0

each_accepted : (js : List Job) → solids_refusal js ≡ Accepted → AllAccepted js
unfolding solids_refusal drawn
each_accepted [] e = tt
each_accepted (j ∷ js) e = let b = neither_refuses (drawn j).refusal (solids_refusal js) e in (b.0, each_accepted js b.1)

-- nothing refuses the file, nor any of its solids
pub record Opened (file : List ℕ) : Type 0 where
  pub short : length file ≤ 65535
  pub accepted : AllAccepted (jobs_of file)

pub opened : (file : List ℕ) → open_refusal file ≡ Accepted → Opened file
unfolding open_refusal
opened file e =
    let b = neither_refuses (file_refusal file) (solids_refusal (jobs_of file)) e in
    record { short = file_short file b.0; accepted = each_accepted (jobs_of file) b.1 }

-- ---- a solid

-- the mesh of an accepted solid
pub drawn_final : (j : Job) → Accepts j solid_lent → drawn_mesh j ≡ final_mesh j
unfolding drawn_mesh drawn
drawn_final j h = given_final j solid_lent h

-- an accepted solid had room, before its operations
pub had_room : (j : Job) (n : Lent) → Accepts j n → no_room (welded_mesh j) n.vertices n.triangles ≡ false
unfolding tessellate_of refusal_of
had_room j n h =
    let e = made_unrefused (refusal_of j n) (final_mesh j) n h in
    let last = cond (bad_vertex j) PointNotFinite Accepted in
    let room = cond (no_room (welded_mesh j) n.vertices n.triangles) NoRoom last in
    let p = passed (short_work n.vertices n.work) ShortWork (or_else (job_refusal j) (cond (bad_soup j) PointNotFinite room)) (λ z. omega (arith, z)) e in
    let q = neither_refuses (job_refusal j) (cond (bad_soup j) PointNotFinite room) p.1 in
    let s = passed (bad_soup j) PointNotFinite room (λ z. omega (arith, z)) q.1 in
    (passed (no_room (welded_mesh j) n.vertices n.triangles) NoRoom last (λ z. omega (arith, z)) s.1).0

-- ---- the solids in order

-- a property that `append` keeps, and that the mesh of every solid has
pub appended_keeps : (P : Mesh → Type 0) → ((m o : Mesh) → P m → P o → P (append m o))
    → (m : Mesh) (js : List Job) → P m → EachJob (λ j. P (drawn_mesh j)) js → P (appended m js)
unfolding appended
appended_keeps P k m [] h e = h
appended_keeps P k m (j ∷ js) h e = appended_keeps P k (append m (drawn_mesh j)) js (k m (drawn_mesh j) h e.0) e.1

-- one property of every solid shows another
pub each_shows : (Q R : Job → Type 0) → ((j : Job) → Q j → R j) → (js : List Job) → EachJob Q js → EachJob R js
each_shows Q R f [] e = tt
each_shows Q R f (j ∷ js) e = (f j e.0, each_shows Q R f js e.1)
