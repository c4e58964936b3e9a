-- The measures' answers by the tests in their order, and the corners that the sums read. Assumes nothing.
use mathlib.Core.Path.{◌≡◌, refl, sym, ap, ◌∙◌}
use mathlib.Core.Bool.{Bool, true, false}
use mathlib.Core.List.{List, [], ◌∷◌, map}
use Prim.Native.Nat.{ℕ, suc, ◌+◌, ◌*◌, ◌<◌}
use native.Mathlib.Omega.{arith}
use lib.ListN.{length, take, get_or}
use lib.Seq.{length-take-le}
use lib.Ieee.{Float, binary64, to_bits}
use Rattle.math.specs.declared.Vec3.{Vec3}
use Rattle.math.specs.declared.BoundingBox.{BoundingBox}
use Rattle.math.specs.Vec.{zero_v}
use Rattle.mesh_balance_spec.specs.Soup.{Tri, map_tri}
use Rattle.mesh_balance_spec.specs.Buffer.{tris}
use Rattle.mesh_spec.specs.Mesh.{Mesh}
use Rattle.mesh_spec.specs.Slices.{points, vertex_at}
use Rattle.mesh_spec.specs.SliceLaws.{length_tris}
use Rattle.mesh_spec.specs.Measures.{triangle_soup, sum_of, bounding_box}
use Rattle.refusal.specs.declared.Refusal.{Refusal}
use Rattle.std.specs.Prelude.{None, Some, Result, Ok, Err}
use Rattle.refusal.specs.Answer.{Answer, Accepted, answer_of, answer_with}
use Rattle.refusal.specs.Laws.{accepted_is, answer_ok, answer_err}
use Rattle.refusal.specs.Number.{number_of}
use Rattle.refusal.specs.Accepted.{is_accepted}
use Rattle.mesh_check.specs.State.{State, mesh_of, check_of, boxed_with, Sound}
use Rattle.mesh_check.proofs.Sound.{check_sound}
use Rattle.mesh_triples.specs.Triples.{triple_at, corners_of, AllWithin}
use Rattle.mesh_measures.specs.Measures.{measure_of, bits_answered, GivesMeasure, box_answered, bounding_box_of, GivesBox}
use Rattle.slice_law.specs.Next.{getD_next}
use Rattle.mesh_triples.proofs.NextTriples.{next_counted, next_points}

-- ---- the corners
map_agree : {A B : Type 0} (f g : A → B) (d : A) (l : List A) → ((i : ℕ) → i < length l → f (get_or l i d) ≡ g (get_or l i d)) → map f l ≡ map g l
map_agree f g d [] h = refl
map_agree {B = B} f g d (x ∷ l) h = (λ j. h 0 (omega arith) j ∷ map f l) ∙ ap {B = List B} (λ r. g x ∷ r) (map_agree f g d l (λ i k. h (suc i) (omega arith)))

module _ (s : State) (ok : Sound s) where
  abbrev n : ℕ
  n = s.mesh.vertices

  abbrev k : ℕ
  k = s.mesh.triangles

  pub all_within : AllWithin s.vertices s.triangles k
  all_within = record { triangles = ok.triangles; corners = λ j h. omega (arith, ok.below j h, ok.vertices) }

  vertex_is : (j : ℕ) → j < n → get_or (points (take (3 * n) s.vertices)) j zero_v ≡ vertex_at s.vertices j
  vertex_is j h = getD_next (points (take (3 * n) s.vertices)) j (vertex_at s.vertices j) zero_v (next_points s.vertices n j h ok.vertices)

  -- the triangle soup is the corners, read from the slices
  pub soup_is : corners_of s.vertices s.triangles k ≡ triangle_soup (mesh_of s)
  unfolding triangle_soup mesh_of
  soup_is = sym (map_agree (map_tri read) (map_tri (vertex_at s.vertices)) (0, 0, 0) ts agree)
    where
      read : ℕ → Vec3
      read j = get_or (points (take (3 * n) s.vertices)) j zero_v

      ts : List (Tri ℕ)
      ts = tris (take (3 * k) s.triangles)

      agree : (i : ℕ) → i < length ts → map_tri read (get_or ts i (0, 0, 0)) ≡ map_tri (vertex_at s.vertices) (get_or ts i (0, 0, 0))
      agree i h =
          let c : i < k = omega (arith, length_tris k (take (3 * k) s.triangles) (length-take-le (3 * k) s.triangles ok.triangles)) in
          let e : get_or ts i (0, 0, 0) ≡ triple_at s.triangles i 0 = getD_next ts i (triple_at s.triangles i 0) (0, 0, 0) (next_counted s.triangles k i 0 c ok.triangles) in
          let p = vertex_is (get_or s.triangles (3 * i) 0) (ok.below (3 * i) (omega arith)) in
          let q = vertex_is (get_or s.triangles (3 * i + 1) 0) (ok.below (3 * i + 1) (omega arith)) in
          let r = vertex_is (get_or s.triangles (3 * i + 2) 0) (ok.below (3 * i + 2) (omega arith)) in
          (λ j. map_tri read (e j)) ∙ (λ j. (p j, q j, r j)) ∙ sym (λ j. map_tri (vertex_at s.vertices) (e j))

  pub sum_is : (f : Tri Vec3 → Float) (z r : Float) → r ≡ sum_of f z (corners_of s.vertices s.triangles k) → r ≡ sum_of f z (triangle_soup (mesh_of s))
  sum_is f z r e = e ∙ ap {B = Float} (λ (l : List (Tri Vec3)). sum_of f z l) soup_is

-- ---- the answers
-- what the check answered: its refusal, or that the slices are sound
pub unrefused : (s : State) (b : BoundingBox) → Ok b ≡ answer_with (check_of s) (bounding_box (mesh_of s)) → Sound s
unrefused s b e = let q = (answer_ok (check_of s) (bounding_box (mesh_of s)) b e).0 in check_sound s Accepted (sym q) refl

refused_is : (r : Refusal) → is_accepted (Some r) ≡ false
refused_is r = go (is_accepted (Some r)) refl
  where
    go : (b : Bool) → is_accepted (Some r) ≡ b → is_accepted (Some r) ≡ false
    go false e = e
    go true e = let no : Some r ≡ Accepted = accepted_is (Some r) e in cc

module _ (f : Mesh → Float) (s : State) where
  pub measure_refused : (r : Refusal) (a : Result ℕ Refusal) → a ≡ Err r → Err r ≡ answer_with (check_of s) (bounding_box (mesh_of s)) → GivesMeasure (measure_of f s) a
  unfolding measure_of
  measure_refused r a p e =
      let q = answer_err (check_of s) (bounding_box (mesh_of s)) r e in
      let h : answer_of a ≡ check_of s = ap {B = Answer} answer_of p ∙ q in
      record {
        refusal = h;
        number = ap {B = ℕ} number_of h;
        bits = ap {B = ℕ} bits_answered p ∙ sym (rw (sym (ap {B = Bool} is_accepted q) ∙ refused_is r));
      }

  pub measure_done : (b : BoundingBox) (x : Float) (k : ℕ) → Ok b ≡ answer_with (check_of s) (bounding_box (mesh_of s)) → x ≡ f (mesh_of s)
      → k ≡ to_bits binary64 x → GivesMeasure (measure_of f s) (Ok k)
  unfolding measure_of
  measure_done b x k e v w =
      let q = (answer_ok (check_of s) (bounding_box (mesh_of s)) b e).0 in
      record {
        refusal = sym q;
        number = ap {B = ℕ} number_of (sym q);
        bits = w ∙ ap {B = ℕ} (to_bits binary64) v ∙ sym (rw (ap {B = Bool} is_accepted q));
      }

pub box_given : (s : State) (r : Result BoundingBox Refusal) → r ≡ answer_with (check_of s) (bounding_box (mesh_of s)) → GivesBox (bounding_box_of s) r
unfolding bounding_box_of boxed_with
box_given s r e = go (check_of s) e
  where
    go : (q : Answer) → r ≡ answer_with q (bounding_box (mesh_of s)) → GivesBox (boxed_with q (bounding_box (mesh_of s))) r
    go None e = record {
      refusal = ap {B = Answer} answer_of e;
      number = ap {B = ℕ} (λ (a : Result BoundingBox Refusal). number_of (answer_of a)) e;
      bounds = ap {B = BoundingBox} box_answered e;
    }
    go (Some p) e = record {
      refusal = ap {B = Answer} answer_of e;
      number = ap {B = ℕ} (λ (a : Result BoundingBox Refusal). number_of (answer_of a)) e;
      bounds = ap {B = BoundingBox} box_answered e ∙ sym (rw (refused_is p));
    }
