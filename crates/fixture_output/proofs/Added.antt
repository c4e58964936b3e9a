-- What `add` leaves in the output. Assumes nothing.
use mathlib.Core.Path.{◌≡◌, refl, sym, ap, ◌∙◌, subst}
use mathlib.Core.List.{List, [], ◌++◌, map, reverse, append-nil}
use Prim.Native.Nat.{ℕ, ◌+◌, ◌-◌, ◌*◌, ◌%◌, ◌/◌, ◌≤◌, ◌<◌}
use native.Mathlib.Nat.{div-add-mod'}
use native.Mathlib.Omega.{arith}
use lib.ListN.{length, take, drop, get_or, replicate, length-append, length-take, length-drop, length-replicate, length-reverse, drop_of_length-le}
use lib.Seq.{take_all, length-take-le}
use borrow.Rule.Slice.PartMut.{same_len_mid}
use lib.Ieee.{Float}
use Rattle.slice_byte_lists.specs.Lists.{bytes_of_floats, bytes_of_words, with_floats}
use Rattle.slice_bytes_law.specs.Lists.{AllWords, length_words}
use Rattle.slice_bytes_law.specs.Floats.{length_floats}
use Rattle.mesh_balance_spec.specs.Buffer.{flat, tris, length_flat}
use Rattle.mesh_spec.specs.Mesh.{Mesh, append}
use Rattle.mesh_spec.specs.Slices.{flat_v, points}
use Rattle.mesh_spec.specs.SliceLaws.{length_flat_v}
use Rattle.fixture_output.specs.Laid.{bytes_for, byte_count, laid_as, Laid, slice_mesh, Adds, Added}
use Rattle.fixture_output.proofs.More as More

abbrev Bytes : Type 0
Bytes = List ℕ

-- an output so laid has its length
laid_length : (m : Mesh) (n : ℕ) → byte_count m ≤ n → length (laid_as m n) ≡ n
unfolding laid_as
laid_length m n room =
    let f : Bytes = bytes_of_floats (flat_v m.vertices) in
    let z : Bytes = replicate (n - n % 4 - byte_count m) 0 in
    let w : Bytes = bytes_of_words (reverse (flat m.triangles)) in
    omega (
      arith,
      length-append (replicate 8 0 ++ f ++ z ++ w) (replicate (n % 4) 0),
      length-append (replicate 8 0 ++ f ++ z) w,
      length-append (replicate 8 0 ++ f) z,
      length-append (replicate 8 0) f,
      length-replicate {A = ℕ} (n % 4) 0,
      length-replicate {A = ℕ} (n - n % 4 - byte_count m) 0,
      length_floats (flat_v m.vertices),
      length_flat_v m.vertices,
      length_words (reverse (flat m.triangles)),
      length-reverse (flat m.triangles),
      length_flat m.triangles,
      div-add-mod' n 4,
    )

module _ (out : Bytes) (vs : List Float) (ts : List ℕ) (v t : ℕ) (a : Adds (length out) v t vs ts) where
  abbrev at : ℕ
  at = 8 + 24 * v

  abbrev end : ℕ
  end = length out - length out % 4 - 12 * t

  abbrev needed : ℕ
  needed = at + 8 * length vs + 12 * t + 4 * length ts

  -- without room for both nothing is said of the bytes
  pub full : length out - length out % 4 < needed → Added out v t vs ts out
  full h m ev et l =
      let below : (i : ℕ) → i < length ts → get_or ts i 0 + length m.vertices < 4294967296 =
      subst (λ (k : ℕ). (i : ℕ) → i < length ts → get_or ts i 0 + k < 4294967296) (sym ev) a.below in
      record {
        bytes = refl;
        words = More.both_words m (length out) vs ts a.places a.triples l.words below;
        laid = λ r. absurd
            (omega (
              arith,
              More.both_count m (length out) vs ts a.places a.triples,
              More.both_triangles m (length out) vs ts a.places a.triples,
              a.places,
              a.triples,
              div-add-mod' (length out) 4,
            ));
      }

  -- the output with the vertices y behind the vertices
  abbrev pub behind : Bytes → Bytes
  behind y = take at out ++ (y ++ drop (length out - at) (drop at out))

  -- its part up to the numbers
  pub reaches : needed ≤ length out - length out % 4 → (y : Bytes) → length y ≡ length (take (length out - at) (drop at out))
      → end ≡ length (take end (behind y))
  reaches room y e =
      let whole : length (behind y) ≡ length out = same_len_mid at (length out - at) out y e in
      sym (length-take-le end (behind y) (omega arith))

  pub enough : needed ≤ length out - length out % 4 → (y : Bytes) → length y ≡ length (take (length out - at) (drop at out))
      → 4 * length ts ≤ length (take end (behind y))
  enough room y e = subst (λ (k : ℕ). 4 * length ts ≤ k) (reaches room y e) (omega arith)

  module _ (room : needed ≤ length out - length out % 4) (y z : Bytes) (ey : y ≡ with_floats (length vs) vs (take (length out - at) (drop at out)))
      (ez : z ≡ take (length (take end (behind y)) - 4 * length ts) (take end (behind y)) ++ bytes_of_words (reverse (map (λ i. i + v) ts))) where
    behind_is : behind y ≡ take at out ++ with_floats (length vs) vs (drop at out)
    behind_is =
        ap (λ (x : Bytes). take at out ++ x)
        ((λ i. ey i ++ drop_of_length-le (drop at out) {i = length out - at} (omega (arith, length-drop at out)) i)
        ∙ append-nil (with_floats (length vs) vs (take (length out - at) (drop at out)))
        ∙ ap (with_floats (length vs) vs) (take_all (length out - at) (drop at out) (omega (arith, length-drop at out))))

    pub more : Added out v t vs ts (z ++ drop end (behind y))
    more m ev et l =
        let n = length out in
        let room' : 8 + 24 * length m.vertices + 8 * length vs + 12 * length m.triangles + 4 * length ts ≤ n - n % 4 = omega arith in
        let first : Bytes = More.first m n vs ts a.places a.triples room' in
        let end' = n - n % 4 - 12 * length m.triangles in
        let same : out ≡ laid_as m n = l.laid (omega arith) in
        let written : behind y ≡ first =
        behind_is ∙ (λ i. take (8 + 24 * sym ev i) (same i) ++ with_floats (length vs) vs (drop (8 + 24 * sym ev i) (same i))) in
        let ends : end ≡ end' = ap (λ (k : ℕ). n - n % 4 - 12 * k) (sym et) in
        let rest : length (take end' first) - 4 * length ts ≡ end' - 4 * length ts =
        omega (arith, length-take end' first, More.first_length m n vs ts a.places a.triples room') in
        let below : (i : ℕ) → i < length ts → get_or ts i 0 + length m.vertices < 4294967296 =
        subst (λ (k : ℕ). (i : ℕ) → i < length ts → get_or ts i 0 + k < 4294967296) (sym ev) a.below in
        let is : z ++ drop end (behind y) ≡ laid_as (append m (slice_mesh vs ts)) n =
        ap (λ (x : Bytes). x ++ drop end (behind y)) ez
        ∙ (λ i. take (length (take (ends i) (written i)) - 4 * length ts) (take (ends i) (written i))
        ++ bytes_of_words (reverse (map (λ k. k + sym ev i) ts)) ++ drop (ends i) (written i))
        ∙ More.laid_more m n vs ts a.places a.triples room' (length (take end' first) - 4 * length ts) rest in
        let fits : byte_count (append m (slice_mesh vs ts)) ≤ n =
        omega
        (arith, More.both_count m n vs ts a.places a.triples, More.both_triangles m n vs ts a.places a.triples, a.places, a.triples) in
        record {
          bytes = ap length is ∙ laid_length (append m (slice_mesh vs ts)) n fits;
          words = More.both_words m n vs ts a.places a.triples l.words below;
          laid = λ r. is;
        }
