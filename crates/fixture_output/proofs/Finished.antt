-- What `finish` leaves in the output. Assumes nothing.
use mathlib.Core.Path.{◌≡◌, refl, sym, ap, ◌∙◌, subst}
use mathlib.Core.Bool.{Bool, true, false, cond}
use mathlib.Core.List.{List, [], ◌++◌, reverse, append_assoc}
use Prim.Native.Nat.{ℕ, ◌+◌, ◌-◌, ◌*◌, ◌%◌, ◌/◌, ◌≤◌, ◌<◌}
use native.Mathlib.Nat.{div-add-mod'}
use native.Mathlib.Omega.{arith}
use lib.ListN.{length, take, drop, replicate}
use lib.Seq.{drop-drop}
use lib.Dec.{ltb}
use borrow.Author.Tests.{lt-ltb, le-ltb}
use Rattle.refusal.specs.Answer.{Answer}
use Rattle.refusal.specs.Answer.{Accepted, NoRoom}
use Rattle.slice_bytes.specs.Bytes.{with_word}
use Rattle.slice_byte_lists.specs.Lists.{words_of, bytes_of_words}
use Rattle.slice_byte_turn.specs.Turn.{ZeroBefore}
use Rattle.mesh_spec.specs.Mesh.{Mesh}
use Rattle.fixture_spec.specs.Output.{bytes_of}
use Rattle.fixture_spec.specs.Outcome.{short_output, output_of}
use Rattle.fixture_output.specs.Laid.{bytes_for, byte_count, laid_as, Laid, Finishes, Ended, Finished}
use Rattle.fixture_output.proofs.End as End

abbrev Bytes : Type 0
Bytes = List ℕ

-- too short, or not
short : (m : Mesh) (n : ℕ) → n < byte_count m → short_output m n ≡ true
unfolding short_output
short m n h = lt-ltb n (length (bytes_of m)) (subst (λ (k : ℕ). n < k) (sym (End.bytes_length m)) h)

enough : (m : Mesh) (n : ℕ) → byte_count m ≤ n → short_output m n ≡ false
unfolding short_output
enough m n h = le-ltb n (length (bytes_of m)) (subst (λ (k : ℕ). k ≤ n) (sym (End.bytes_length m)) h)

module _ (out : Bytes) (v t : ℕ) where
  -- 7
  pub refused : length out < 8 + 24 * v + 12 * t → (z : Bytes) → z ≡ replicate (length out) 0 → Finished out v t NoRoom z
  refused h z e m ev et l =
      let s = short m (length out) (omega arith) in
      record {
        refusal = sym (ap (λ (b : Bool). cond b NoRoom Accepted) s);
        output = e ∙ sym (ap (λ (b : Bool). cond b (replicate (length out) 0) (output_of m (length out))) s);
      }

  abbrev at : ℕ
  at = 8 + 24 * v

  abbrev end : ℕ
  end = length out - length out % 4

  -- the bytes between the vertices and the end are ready to be turned round
  pub ready : 8 + 24 * v + 12 * t ≤ length out → Finishes out v t → ZeroBefore (take (end - at) (drop at out)) (3 * t)
  ready h f =
      let m = f.mesh in
      let n = length out in
      let room : byte_count m ≤ n = omega (arith, f.counted, f.faces) in
      let same : out ≡ laid_as m n = f.laid.laid room in
      let part : take (end - at) (drop at out) ≡ End.part m n room f.laid.words =
      (λ i. take (end - (8 + 24 * sym f.counted i)) (drop (8 + 24 * sym f.counted i) (same i))) ∙ End.part_is m n room f.laid.words in
      subst (λ (x : Bytes). ZeroBefore x (3 * t)) (sym part)
      (subst (λ (k : ℕ). ZeroBefore (End.part m n room f.laid.words) (3 * k)) f.faces (End.part_ready m n room f.laid.words))

  -- turned round, they stand between what was before them and behind them; then the counts
  pub accepted : 8 + 24 * v + 12 * t ≤ length out → (y b c : Bytes)
      → y ≡ bytes_of_words (reverse (words_of (length (take (end - at) (drop at out)) / 4) (take (end - at) (drop at out))))
      → b ≡ with_word (take at out ++ (y ++ drop (end - at) (drop at out))) 0 v
      → c ≡ with_word b 4 t
      → Finished out v t Accepted c
  accepted h y b c ey eb ec m ev et l =
      let n = length out in
      let room : byte_count m ≤ n = omega arith in
      let s = enough m n room in
      let same : out ≡ laid_as m n = l.laid room in
      let part : Bytes = End.part m n room l.words in
      let turned : Bytes = bytes_of_words (reverse (words_of (length part / 4) part)) in
      let between : take (end - at) (drop at out) ≡ part =
      (λ i. take (end - (8 + 24 * sym ev i)) (drop (8 + 24 * sym ev i) (same i))) ∙ End.part_is m n room l.words in
      let whole : at + (end - at) ≡ end = omega (arith, div-add-mod' n 4) in
      let put : y ≡ turned = ey ∙ ap (λ (x : Bytes). bytes_of_words (reverse (words_of (length x / 4) x))) between in
      let rest : drop (end - at) (drop at out) ≡ drop end out = drop-drop (end - at) at out ∙ ap (λ (k : ℕ). drop k out) whole in
      let joined : take at out ++ (y ++ drop (end - at) (drop at out)) ≡ take at out ++ turned ++ drop end out =
      (λ i. take at out ++ (put i ++ rest i)) ∙ sym (append_assoc (take at out) turned (drop end out)) in
      let is : c ≡ output_of m n =
      ec ∙ ap (λ (x : Bytes). with_word x 4 t) (eb ∙ ap (λ (x : Bytes). with_word x 0 v) joined)
      ∙ (λ i. with_word (with_word (take (8 + 24 * sym ev i) (same i) ++ turned ++ drop end (same i)) 0 (sym ev i)) 4 (sym et i))
      ∙ End.ended m n room l.words in
      record {
        refusal = sym (ap (λ (x : Bool). cond x NoRoom Accepted) s);
        output = is ∙ sym (ap (λ (x : Bool). cond x (replicate n 0) (output_of m n)) s);
      }
