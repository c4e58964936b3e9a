-- The end of the planner's output: the triangles behind the vertices, and the counts. Assumes nothing.
use mathlib.Core.Path.{◌≡◌, refl, sym, ap, ◌∙◌, subst}
use mathlib.Core.List.{List, [], ◌∷◌, ◌++◌, reverse, append_assoc, append-nil, reverse-cons, reverse-append, reverse-reverse}
use Prim.Native.Nat.{ℕ, zero, suc, ◌+◌, ◌-◌, ◌*◌, ◌/◌, ◌%◌, ◌≤◌, ◌<◌}
use native.Mathlib.Nat.{div-add-mod'}
use native.Mathlib.Omega.{arith}
use lib.ListN.{length, take, drop, replicate, length-append, length-drop, length-replicate, length-reverse, replicate-append-replicate}
use lib.Seq.{take_at, drop_at}
use Rattle.slice_bytes.specs.Bytes.{word_bytes, with_word}
use Rattle.slice_byte_lists.specs.Lists.{words_of, bytes_of_floats, bytes_of_words}
use Rattle.slice_bytes_law.specs.Words.{length_word, put_word}
use Rattle.slice_bytes_law.specs.Lists.{AllWords, length_words, words_append, zero_words, words_back}
use Rattle.slice_bytes_law.specs.Floats.{length_floats}
use Rattle.slice_byte_turn.specs.Turn.{ZeroBefore}
use Rattle.mesh_balance_spec.specs.Buffer.{flat, length_flat}
use Rattle.mesh_spec.specs.Mesh.{Mesh}
use Rattle.mesh_spec.specs.Slices.{flat_v}
use Rattle.mesh_spec.specs.SliceLaws.{length_flat_v}
use Rattle.fixture_spec.specs.Output.{bytes_of}
use Rattle.fixture_spec.specs.Outcome.{output_of}
use Rattle.fixture_output.specs.Laid.{bytes_for, byte_count, laid_as}
use Rattle.fixture_output.proofs.More.{words_both}

abbrev Bytes : Type 0
Bytes = List ℕ

-- ---- 32-bit numbers
words_reverse : (ws : List ℕ) → AllWords ws → AllWords (reverse ws)
words_reverse [] a = tt
words_reverse (w ∷ ws) a = subst AllWords (sym (reverse-cons w ws)) (words_both (reverse ws) (w ∷ []) (words_reverse ws a.1) (a.0, tt))

words_zero : (k : ℕ) → AllWords (replicate k 0)
words_zero zero = tt
words_zero (suc k) = (omega arith, words_zero k)

zeros_turned : (k : ℕ) → reverse (replicate {A = ℕ} k 0) ≡ replicate k 0
zeros_turned zero = refl
zeros_turned (suc k) =
    let e : k + 1 ≡ suc k = omega arith in
    reverse-cons 0 (replicate k 0)
    ∙ ap (λ (x : Bytes). x ++ (0 ∷ [])) (zeros_turned k)
    ∙ replicate-append-replicate k 1 0
    ∙ ap (λ (j : ℕ). replicate j 0) e

-- zeros and numbers in reverse, turned round, are the numbers and zeros
turned : (k : ℕ) (ws : List ℕ) → AllWords ws
    → bytes_of_words (reverse (words_of (k + length ws) (replicate (4 * k) 0 ++ bytes_of_words (reverse ws)))) ≡ bytes_of_words ws ++ replicate (4 * k) 0
turned k ws a =
    let all : List ℕ = replicate k 0 ++ reverse ws in
    let bytes : replicate (4 * k) 0 ++ bytes_of_words (reverse ws) ≡ bytes_of_words all ++ [] =
    ap (λ (x : Bytes). x ++ bytes_of_words (reverse ws)) (sym (zero_words k)) ∙ sym (words_append (replicate k 0) (reverse ws)) ∙ sym (append-nil (bytes_of_words all)) in
    let count : k + length ws ≡ length all =
    sym (length-append (replicate k 0) (reverse ws) ∙ (λ i. length-replicate {A = ℕ} k 0 i + length-reverse ws i)) in
    (λ i. bytes_of_words (reverse (words_of (count i) (bytes i))))
    ∙ ap (λ (x : List ℕ). bytes_of_words (reverse x)) (words_back all [] (words_both (replicate k 0) (reverse ws) (words_zero k) (words_reverse ws a)))
    ∙ ap bytes_of_words (reverse-append (replicate k 0) (reverse ws) ∙ (λ i. reverse-reverse ws i ++ zeros_turned k i))
    ∙ words_append ws (replicate k 0)
    ∙ ap (λ (x : Bytes). bytes_of_words ws ++ x) (zero_words k)

-- the counts take the place of eight zeros
counted : (v t : ℕ) (r : Bytes) → with_word (with_word (replicate 8 0 ++ r) 0 v) 4 t ≡ word_bytes v ++ word_bytes t ++ r
unfolding with_word word_bytes
counted v t r = refl

-- the length of the bytes of a mesh
pub bytes_length : (m : Mesh) → length (bytes_of m) ≡ byte_count m
unfolding bytes_of
bytes_length m =
    let a : Bytes = word_bytes (length m.vertices) in
    let b : Bytes = word_bytes (length m.triangles) in
    let f : Bytes = bytes_of_floats (flat_v m.vertices) in
    omega (
      arith,
      length-append (a ++ b ++ f) (bytes_of_words (flat m.triangles)),
      length-append (a ++ b) f,
      length-append a b,
      length_word (length m.vertices),
      length_word (length m.triangles),
      length_floats (flat_v m.vertices),
      length_flat_v m.vertices,
      length_words (flat m.triangles),
      length_flat m.triangles,
    )

module _ (m : Mesh) (n : ℕ) (room : byte_count m ≤ n) (numbers : AllWords (flat m.triangles)) where
  abbrev head : Bytes
  head = replicate 8 0 ++ bytes_of_floats (flat_v m.vertices)

  abbrev at : ℕ
  at = 8 + 24 * length m.vertices

  abbrev end : ℕ
  end = n - n % 4

  -- zeros before the numbers, four bytes each
  abbrev free : ℕ
  free = n / 4 - (2 + 6 * length m.vertices + 3 * length m.triangles)

  abbrev pub part : Bytes
  part = replicate (4 * free) 0 ++ bytes_of_words (reverse (flat m.triangles))

  gap : n - n % 4 - byte_count m ≡ 4 * free
  gap = omega (arith, div-add-mod' n 4)

  laid_parts : laid_as m n ≡ head ++ (part ++ replicate (n % 4) 0)
  unfolding laid_as
  laid_parts =
      ap (λ (k : ℕ). head ++ replicate k 0 ++ bytes_of_words (reverse (flat m.triangles)) ++ replicate (n % 4) 0) gap
      ∙ append_assoc (head ++ replicate (4 * free) 0) (bytes_of_words (reverse (flat m.triangles))) (replicate (n % 4) 0)
      ∙ append_assoc head (replicate (4 * free) 0) (bytes_of_words (reverse (flat m.triangles)) ++ replicate (n % 4) 0)
      ∙ ap (λ (x : Bytes). head ++ x)
      (sym (append_assoc (replicate (4 * free) 0) (bytes_of_words (reverse (flat m.triangles))) (replicate (n % 4) 0)))

  head_length : length head ≡ at
  head_length =
      omega
      (arith, length-append (replicate 8 0) (bytes_of_floats (flat_v m.vertices)), length_floats (flat_v m.vertices), length_flat_v m.vertices)

  pub part_length : length part ≡ 4 * (free + 3 * length m.triangles)
  part_length =
      omega (
        arith,
        length-append (replicate (4 * free) 0) (bytes_of_words (reverse (flat m.triangles))),
        length-replicate {A = ℕ} (4 * free) 0,
        length_words (reverse (flat m.triangles)),
        length-reverse (flat m.triangles),
        length_flat m.triangles,
      )

  -- what the part between the vertices and the end holds
  pub part_is : take (end - at) (drop at (laid_as m n)) ≡ part
  part_is =
      ap (λ (x : Bytes). take (end - at) (drop at x)) laid_parts
      ∙ ap (take (end - at)) (drop_at head (part ++ replicate (n % 4) 0) at head_length)
      ∙ take_at part (replicate (n % 4) 0) (end - at) (part_length ∙ omega (arith, div-add-mod' n 4))

  pub part_ready : ZeroBefore part (3 * length m.triangles)
  part_ready = record {
    whole = omega (arith, part_length);
    within = omega (arith, part_length);
    zeros =
        let e : length part - 4 * (3 * length m.triangles) ≡ 4 * free = omega (arith, part_length) in
        ap (λ (k : ℕ). take k part) e
        ∙ take_at (replicate (4 * free) 0) (bytes_of_words (reverse (flat m.triangles))) (4 * free) (length-replicate {A = ℕ} (4 * free) 0)
        ∙ ap (λ (k : ℕ). replicate k 0) (sym e);
  }

  -- turned round, between what was before it and behind it, with the counts
  pub ended : with_word
      (with_word (take at (laid_as m n) ++ bytes_of_words (reverse (words_of (length part / 4) part)) ++ drop end (laid_as m n)) 0 (length m.vertices))
      4 (length m.triangles)
      ≡ output_of m n
  unfolding output_of bytes_of
  ended =
      let v = length m.vertices in
      let t = length m.triangles in
      let f : Bytes = bytes_of_floats (flat_v m.vertices) in
      let w : Bytes = bytes_of_words (flat m.triangles) in
      let r : Bytes = replicate (n % 4) 0 in
      let count : length part / 4 ≡ free + length (flat m.triangles) = omega (arith, part_length, length_flat m.triangles) in
      let before : take at (laid_as m n) ≡ head = ap (take at) laid_parts ∙ take_at head (part ++ r) at head_length in
      let behind : drop end (laid_as m n) ≡ r =
      ap (drop end) (laid_parts ∙ sym (append_assoc head part r))
      ∙ drop_at (head ++ part) r end (length-append head part ∙ omega (arith, head_length, part_length, div-add-mod' n 4)) in
      let between : bytes_of_words (reverse (words_of (length part / 4) part)) ≡ w ++ replicate (4 * free) 0 =
      ap (λ (k : ℕ). bytes_of_words (reverse (words_of k part))) count ∙ turned free (flat m.triangles) numbers in
      let left : 4 * free + n % 4 ≡ n - length (bytes_of m) = omega (arith, bytes_length m, div-add-mod' n 4) in
      let zeros : replicate {A = ℕ} (4 * free) 0 ++ r ≡ replicate (n - length (bytes_of m)) 0 =
      replicate-append-replicate (4 * free) (n % 4) 0 ∙ ap (λ (k : ℕ). replicate k 0) left in
      let grouped : head ++ (w ++ replicate (4 * free) 0) ++ r ≡ replicate 8 0 ++ (f ++ (w ++ (replicate (4 * free) 0 ++ r))) = simp append_assoc in
      (λ i. with_word (with_word (before i ++ between i ++ behind i) 0 v) 4 t)
      ∙ ap (λ (x : Bytes). with_word (with_word x 0 v) 4 t) grouped
      ∙ counted v t (f ++ (w ++ (replicate (4 * free) 0 ++ r)))
      ∙ ap (λ (x : Bytes). word_bytes v ++ word_bytes t ++ (f ++ (w ++ x))) zeros
      ∙ sym (append_assoc (word_bytes v ++ word_bytes t) f (w ++ replicate (n - length (bytes_of m)) 0))
      ∙ sym (append_assoc (word_bytes v ++ word_bytes t ++ f) w (replicate (n - length (bytes_of m)) 0))
