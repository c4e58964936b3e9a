-- A mesh more in the planner's output: the lists of bytes. Assumes nothing.
use mathlib.Core.Path.{◌≡◌, refl, sym, ap, ◌∙◌, subst}
use mathlib.Core.List.{List, [], ◌∷◌, ◌++◌, map, reverse, append_assoc, reverse-append}
use Prim.Native.Nat.{ℕ, zero, suc, ◌+◌, ◌-◌, ◌*◌, ◌/◌, ◌%◌, ◌≤◌, ◌<◌}
use native.Mathlib.Nat.{div-add-mod'}
use native.Mathlib.Omega.{arith}
use lib.ListN.{length, take, drop, get_or, replicate, length-append, length-drop, length-replicate, length-reverse, length-map, replicate-append-replicate}
use lib.Seq.{take_at, drop_at}
use lib.Ieee.{Float}
use Rattle.slice_byte_lists.specs.Lists.{bytes_of_floats, bytes_of_words, with_floats}
use Rattle.slice_bytes_law.specs.Lists.{AllWords, length_words, words_append}
use Rattle.slice_bytes_law.specs.Floats.{length_floats, floats_append, put_floats}
use Rattle.mesh_balance_spec.specs.Soup.{Tri, map_tri}
use Rattle.mesh_balance_spec.specs.Buffer.{flat, tris, flat_append, length_flat}
use Rattle.mesh_spec.specs.Mesh.{Mesh, append}
use Rattle.mesh_spec.specs.Slices.{flat_v, points}
use Rattle.mesh_spec.specs.SliceLaws.{flat_tris, flat_map, flatV_points, flatV_append, length_flat_v}
use Rattle.fixture_output.specs.Laid.{bytes_for, byte_count, laid_as, Laid, slice_mesh, Adds, Added}

abbrev Bytes : Type 0
Bytes = List ℕ

zeros_length : (k : ℕ) → length (replicate {A = ℕ} k 0) ≡ k
zeros_length k = length-replicate k 0

-- ---- five parts of a list
-- bytes f behind the first part replace as many of the next one
front : (p q z w r f : Bytes) (a k : ℕ) → length p ≡ a → length q ≡ k
    → take a (p ++ (q ++ z) ++ w ++ r) ++ (f ++ drop k (drop a (p ++ (q ++ z) ++ w ++ r))) ≡ p ++ f ++ z ++ w ++ r
front p q z w r f a k ea ek =
    let rest : Bytes = q ++ (z ++ (w ++ r)) in
    let whole : p ++ (q ++ z) ++ w ++ r ≡ p ++ rest = simp append_assoc in
    (λ i. take a (whole i) ++ (f ++ drop k (drop a (whole i))))
    ∙ (λ i. take_at p rest a ea i ++ (f ++ drop k (drop_at p rest a ea i)))
    ∙ ap (λ (x : Bytes). p ++ (f ++ x)) (drop_at q (z ++ (w ++ r)) k ek)
    ∙ simp append_assoc

-- there are at least as many behind the first part
behind : (p q z w r : Bytes) (a k : ℕ) → length p ≡ a → length q ≡ k → k ≤ length (drop a (p ++ (q ++ z) ++ w ++ r))
behind p q z w r a k ea ek =
    omega (
      arith,
      length-drop a (p ++ (q ++ z) ++ w ++ r),
      length-append (p ++ (q ++ z) ++ w) r,
      length-append (p ++ (q ++ z)) w,
      length-append p (q ++ z),
      length-append q z,
    )

-- bytes g before the fourth part replace as many of the third
back : (p f z q w r g : Bytes) (e d : ℕ) → length (p ++ f ++ (z ++ q)) ≡ e → length (p ++ f ++ z) ≡ d
    → take d (take e (p ++ f ++ (z ++ q) ++ w ++ r)) ++ g ++ drop e (p ++ f ++ (z ++ q) ++ w ++ r) ≡ p ++ f ++ z ++ g ++ w ++ r
back p f z q w r g e d ee ed =
    let first : Bytes = p ++ f ++ (z ++ q) in
    let whole : p ++ f ++ (z ++ q) ++ w ++ r ≡ first ++ (w ++ r) = append_assoc first w r in
    (λ i. take d (take e (whole i)) ++ g ++ drop e (whole i))
    ∙ (λ i. take d (take_at first (w ++ r) e ee i) ++ g ++ drop_at first (w ++ r) e ee i)
    ∙ ap (λ (x : Bytes). take d x ++ g ++ (w ++ r)) (sym (append_assoc (p ++ f) z q))
    ∙ ap (λ (x : Bytes). x ++ g ++ (w ++ r)) (take_at (p ++ f ++ z) q d ed)
    ∙ sym (append_assoc (p ++ f ++ z ++ g) w r)

-- ---- 32-bit numbers
pub words_both : (us vs : List ℕ) → AllWords us → AllWords vs → AllWords (us ++ vs)
words_both [] vs a b = b
words_both (u ∷ us) vs a b = (a.0, words_both us vs a.1 b)

raised : (k : ℕ) (ts : List ℕ) → ((i : ℕ) → i < length ts → get_or ts i 0 + k < 4294967296) → AllWords (map (λ i. i + k) ts)
raised k [] h = tt
raised k (t ∷ ts) h = (h 0 (omega arith), raised k ts (λ i l. h (suc i) (omega arith)))

-- ---- a mesh and another one
module _ (m : Mesh) (n : ℕ) (vs : List Float) (ts : List ℕ) (places : 3 * length (points vs) ≡ length vs) (triples : 3 * length (tris ts) ≡ length ts) where
  abbrev both : Mesh
  both = append m (slice_mesh vs ts)

  -- the vertices of both
  both_vertices : replicate 8 0 ++ bytes_of_floats (flat_v m.vertices) ++ bytes_of_floats vs ≡ replicate 8 0 ++ bytes_of_floats (flat_v both.vertices)
  unfolding append
  both_vertices =
      let same = flatV_append m.vertices (points vs) ∙ ap (λ (x : List Float). flat_v m.vertices ++ x) (flatV_points (length (points vs)) vs (sym places)) in
      append_assoc (replicate 8 0) (bytes_of_floats (flat_v m.vertices)) (bytes_of_floats vs)
      ∙ ap (λ (x : Bytes). replicate 8 0 ++ x) (sym (floats_append (flat_v m.vertices) vs) ∙ ap bytes_of_floats (sym same))

  -- the numbers of both
  both_numbers : flat both.triangles ≡ flat m.triangles ++ map (λ i. i + length m.vertices) ts
  unfolding append
  both_numbers =
      flat_append m.triangles (map (map_tri (λ i. i + length m.vertices)) (tris ts))
      ∙ ap (λ (x : List ℕ). flat m.triangles ++ x)
      (flat_map (λ i. i + length m.vertices) (tris ts) ∙ ap (map (λ i. i + length m.vertices)) (flat_tris (length (tris ts)) ts (sym triples)))

  both_back : bytes_of_words (reverse (map (λ i. i + length m.vertices) ts)) ++ bytes_of_words (reverse (flat m.triangles))
      ≡ bytes_of_words (reverse (flat both.triangles))
  both_back =
      sym
      (ap (λ (x : List ℕ). bytes_of_words (reverse x)) both_numbers
      ∙ ap bytes_of_words (reverse-append (flat m.triangles) (map (λ i. i + length m.vertices) ts))
      ∙ words_append (reverse (map (λ i. i + length m.vertices) ts)) (reverse (flat m.triangles)))

  -- their counts
  pub both_count : length both.vertices ≡ length m.vertices + length (points vs)
  unfolding append
  both_count = length-append m.vertices (points vs)

  pub both_triangles : length both.triangles ≡ length m.triangles + length (tris ts)
  unfolding append
  both_triangles =
      length-append m.triangles (map (map_tri (λ i. i + length m.vertices)) (tris ts))
      ∙ ap (λ (k : ℕ). length m.triangles + k) (length-map (tris ts) (map_tri (λ i. i + length m.vertices)))

  -- all numbers of both are 32-bit numbers
  pub both_words : AllWords (flat m.triangles) → ((i : ℕ) → i < length ts → get_or ts i 0 + length m.vertices < 4294967296)
      → AllWords (flat both.triangles)
  both_words a b =
      subst AllWords (sym both_numbers)
      (words_both (flat m.triangles) (map (λ i. i + length m.vertices) ts) a (raised (length m.vertices) ts b))

  -- where both have room: vertices written behind the vertices, numbers before the numbers
  module _ (room : 8 + 24 * length m.vertices + 8 * length vs + 12 * length m.triangles + 4 * length ts ≤ n - n % 4) where
    abbrev head : Bytes
    head = replicate 8 0 ++ bytes_of_floats (flat_v m.vertices)

    abbrev at : ℕ
    at = 8 + 24 * length m.vertices

    abbrev end : ℕ
    end = n - n % 4 - 12 * length m.triangles

    abbrev left : ℕ
    left = n - n % 4 - byte_count both

    abbrev tail : Bytes
    tail = replicate (n % 4) 0

    abbrev numbers : Bytes
    numbers = bytes_of_words (reverse (flat m.triangles))

    pub head_length : length head ≡ at
    head_length =
        omega
        (arith, length-append (replicate 8 0) (bytes_of_floats (flat_v m.vertices)), length_floats (flat_v m.vertices), length_flat_v m.vertices)

    gap : n - n % 4 - byte_count m ≡ 8 * length vs + (left + 4 * length ts)
    gap = omega (arith, both_count, both_triangles)

    laid_parts : laid_as m n ≡ head ++ (replicate (8 * length vs) 0 ++ replicate (left + 4 * length ts) 0) ++ numbers ++ tail
    unfolding laid_as
    laid_parts =
        ap (λ (x : Bytes). head ++ x ++ numbers ++ tail)
        (ap (λ (k : ℕ). replicate k 0) gap ∙ sym (replicate-append-replicate (8 * length vs) (left + 4 * length ts) 0))

    -- after the vertices
    abbrev pub first : Bytes
    first = take at (laid_as m n) ++ with_floats (length vs) vs (drop at (laid_as m n))

    abbrev middle : Bytes
    middle = replicate left 0 ++ replicate (4 * length ts) 0

    pub first_is : first ≡ head ++ bytes_of_floats vs ++ middle ++ numbers ++ tail
    first_is =
        let zeros : Bytes = replicate (left + 4 * length ts) 0 in
        let whole : Bytes = head ++ (replicate (8 * length vs) 0 ++ zeros) ++ numbers ++ tail in
        let enough : 8 * length vs ≤ length (drop at whole) =
        behind head (replicate (8 * length vs) 0) zeros numbers tail at (8 * length vs) head_length (zeros_length (8 * length vs)) in
        (λ i. take at (laid_parts i) ++ with_floats (length vs) vs (drop at (laid_parts i)))
        ∙ ap (λ (x : Bytes). take at whole ++ x) (put_floats vs (drop at whole) enough)
        ∙ front head (replicate (8 * length vs) 0) zeros numbers tail (bytes_of_floats vs) at (8 * length vs) head_length (zeros_length (8 * length vs))
        ∙ ap (λ (x : Bytes). head ++ bytes_of_floats vs ++ x ++ numbers ++ tail) (sym (replicate-append-replicate left (4 * length ts) 0))

    part_length : (k : ℕ) (x : Bytes) → length x ≡ k → length (head ++ bytes_of_floats vs ++ x) ≡ at + 8 * length vs + k
    part_length k x e =
        omega (arith, head_length, length_floats vs, length-append head (bytes_of_floats vs), length-append (head ++ bytes_of_floats vs) x)

    pub first_length : length first ≡ n
    first_length =
        let mid = length-append {A = ℕ} (replicate left 0) (replicate (4 * length ts) 0) in
        omega (
          arith,
          ap length first_is,
          length-append (head ++ bytes_of_floats vs ++ middle ++ numbers) tail,
          length-append (head ++ bytes_of_floats vs ++ middle) numbers,
          part_length (length middle) middle refl,
          mid,
          zeros_length left,
          zeros_length (4 * length ts),
          zeros_length (n % 4),
          length_words (reverse (flat m.triangles)),
          length-reverse (flat m.triangles),
          length_flat m.triangles,
          both_count,
          both_triangles,
          div-add-mod' n 4,
        )

    -- after the numbers
    pub laid_more : (d : ℕ) → d ≡ end - 4 * length ts
        → take d (take end first) ++ bytes_of_words (reverse (map (λ i. i + length m.vertices) ts)) ++ drop end first ≡ laid_as both n
    unfolding laid_as
    laid_more d e =
        let more : Bytes = bytes_of_words (reverse (map (λ i. i + length m.vertices) ts)) in
        let h = part_length (left + 4 * length ts) middle
        (length-append (replicate left 0) (replicate (4 * length ts) 0) ∙ omega (arith, zeros_length left, zeros_length (4 * length ts))) in
        (λ i. take d (take end (first_is i)) ++ more ++ drop end (first_is i))
        ∙ back head (bytes_of_floats vs) (replicate left 0) (replicate (4 * length ts) 0) numbers tail more end d
        (h ∙ omega (arith, both_count, both_triangles))
        (part_length left (replicate left 0) (zeros_length left) ∙ omega (arith, both_count, both_triangles))
        ∙ ap (λ (x : Bytes). x ++ tail) (append_assoc (head ++ bytes_of_floats vs ++ replicate left 0) more numbers)
        ∙ (λ i. both_vertices i ++ replicate left 0 ++ both_back i ++ tail)
