-- The mesh that a reader finds in the planner's bytes is the mesh that was written. Assumes nothing.
use Rattle.std.specs.Prelude.{◌≡◌, refl, ◌&&◌, ℕ, ◌+◌, ◌*◌, ◌-◌, ◌≤◌, ◌<◌, length, drop, replicate, Float}
use Rattle.std.proofs.Common.{ap, ◌∙◌, arith, length-append, drop_at, ltb→lt}
use mathlib.Core.List.{List, [], ◌∷◌, ◌++◌, append_assoc}
use Rattle.std.proofs.Math.Dec.{T, ltb}
use Rattle.std.specs.Float.Ieee.Fits.{and_l, and_r}
use Rattle.math.specs.declared.Vec3.{Vec3}
use Rattle.slice_bytes.specs.Bytes.{word_at, word_bytes}
use Rattle.slice_byte_lists.specs.Lists.{floats_of, words_of, bytes_of_floats, bytes_of_words}
use Rattle.slice_bytes_law.specs.Words.{length_word, word_back}
use Rattle.slice_bytes_law.specs.Lists.{AllWords, words_back}
use Rattle.slice_bytes_law.specs.Floats.{AllFit, length_floats, floats_back}
use Rattle.mesh_balance_spec.specs.Soup.{Tri}
use Rattle.mesh_balance_spec.specs.Buffer.{flat, tris, tris_flat, length_flat}
use Rattle.mesh_spec.specs.Mesh.{Mesh}
use Rattle.mesh_spec.specs.Closed.{all_of, below, AllThere}
use Rattle.mesh_spec.specs.Slices.{flat_v, points}
use Rattle.mesh_spec.specs.SliceLaws.{points_flat_v, length_flat_v}
use Rattle.fixture_spec.specs.Output.{bytes_of, mesh_in}
use Rattle.fixture_spec.specs.Outcome.{output_of}

-- ---- triangles whose vertices are there

module _ (n : ℕ) (small : n ≤ 4294967296) where
  named : (i : ℕ) → T (ltb i n) → i < 4294967296
  named i h = omega (arith, ltb→lt i n h)

  numbers_small : (ts : List (Tri ℕ)) → T (all_of (below n) ts) → AllWords (flat ts)
  unfolding all_of
  numbers_small [] h = tt
  numbers_small (t ∷ ts) h =
      let a = ltb t.0 n in
      let b = ltb t.1 n in
      let c = ltb t.2 n in
      let s : T (a && b && c) = and_l (a && b && c) (all_of (below n) ts) h in
      let ab : T (a && b) = and_l (a && b) c s in
      let rest = numbers_small ts (and_r (a && b && c) (all_of (below n) ts) h) in
      (named t.0 (and_l a b ab), (named t.1 (and_r a b ab), (named t.2 (and_r (a && b) c s), rest)))

-- their numbers are of 32 bits, where the vertices can be counted in 32 bits
pub there_small : (m : Mesh) → length m.vertices < 4294967296 → AllThere m → AllWords (flat m.triangles)
there_small m l h = numbers_small (length m.vertices) (omega arith) m.triangles h

-- ---- the four parts of the bytes

-- two counts, floats and numbers, and whatever follows them
abbrev laid : ℕ → ℕ → List Float → List ℕ → List ℕ → List ℕ
laid v t xs ws q = word_bytes v ++ word_bytes t ++ bytes_of_floats xs ++ bytes_of_words ws ++ q

module _ (v t : ℕ) (xs : List Float) (ws q : List ℕ) where
  first_count : v < 4294967296 → word_at (laid v t xs ws q) 0 ≡ v
  first_count h =
      let r : List ℕ = word_bytes t ++ (bytes_of_floats xs ++ (bytes_of_words ws ++ q)) in
      let e : laid v t xs ws q ≡ word_bytes v ++ r = simp append_assoc in
      ap (λ (l : List ℕ). word_at l 0) e ∙ word_back [] v r 0 refl h

  second_count : t < 4294967296 → word_at (laid v t xs ws q) 4 ≡ t
  second_count h =
      let r : List ℕ = bytes_of_floats xs ++ (bytes_of_words ws ++ q) in
      let e : laid v t xs ws q ≡ word_bytes v ++ word_bytes t ++ r = simp append_assoc in
      ap (λ (l : List ℕ). word_at l 4) e ∙ word_back (word_bytes v) t r 4 (length_word v) h

  counts_length : length (word_bytes v ++ word_bytes t) ≡ 8
  counts_length = length-append (word_bytes v) (word_bytes t) ∙ omega (arith, length_word v, length_word t)

  behind_counts : drop 8 (laid v t xs ws q) ≡ bytes_of_floats xs ++ (bytes_of_words ws ++ q)
  behind_counts =
      let r : List ℕ = bytes_of_floats xs ++ (bytes_of_words ws ++ q) in
      let e : laid v t xs ws q ≡ word_bytes v ++ word_bytes t ++ r = simp append_assoc in
      ap (drop 8) e ∙ drop_at (word_bytes v ++ word_bytes t) r 8 counts_length

  behind_floats : (n : ℕ) → 8 + 8 * length xs ≡ n → drop n (laid v t xs ws q) ≡ bytes_of_words ws ++ q
  behind_floats n k =
      let p : List ℕ = word_bytes v ++ word_bytes t ++ bytes_of_floats xs in
      let e : laid v t xs ws q ≡ p ++ (bytes_of_words ws ++ q) = append_assoc p (bytes_of_words ws) q in
      let l = length-append (word_bytes v ++ word_bytes t) (bytes_of_floats xs) in
      ap (drop n) e ∙ drop_at p (bytes_of_words ws ++ q) n (l ∙ omega (arith, counts_length, length_floats xs))

-- ---- the mesh

-- a mesh that the planner's bytes can hold: counts and vertex numbers of 32 bits, floats of 64
pub record Writable (m : Mesh) : Type 0 where
  pub vertices : length m.vertices < 4294967296
  pub triangles : length m.triangles < 4294967296
  pub floats : AllFit (flat_v m.vertices)
  pub numbers : AllWords (flat m.triangles)

-- whatever follows the bytes
pub read_back_before : (m : Mesh) (q : List ℕ) → Writable m → mesh_in (bytes_of m ++ q) ≡ m
unfolding mesh_in bytes_of
read_back_before m q w =
    let v = length m.vertices in
    let t = length m.triangles in
    let xs : List Float = flat_v m.vertices in
    let ws : List ℕ = flat m.triangles in
    let b : List ℕ = laid v t xs ws q in
    let first = first_count v t xs ws q w.vertices in
    let floats : 3 * word_at b 0 ≡ length xs = omega (arith, first, length_flat_v m.vertices) in
    let words : 3 * word_at b 4 ≡ length ws = omega (arith, second_count v t xs ws q w.triangles, length_flat m.triangles) in
    let before : 8 + 8 * length xs ≡ 8 + 24 * word_at b 0 = omega (arith, first, length_flat_v m.vertices) in
    let vs : points (floats_of (3 * word_at b 0) (drop 8 b)) ≡ m.vertices =
    ap {B = List Vec3} points ((λ i. floats_of (floats i) (behind_counts v t xs ws q i)) ∙ floats_back xs (bytes_of_words ws ++ q) w.floats)
    ∙ points_flat_v m.vertices in
    let ts : tris (words_of (3 * word_at b 4) (drop (8 + 24 * word_at b 0) b)) ≡ m.triangles =
    ap {B = List (Tri ℕ)} tris ((λ i. words_of (words i) (behind_floats v t xs ws q (8 + 24 * word_at b 0) before i)) ∙ words_back ws q w.numbers)
    ∙ tris_flat m.triangles in
    λ i. record { vertices = vs i; triangles = ts i }

-- and with the zeros of an output of n bytes
pub read_back : (m : Mesh) (n : ℕ) → Writable m → mesh_in (output_of m n) ≡ m
unfolding output_of
read_back m n w = read_back_before m (replicate (n - length (bytes_of m)) 0) w
