-- One turn of the loop that writes numbers from the end towards the start, and its end. Assumes nothing.
use mathlib.Core.Path.{◌≡◌, sym, ap, ◌∙◌}
use mathlib.Core.List.{List, [], ◌∷◌, ◌++◌, map, reverse, append_assoc, append-nil, reverse-append}
use Prim.Native.Nat.{ℕ, ◌+◌, ◌≤◌, ◌<◌}
use native.Mathlib.Numerals.{add-one}
use native.Mathlib.Omega.{arith}
use lib.ListN.{length, take, drop, get_or, length-append, length-drop}
use lib.Seq.{take-add, take-suc, take_all, drop_at, length-take-le}
use Rattle.slice_law.specs.Lists.{map_append}
use Rattle.slice_bytes.specs.Bytes.{with_word, word_bytes}
use Rattle.slice_byte_lists.specs.Lists.{bytes_of_words}
use Rattle.slice_bytes_law.specs.Words.{put_word_behind}

-- the bytes of the numbers of v, each raised by base, the first number last
unfoldable pub backwards : List ℕ → ℕ → List ℕ
backwards v base = bytes_of_words (reverse (map (λ i. i + base) v))

-- the bytes after the first i numbers have been written before the end, where at is the place of the last that was written
abbrev pub Written : List ℕ → ℕ → List ℕ → List ℕ → ℕ → ℕ → Type 0
Written v base b₀ b at i = b ≡ take at b₀ ++ backwards (take i v) base

pub none_written : (v : List ℕ) (base : ℕ) (b : List ℕ) → Written v base b b (length b) 0
unfolding backwards bytes_of_words
none_written v base b = sym (append-nil (take (length b) b) ∙ take_all (length b) b (omega arith))

one_more : (v : List ℕ) (base i : ℕ) → i < length v → backwards (take (i + 1) v) base ≡ word_bytes (get_or v i 0 + base) ++ backwards (take i v) base
unfolding backwards bytes_of_words
one_more v base i h =
    let f : ℕ → ℕ = λ x. x + base in
    ap (λ (l : List ℕ). bytes_of_words (reverse (map f l))) (ap (λ (n : ℕ). take n v) (add-one i) ∙ take-suc v i 0 h)
    ∙ ap (λ (l : List ℕ). bytes_of_words (reverse l)) (map_append f (take i v) (get_or v i 0 ∷ []))
    ∙ ap bytes_of_words (reverse-append (map f (take i v)) (f (get_or v i 0) ∷ []))

pub more_written : (v : List ℕ) (base : ℕ) (b₀ b r : List ℕ) (at to i : ℕ) → i < length v → to + 4 ≡ at → at ≤ length b₀
    → Written v base b₀ b at i → r ≡ with_word b to (get_or v i 0 + base) → Written v base b₀ r to (i + 1)
more_written v base b₀ b r at to i h e k w p =
    let x = get_or v i 0 + base in
    let q : List ℕ = take to b₀ in
    let f : List ℕ = take 4 (drop to b₀) in
    let z : List ℕ = backwards (take i v) base in
    let l : length f ≡ 4 = length-take-le 4 (drop to b₀) (omega (arith, length-drop to b₀)) in
    let s : b ≡ q ++ (f ++ z) = w ∙ ap (λ (n : ℕ). take n b₀ ++ z) (sym e) ∙ ap (λ (u : List ℕ). u ++ z) (take-add to 4 b₀) ∙ append_assoc q f z in
    p ∙ ap (λ (u : List ℕ). with_word u to x) s
    ∙ put_word_behind q (f ++ z) to x (length-take-le to b₀ (omega arith)) (omega (arith, length-append f z))
    ∙ ap (λ (u : List ℕ). q ++ word_bytes x ++ u) (drop_at f z 4 l)
    ∙ append_assoc q (word_bytes x) z ∙ ap (λ (u : List ℕ). q ++ u) (sym (one_more v base i h))

pub all_written : (v : List ℕ) (base : ℕ) (b₀ b : List ℕ) (at to i : ℕ) → length v ≤ i → at ≡ to
    → Written v base b₀ b at i → b ≡ take to b₀ ++ bytes_of_words (reverse (map (λ x. x + base) v))
unfolding backwards
all_written v base b₀ b at to i h e w =
    w ∙ ap (λ (l : List ℕ). take at b₀ ++ backwards l base) (take_all i v h) ∙ ap (λ (n : ℕ). take n b₀ ++ backwards v base) e
