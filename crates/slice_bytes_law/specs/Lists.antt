-- Lists of 32-bit numbers in bytes. Assumes nothing.
use Rattle.std.specs.Prelude.{◌≡◌, refl, List, [], ◌∷◌, ◌++◌, ℕ, zero, suc, ◌+◌, ◌*◌, ◌/◌, ◌%◌, ◌≤◌, ◌<◌, length, take, drop, get_or, replicate}
use Rattle.std.proofs.Common.{sym, ap, ◌∙◌, append_assoc, arith, length-append, length-drop, take-append-drop, drop_at, get_or-drop}
use Rattle.std.proofs.lemmas.List.{replicate-append-replicate}
use Rattle.slice_bytes.specs.Bytes.{word_at, word_bytes}
use Rattle.slice_byte_lists.specs.Lists.{words_of, bytes_of_words}
use Rattle.slice_bytes_law.specs.Words.{length_word, word_back, word_drop}

-- ---- the bytes of a list of numbers
pub length_words : (ws : List ℕ) → length (bytes_of_words ws) ≡ 4 * length ws
unfolding bytes_of_words
length_words [] = refl
length_words (w ∷ ws) = length-append (word_bytes w) (bytes_of_words ws) ∙ omega (arith, length_word w, length_words ws)

pub words_append : (us vs : List ℕ) → bytes_of_words (us ++ vs) ≡ bytes_of_words us ++ bytes_of_words vs
unfolding bytes_of_words
words_append [] vs = refl
words_append (u ∷ us) vs = ap (λ (l : List ℕ). word_bytes u ++ l) (words_append us vs) ∙ sym (append_assoc (word_bytes u) (bytes_of_words us) (bytes_of_words vs))

zero_word : word_bytes 0 ≡ replicate 4 0
unfolding word_bytes
zero_word = refl

pub zero_words : (k : ℕ) → bytes_of_words (replicate k 0) ≡ replicate (4 * k) 0
unfolding bytes_of_words
zero_words zero = refl
zero_words (suc k) =
    let e : 4 + 4 * k ≡ 4 * suc k = omega arith in
    (λ i. zero_word i ++ zero_words k i) ∙ replicate-append-replicate 4 (4 * k) 0 ∙ ap (λ (n : ℕ). replicate n 0) e

-- ---- numbers that are read from bytes
pub length_words_of : (n : ℕ) (b : List ℕ) → length (words_of n b) ≡ n
unfolding words_of
length_words_of zero b = refl
length_words_of (suc n) b = length-append (words_of n b) (word_at b (4 * n) ∷ []) ∙ omega (arith, length_words_of n b)

-- the first number stands first
pub words_cons : (n : ℕ) (b : List ℕ) → words_of (suc n) b ≡ word_at b 0 ∷ words_of n (drop 4 b)
unfolding words_of
words_cons zero b = refl
words_cons (suc n) b =
    let e : 4 + 4 * n ≡ 4 * suc n = omega arith in
    ap (λ (l : List ℕ). l ++ (word_at b (4 * suc n) ∷ [])) (words_cons n b)
    ∙ ap (λ (w : ℕ). word_at b 0 ∷ (words_of n (drop 4 b) ++ (w ∷ []))) (ap (word_at b) (sym e) ∙ sym (word_drop 4 (4 * n) b))

-- the number at an index
pub words_at : (n : ℕ) (b : List ℕ) (i : ℕ) → i < n → get_or (words_of n b) i 0 ≡ word_at b (4 * i)
words_at zero b i h = absurd (omega arith)
words_at (suc n) b zero h = ap (λ (l : List ℕ). get_or l 0 0) (words_cons n b)
words_at (suc n) b (suc i) h =
    let e : 4 + 4 * i ≡ 4 * suc i = omega arith in
    ap (λ (l : List ℕ). get_or l (suc i) 0) (words_cons n b) ∙ words_at n (drop 4 b) i (omega arith) ∙ word_drop 4 (4 * i) b ∙ ap (word_at b) e

-- each is a 32-bit number
abbrev pub AllWords : List ℕ → Type 0
AllWords [] = Unit
AllWords (w ∷ ws) = (w < 4294967296) × AllWords ws

-- 32-bit numbers are read back from their bytes
pub words_back : (ws q : List ℕ) → AllWords ws → words_of (length ws) (bytes_of_words ws ++ q) ≡ ws
unfolding bytes_of_words words_of
words_back [] q h = refl
words_back (w ∷ ws) q h =
    let e : bytes_of_words (w ∷ ws) ++ q ≡ word_bytes w ++ (bytes_of_words ws ++ q) = append_assoc (word_bytes w) (bytes_of_words ws) q in
    let r : List ℕ = bytes_of_words ws ++ q in
    ap (words_of (suc (length ws))) e ∙ words_cons (length ws) (word_bytes w ++ r)
    ∙ ap (λ (x : ℕ). x ∷ words_of (length ws) (drop 4 (word_bytes w ++ r))) (word_back [] w r 0 refl h.0)
    ∙ ap (λ (l : List ℕ). w ∷ words_of (length ws) l) (drop_at (word_bytes w) r 4 (length_word w))
    ∙ ap (λ (l : List ℕ). w ∷ l) (words_back ws q h.1)

low : (s x r : ℕ) → s ≡ x + 256 * r → x < 256 → s % 256 ≡ x
low s x r e h = omega arith

-- four bytes are the bytes of the number that they add up to
four : (x y z t s : ℕ) → s ≡ x + 256 * y + 65536 * z + 16777216 * t → x < 256 → y < 256 → z < 256 → t < 256 → word_bytes s ≡ x ∷ y ∷ z ∷ t ∷ []
unfolding word_bytes
four x y z t s e p q r u =
    let a = low s x (y + 256 * z + 65536 * t) (omega arith) p in
    let b = low (s / 256) y (z + 256 * t) (omega arith) q in
    let c = low (s / 65536) z t (omega arith) r in
    let d = low (s / 16777216) t 0 (omega arith) u in
    λ i. a i ∷ b i ∷ c i ∷ d i ∷ []

first_word : (b : List ℕ) → 4 ≤ length b → ((i : ℕ) → i < length b → get_or b i 0 < 256) → word_bytes (word_at b 0) ≡ take 4 b
unfolding word_at
first_word [] l h = absurd (omega arith)
first_word (x ∷ []) l h = absurd (omega arith)
first_word (x ∷ y ∷ []) l h = absurd (omega arith)
first_word (x ∷ y ∷ z ∷ []) l h = absurd (omega arith)
first_word (x ∷ y ∷ z ∷ t ∷ q) l h =
    four x y z t (word_at (x ∷ y ∷ z ∷ t ∷ q) 0) refl (h 0 (omega arith)) (h 1 (omega arith)) (h 2 (omega arith)) (h 3 (omega arith))

-- the bytes of the numbers that are read from bytes are those bytes
pub words_of_bytes : (m : ℕ) (b : List ℕ) → length b ≡ 4 * m → ((i : ℕ) → i < length b → get_or b i 0 < 256) → bytes_of_words (words_of m b) ≡ b
unfolding bytes_of_words words_of
words_of_bytes zero [] e h = refl
words_of_bytes zero (x ∷ b) e h = absurd (omega arith)
words_of_bytes (suc m) b e h =
    let rest = words_of_bytes m (drop 4 b) (length-drop 4 b ∙ omega arith) (λ i l. rw get_or-drop (h (4 + i) (omega (arith, length-drop 4 b)))) in
    ap bytes_of_words (words_cons m b) ∙ (λ i. first_word b (omega arith) h i ++ rest i) ∙ take-append-drop 4 b
