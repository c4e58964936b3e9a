-- Numbers that are exchanged pair by pair from the two ends, until the rest is one number or all zero. Assumes nothing.
use mathlib.Core.Path.{◌≡◌, refl, sym, ap, ◌∙◌}
use mathlib.Core.Logic.{◌≢◌, ◌⊎◌, inl, inr}
use mathlib.Core.List.{List, [], ◌∷◌, reverse, reverse-cons}
use Prim.Native.Nat.{ℕ, zero, suc, ◌+◌, ◌-◌, ◌*◌, ◌/◌, ◌≤◌, ◌<◌, min}
use native.Mathlib.Nat.{eq-zero-or-pos, eq-or-lt_of_le}
use native.Mathlib.Omega.{arith}
use lib.ListN.{length, take, get_or, replicate, length-reverse, get_or-replicate, get_or-append}
use lib.Seq.{ext_get_or, get_or-take, get_or_at}
use Rattle.slice_bytes.specs.Bytes.{word_at, with_word}
use Rattle.slice_byte_lists.specs.Lists.{words_of, bytes_of_words}
use Rattle.slice_byte_turn.specs.Turn.{ZeroBefore, exchanged}
use Rattle.slice_bytes_law.specs.Words.{word_same, word_other, length_with_word}
use Rattle.slice_bytes_law.specs.Lists.{words_at, length_words_of, words_of_bytes}

-- every place holds a byte
abbrev pub Bytes : List ℕ → Type 0
Bytes b = (i : ℕ) → i < length b → get_or b i 0 < 256

-- the first i and the last i of m numbers have changed places, and the others stand where they stood
pub record Turned (b₀ b : List ℕ) (m i : ℕ) : Type 0 where
  pub front : (j k : ℕ) → j + k + 1 ≡ m → j < i → word_at b (4 * j) ≡ word_at b₀ (4 * k)
  pub back : (j k : ℕ) → j + k + 1 ≡ m → k < i → word_at b (4 * j) ≡ word_at b₀ (4 * k)
  pub middle : (j : ℕ) → i ≤ j → j + i < m → word_at b (4 * j) ≡ word_at b₀ (4 * j)

pub none_turned : (b : List ℕ) (m : ℕ) → Turned b b m 0
none_turned b m = record { front = λ j k e h. absurd (omega arith); back = λ j k e h. absurd (omega arith); middle = λ j h l. refl }

-- ---- one pair
word_below : (b : List ℕ) (at : ℕ) → Bytes b → at + 4 ≤ length b → word_at b at < 4294967296
unfolding word_at
word_below b at h l = omega (arith, h at (omega arith), h (at + 1) (omega arith), h (at + 2) (omega arith), h (at + 3) (omega arith))

pub length_exchanged : (b : List ℕ) (i j : ℕ) → length (exchanged b i j) ≡ length b
unfolding exchanged
length_exchanged b i j =
    length_with_word (with_word b (4 * i) (word_at b (4 * j))) (4 * j) (word_at b (4 * i)) ∙ length_with_word b (4 * i) (word_at b (4 * j))

module _ (b : List ℕ) (i k : ℕ) (bytes : Bytes b) (less : i < k) (within : 4 * k + 4 ≤ length b) where
  at_first : word_at (exchanged b i k) (4 * i) ≡ word_at b (4 * k)
  unfolding exchanged
  at_first =
      word_other (with_word b (4 * i) (word_at b (4 * k))) k i (word_at b (4 * i)) (λ e. omega arith)
      ∙ word_same b (4 * i) (word_at b (4 * k)) (omega arith) (word_below b (4 * k) bytes within)

  at_second : word_at (exchanged b i k) (4 * k) ≡ word_at b (4 * i)
  unfolding exchanged
  at_second =
      word_same (with_word b (4 * i) (word_at b (4 * k))) (4 * k) (word_at b (4 * i))
      (omega (arith, length_with_word b (4 * i) (word_at b (4 * k)))) (word_below b (4 * i) bytes (omega arith))

  at_other : (j : ℕ) → i ≢ j → k ≢ j → word_at (exchanged b i k) (4 * j) ≡ word_at b (4 * j)
  unfolding exchanged
  at_other j p q = word_other (with_word b (4 * i) (word_at b (4 * k))) k j (word_at b (4 * i)) q ∙ word_other b i j (word_at b (4 * k)) p

  -- the next pair from the ends is exchanged
  pub one_turned : (b₀ : List ℕ) (m : ℕ) → i + k + 1 ≡ m → Turned b₀ b m i → Turned b₀ (exchanged b i k) m (i + 1)
  one_turned b₀ m e t = record { front = front_next; back = back_next; middle = middle_next }
    where
      front_by : (j l : ℕ) → j + l + 1 ≡ m → (j ≡ i) ⊎ (j < i) → word_at (exchanged b i k) (4 * j) ≡ word_at b₀ (4 * l)
      front_by j l f (inl q) =
          let r : k ≡ l = omega arith in
          ap (λ (n : ℕ). word_at (exchanged b i k) (4 * n)) q ∙ at_first ∙ t.middle k (omega arith) (omega arith) ∙ ap (λ (n : ℕ). word_at b₀ (4 * n)) r
      front_by j l f (inr h) = at_other j (λ p. omega arith) (λ p. omega arith) ∙ t.front j l f h

      back_by : (j l : ℕ) → j + l + 1 ≡ m → (l ≡ i) ⊎ (l < i) → word_at (exchanged b i k) (4 * j) ≡ word_at b₀ (4 * l)
      back_by j l f (inl q) =
          let r : j ≡ k = omega arith in
          ap (λ (n : ℕ). word_at (exchanged b i k) (4 * n)) r ∙ at_second ∙ t.middle i (omega arith) (omega arith) ∙ ap (λ (n : ℕ). word_at b₀ (4 * n)) (sym q)
      back_by j l f (inr h) = at_other j (λ p. omega arith) (λ p. omega arith) ∙ t.back j l f h

      front_next : (j l : ℕ) → j + l + 1 ≡ m → j < i + 1 → word_at (exchanged b i k) (4 * j) ≡ word_at b₀ (4 * l)
      front_next j l f h = front_by j l f (eq-or-lt_of_le (omega arith))

      back_next : (j l : ℕ) → j + l + 1 ≡ m → l < i + 1 → word_at (exchanged b i k) (4 * j) ≡ word_at b₀ (4 * l)
      back_next j l f h = back_by j l f (eq-or-lt_of_le (omega arith))

      middle_next : (j : ℕ) → i + 1 ≤ j → j + (i + 1) < m → word_at (exchanged b i k) (4 * j) ≡ word_at b₀ (4 * j)
      middle_next j h l = at_other j (λ p. omega arith) (λ p. omega arith) ∙ t.middle j (omega arith) (omega arith)

-- ---- the end
less_or_not : (m n : ℕ) → (m < n) ⊎ (n ≤ m)
less_or_not m n = by (eq-zero-or-pos (n - m))
  where
    by : (n - m ≡ 0) ⊎ (0 < n - m) → (m < n) ⊎ (n ≤ m)
    by (inl e) = inr (omega arith)
    by (inr h) = inl (omega arith)

get_d_reverse : (l : List ℕ) (j k : ℕ) → j + k + 1 ≡ length l → get_or (reverse l) j 0 ≡ get_or l k 0
get_d_reverse [] j k e = absurd (omega arith)
get_d_reverse (x ∷ l) j zero e =
    ap (λ (r : List ℕ). get_or r j 0) (reverse-cons x l) ∙ get_or_at (reverse l) x [] 0 j (length-reverse l ∙ omega arith)
get_d_reverse (x ∷ l) j (suc k) e =
    ap (λ (r : List ℕ). get_or r j 0) (reverse-cons x l)
    ∙ get_or-append (reverse l) (x ∷ []) 0 j (omega (arith, length-reverse l)) ∙ get_d_reverse l j k (omega arith)

byte_zero : (b : List ℕ) (z i : ℕ) → take z b ≡ replicate z 0 → i < z → get_or b i 0 ≡ 0
byte_zero b z i e h = sym (get_or-take z b i 0 h) ∙ ap (λ (l : List ℕ). get_or l i 0) e ∙ get_or-replicate z i 0 0 h

word_zero : (b : List ℕ) (z at : ℕ) → take z b ≡ replicate z 0 → at + 4 ≤ z → word_at b at ≡ 0
unfolding word_at
word_zero b z at e h =
    let none : (i : ℕ) → i < z → get_or b i 0 ≡ 0 = λ i l. byte_zero b z i e l in
    omega (arith, none at (omega arith), none (at + 1) (omega arith), none (at + 2) (omega arith), none (at + 3) (omega arith))

module _ (b₀ b : List ℕ) (m n i : ℕ) (whole : 4 * m ≡ length b₀) (stop : i ≡ min n (m / 2)) (pre : ZeroBefore b₀ n) (t : Turned b₀ b m i) where
  -- two numbers as far from the two ends, with neither exchanged: they are one number, or both zero
  alike : (j k : ℕ) → j + k + 1 ≡ m → i ≤ j → i ≤ k → word_at b₀ (4 * j) ≡ word_at b₀ (4 * k)
  alike j k e p q = by (less_or_not n (m / 2))
    where
      by : (n < m / 2) ⊎ (m / 2 ≤ n) → word_at b₀ (4 * j) ≡ word_at b₀ (4 * k)
      by (inl h) =
          let z = length b₀ - 4 * n in
          word_zero b₀ z (4 * j) pre.zeros (omega arith) ∙ sym (word_zero b₀ z (4 * k) pre.zeros (omega arith))
      by (inr h) =
          let r : j ≡ k = omega arith in
          ap (λ (x : ℕ). word_at b₀ (4 * x)) r

  across : (j k : ℕ) → j + k + 1 ≡ m → word_at b (4 * j) ≡ word_at b₀ (4 * k)
  across j k e = by (less_or_not j i) (less_or_not k i)
    where
      by : (j < i) ⊎ (i ≤ j) → (k < i) ⊎ (i ≤ k) → word_at b (4 * j) ≡ word_at b₀ (4 * k)
      by (inl h) l = t.front j k e h
      by (inr h) (inl l) = t.back j k e l
      by (inr h) (inr l) = t.middle j h (omega arith) ∙ alike j k e h l

  turned : words_of m b ≡ reverse (words_of m b₀)
  turned = ext_get_or 0 (words_of m b) (reverse (words_of m b₀)) same at
    where
      same : length (words_of m b) ≡ length (reverse (words_of m b₀))
      same = length_words_of m b ∙ sym (length-reverse (words_of m b₀) ∙ length_words_of m b₀)

      at : (j : ℕ) → j < length (words_of m b) → get_or (words_of m b) j 0 ≡ get_or (reverse (words_of m b₀)) j 0
      at j h =
          let l : j < m = omega (arith, length_words_of m b) in
          let k = m - 1 - j in
          words_at m b j l ∙ across j k (omega arith) ∙ sym (words_at m b₀ k (omega arith))
          ∙ sym (get_d_reverse (words_of m b₀) j k (omega (arith, length_words_of m b₀)))

  pub all_turned : length b ≡ length b₀ → Bytes b → b ≡ bytes_of_words (reverse (words_of m b₀))
  all_turned e h = sym (words_of_bytes m b (e ∙ sym whole) h) ∙ ap bytes_of_words turned
