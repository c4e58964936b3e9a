-- One turn of each loop over a list. Assumes nothing.
use mathlib.Core.Path.{◌≡◌, refl, ap, ◌∙◌}
use mathlib.Core.List.{List, [], ◌∷◌, ◌++◌}
use Prim.Native.Nat.{ℕ, ◌+◌, ◌*◌, ◌<◌}
use native.Mathlib.Numerals.{add-one}
use lib.ListN.{length, take, set, get_or, length-set}
use lib.Seq.{take-suc-set}
use lib.Ieee.{Float, nan, binary64, to_bits}
use Rattle.slice_bytes.specs.Bytes.{word_at, float_at, with_word, with_long}
use Rattle.slice_byte_lists.specs.Lists.{floats_of, words_of, with_floats, with_words}

pub floats_none : (b : List ℕ) (out : List Float) → take 0 out ≡ floats_of 0 b
unfolding floats_of
floats_none b out = refl

pub floats_more : (b : List ℕ) (out : List Float) (i : ℕ) (x : Float)
    → i < length out → take i out ≡ floats_of i b → x ≡ float_at b (8 * i) → take (i + 1) (set out i x) ≡ floats_of (i + 1) b
unfolding floats_of
floats_more b out i x h e p =
    simp add-one (take-suc-set out i x h ∙ ap (λ (r : List Float). r ++ (x ∷ [])) e ∙ ap (λ (y : Float). floats_of i b ++ (y ∷ [])) p)

pub words_none : (b out : List ℕ) → take 0 out ≡ words_of 0 b
unfolding words_of
words_none b out = refl

pub words_more : (b out : List ℕ) (i x : ℕ) → i < length out → take i out ≡ words_of i b → x ≡ word_at b (4 * i) → take (i + 1) (set out i x) ≡ words_of (i + 1) b
unfolding words_of
words_more b out i x h e p =
    simp add-one (take-suc-set out i x h ∙ ap (λ (r : List ℕ). r ++ (x ∷ [])) e ∙ ap (λ (y : ℕ). words_of i b ++ (y ∷ [])) p)

pub with_floats_none : (v : List Float) (b : List ℕ) → b ≡ with_floats 0 v b
unfolding with_floats
with_floats_none v b = refl

pub with_floats_more : (v : List Float) (b₀ b r : List ℕ) (i : ℕ) → b ≡ with_floats i v b₀ → r ≡ with_long b (8 * i) (to_bits binary64 (get_or v i nan)) → r ≡ with_floats (i + 1) v b₀
unfolding with_floats
with_floats_more v b₀ b r i e p = simp add-one (p ∙ ap (λ (x : List ℕ). with_long x (8 * i) (to_bits binary64 (get_or v i nan))) e)

pub with_words_none : (v b : List ℕ) → b ≡ with_words 0 v b
unfolding with_words
with_words_none v b = refl

pub with_words_more : (v b₀ b r : List ℕ) (i : ℕ) → b ≡ with_words i v b₀ → r ≡ with_word b (4 * i) (get_or v i 0) → r ≡ with_words (i + 1) v b₀
unfolding with_words
with_words_more v b₀ b r i e p = simp add-one (p ∙ ap (λ (x : List ℕ). with_word x (4 * i) (get_or v i 0)) e)

pub with_word_length : (b : List ℕ) (at w : ℕ) → length (with_word b at w) ≡ length b
unfolding with_word
with_word_length b at w = simp length-set

pub with_long_length : (b : List ℕ) (at w : ℕ) → length (with_long b at w) ≡ length b
unfolding with_long
with_long_length b at w = with_word_length _ _ _ ∙ with_word_length b at w
