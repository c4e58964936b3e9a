-- 64-bit numbers and floats in a list of bytes: what is written, and that it is read back. Assumes nothing.
use Rattle.std.specs.Prelude.{◌≡◌, refl, List, [], ◌∷◌, ◌++◌, ℕ, zero, suc, ◌+◌, ◌*◌, ◌/◌, ◌≤◌, ◌<◌, T, Float, length, take, drop, get_or}
use Rattle.std.proofs.Common.{sym, ap, ◌∙◌, append_assoc, append-nil, le_refl, add_assoc, arith, length-append, length-drop, drop_at, drop-drop, take-suc, length-take-le}
use Rattle.std.specs.Float.{binary64, nan}
use Rattle.std.specs.Float.Ieee.{to_bits, of_bits, fits}
use Rattle.std.specs.Float.Ieee.Bits.{of_bits-to_bits, to_bits-lt}
use Rattle.std.proofs.Math.Seq.{take-length}
use Rattle.slice_bytes.specs.Bytes.{word_at, long_at, float_at, with_word, with_long, word_bytes, long_bytes}
use Rattle.slice_byte_lists.specs.Lists.{floats_of, with_floats, bytes_of_floats}
use Rattle.slice_bytes_law.specs.Words.{length_word, low_back, word_drop, put_word_behind}

-- ---- one 64-bit number
pub length_long : (w : ℕ) → length (long_bytes w) ≡ 8
unfolding long_bytes
length_long w = length-append (word_bytes w) (word_bytes (w / 4294967296)) ∙ omega (arith, length_word w, length_word (w / 4294967296))

-- a 64-bit number that is written behind a list replaces eight bytes
pub put_long_behind : (p r : List ℕ) (n w : ℕ) → length p ≡ n → 8 ≤ length r → with_long (p ++ r) n w ≡ p ++ long_bytes w ++ drop 8 r
unfolding with_long long_bytes
put_long_behind p r n w e h =
    let u = w / 4294967296 in
    let q : List ℕ = p ++ word_bytes w in
    ap (λ (l : List ℕ). with_word l (n + 4) u) (put_word_behind p r n w e (omega arith))
    ∙ put_word_behind q (drop 4 r) (n + 4) u (length-append p (word_bytes w) ∙ omega (arith, length_word w)) (omega (arith, length-drop 4 r))
    ∙ (λ i. append_assoc p (word_bytes w) (word_bytes u) i ++ drop-drop 4 4 r i)

-- a 64-bit number is read back
pub long_back : (w : ℕ) (q : List ℕ) → w < 18446744073709551616 → long_at (long_bytes w ++ q) 0 ≡ w
unfolding long_at long_bytes
long_back w q h =
    let u = w / 4294967296 in
    let low = ap (λ (l : List ℕ). word_at l 0) (append_assoc (word_bytes w) (word_bytes u) q) ∙ low_back [] w (word_bytes u ++ q) 0 refl in
    let high = low_back (word_bytes w) u q 4 (length_word w) in
    omega (arith, low, high)

pub long_drop : (n at : ℕ) (b : List ℕ) → long_at (drop n b) at ≡ long_at b (n + at)
unfolding long_at
long_drop n at b = simp (add_assoc, word_drop)

-- ---- the bytes of a list of floats
pub length_floats : (xs : List Float) → length (bytes_of_floats xs) ≡ 8 * length xs
unfolding bytes_of_floats
length_floats [] = refl
length_floats (x ∷ xs) = length-append (long_bytes (to_bits binary64 x)) (bytes_of_floats xs) ∙ omega (arith, length_long (to_bits binary64 x), length_floats xs)

pub floats_append : (us vs : List Float) → bytes_of_floats (us ++ vs) ≡ bytes_of_floats us ++ bytes_of_floats vs
unfolding bytes_of_floats
floats_append [] vs = refl
floats_append (u ∷ us) vs =
    ap (λ (l : List ℕ). long_bytes (to_bits binary64 u) ++ l) (floats_append us vs)
    ∙ sym (append_assoc (long_bytes (to_bits binary64 u)) (bytes_of_floats us) (bytes_of_floats vs))

put_first : (n : ℕ) (v : List Float) (b : List ℕ) → n ≤ length v → 8 * n ≤ length b → with_floats n v b ≡ bytes_of_floats (take n v) ++ drop (8 * n) b
unfolding with_floats bytes_of_floats
put_first zero v b h l = refl
put_first (suc n) v b h l =
    let x = get_or v n nan in
    let w = to_bits binary64 x in
    let p : List ℕ = bytes_of_floats (take n v) in
    let e : 8 * n + 8 ≡ 8 * suc n = omega arith in
    let k : length p ≡ 8 * n = length_floats (take n v) ∙ ap (λ (j : ℕ). 8 * j) (length-take-le n v (omega arith)) in
    let f : bytes_of_floats (take (suc n) v) ≡ p ++ long_bytes w =
    ap bytes_of_floats (take-suc v n nan h) ∙ floats_append (take n v) (x ∷ []) ∙ ap (λ (r : List ℕ). p ++ r) (append-nil (long_bytes w)) in
    ap (λ (r : List ℕ). with_long r (8 * n) w) (put_first n v b (omega arith) (omega arith))
    ∙ put_long_behind p (drop (8 * n) b) (8 * n) w k (omega (arith, length-drop (8 * n) b))
    ∙ (λ i. sym f i ++ (drop-drop 8 (8 * n) b ∙ ap (λ (j : ℕ). drop j b) e) i)

-- floats that are written from the start on
pub put_floats : (v : List Float) (b : List ℕ) → 8 * length v ≤ length b → with_floats (length v) v b ≡ bytes_of_floats v ++ drop (8 * length v) b
put_floats v b h = put_first (length v) v b (le_refl (length v)) h ∙ ap (λ (r : List Float). bytes_of_floats r ++ drop (8 * length v) b) (take-length v)

-- ---- floats that are read from bytes
-- the first float stands first
floats_cons : (n : ℕ) (b : List ℕ) → floats_of (suc n) b ≡ float_at b 0 ∷ floats_of n (drop 8 b)
unfolding floats_of
floats_cons zero b = refl
floats_cons (suc n) b =
    let e : 8 + 8 * n ≡ 8 * suc n = omega arith in
    ap (λ (l : List Float). l ++ (float_at b (8 * suc n) ∷ [])) (floats_cons n b)
    ∙ ap (λ (w : ℕ). float_at b 0 ∷ (floats_of n (drop 8 b) ++ (of_bits binary64 w ∷ []))) (ap (long_at b) (sym e) ∙ sym (long_drop 8 (8 * n) b))

-- each is a float of 64 bits
abbrev pub AllFit : List Float → Type 0
AllFit [] = Unit
AllFit (x ∷ xs) = T (fits binary64 x) × AllFit xs

first_back : (x : Float) (q : List ℕ) → T (fits binary64 x) → float_at (long_bytes (to_bits binary64 x) ++ q) 0 ≡ x
first_back x q h = ap (of_bits binary64) (long_back (to_bits binary64 x) q (to_bits-lt binary64 x h)) ∙ of_bits-to_bits binary64 x h

-- floats of 64 bits are read back from their bytes
pub floats_back : (xs : List Float) (q : List ℕ) → AllFit xs → floats_of (length xs) (bytes_of_floats xs ++ q) ≡ xs
unfolding bytes_of_floats floats_of
floats_back [] q h = refl
floats_back (x ∷ xs) q h =
    let r : List ℕ = bytes_of_floats xs ++ q in
    let b : List ℕ = long_bytes (to_bits binary64 x) in
    let e : bytes_of_floats (x ∷ xs) ++ q ≡ b ++ r = append_assoc b (bytes_of_floats xs) q in
    ap (floats_of (suc (length xs))) e ∙ floats_cons (length xs) (b ++ r)
    ∙ ap (λ (y : Float). y ∷ floats_of (length xs) (drop 8 (b ++ r))) (first_back x r h.0)
    ∙ ap (λ (l : List ℕ). x ∷ floats_of (length xs) l) (drop_at b r 8 (length_long (to_bits binary64 x)))
    ∙ ap (λ (l : List Float). x ∷ l) (floats_back xs q h.1)
