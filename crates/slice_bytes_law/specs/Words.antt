-- One 32-bit number in a list of bytes: written, it replaces four bytes; read, it is what was written. Assumes nothing.
use Rattle.std.specs.Prelude.{◌≡◌, refl, ◌≢◌, List, ◌∷◌, ◌++◌, ℕ, suc, ◌+◌, ◌*◌, ◌/◌, ◌%◌, ◌≤◌, ◌<◌, length, take, drop, set, get_or}
use Rattle.std.proofs.Common.{sym, ap, ◌∙◌, append_assoc, add-zero, add_assoc, mod-eq_of_lt, arith, length-append, length-set, get_or-append-add, get_or-drop, get_or-set_other, length-take-le, take_at}
use Rattle.std.proofs.Math.Nat.{div-div-eq-div-mul}
use Rattle.std.proofs.lemmas.List.Edits.{sets-eq}
use Rattle.std.proofs.Math.Seq.{get_or-append_seam, drop-append-add}
use Rattle.slice_bytes.specs.Bytes.{word_at, with_word, word_bytes}

pub length_word : (w : ℕ) → length (word_bytes w) ≡ 4
unfolding word_bytes
length_word w = refl

pub length_with_word : (b : List ℕ) (at w : ℕ) → length (with_word b at w) ≡ length b
unfolding with_word
length_with_word b at w = simp length-set

-- ---- writing
stores : (b : List ℕ) (at w i j k : ℕ) → i ≡ at + 1 → j ≡ at + 2 → k ≡ at + 3
    → set (set (set (set b at (w % 256)) i (w / 256 % 256)) j (w / 65536 % 256)) k (w / 16777216 % 256) ≡ with_word b at w
unfolding with_word
stores b at w i j k p q r = rw (p, q, r)

-- a number that is written replaces four bytes
pub put_word : (b : List ℕ) (at w : ℕ) → at + 4 ≤ length b → with_word b at w ≡ take at b ++ word_bytes w ++ drop (at + 4) b
unfolding word_bytes
put_word b at w h =
    sym (stores b at w (suc at) (suc (suc at)) (suc (suc (suc at))) (omega arith) (omega arith) (omega arith)) ∙ sets-eq (word_bytes w) b at h

-- the same, behind a list whose length is the place
pub put_word_behind : (p r : List ℕ) (n w : ℕ) → length p ≡ n → 4 ≤ length r → with_word (p ++ r) n w ≡ p ++ word_bytes w ++ drop 4 r
put_word_behind p r n w e h =
    put_word (p ++ r) n w (omega (arith, length-append p r))
    ∙ ap (λ (l : List ℕ). l ++ word_bytes w ++ drop (n + 4) (p ++ r)) (take_at p r n e)
    ∙ ap (λ (l : List ℕ). p ++ word_bytes w ++ l) (ap (λ (k : ℕ). drop (k + 4) (p ++ r)) (sym e) ∙ drop-append-add p r 4)

-- ---- reading
parts : (w a b c : ℕ) → a ≡ w / 256 → b ≡ a / 256 → c ≡ b / 256
    → w % 256 + 256 * (a % 256) + 65536 * (b % 256) + 16777216 * (c % 256) ≡ w % 4294967296
parts w a b c p q r = omega arith

-- the four bytes of a number add up to its low 32 bits
whole : (w : ℕ) → w % 256 + 256 * (w / 256 % 256) + 65536 * (w / 65536 % 256) + 16777216 * (w / 16777216 % 256) ≡ w % 4294967296
whole w = parts w (w / 256) (w / 65536) (w / 16777216) refl (sym (div-div-eq-div-mul w 256 256)) (sym (div-div-eq-div-mul w 65536 256))

-- four bytes that stand behind a list, read as a number
word_read : (p : List ℕ) (x y z t : ℕ) (q : List ℕ) → word_at (p ++ (x ∷ y ∷ z ∷ t ∷ q)) (length p) ≡ x + 256 * y + 65536 * z + 16777216 * t
unfolding word_at
word_read p x y z t q =
    let l = x ∷ y ∷ z ∷ t ∷ q in
    omega (arith, get_or-append_seam p x (y ∷ z ∷ t ∷ q) 0, get_or-append-add p l 1 0, get_or-append-add p l 2 0, get_or-append-add p l 3 0)

-- the low 32 bits of a number are read back
pub low_back : (p : List ℕ) (w : ℕ) (q : List ℕ) (n : ℕ) → length p ≡ n → word_at (p ++ word_bytes w ++ q) n ≡ w % 4294967296
unfolding word_bytes
low_back p w q n e =
    ap (word_at (p ++ word_bytes w ++ q)) (sym e) ∙ ap (λ (l : List ℕ). word_at l (length p)) (append_assoc p (word_bytes w) q)
    ∙ word_read p (w % 256) (w / 256 % 256) (w / 65536 % 256) (w / 16777216 % 256) q ∙ whole w

-- a 32-bit number is read back
pub word_back : (p : List ℕ) (w : ℕ) (q : List ℕ) (n : ℕ) → length p ≡ n → w < 4294967296 → word_at (p ++ word_bytes w ++ q) n ≡ w
word_back p w q n e h = low_back p w q n e ∙ mod-eq_of_lt h

-- the number that was written is read
pub word_same : (b : List ℕ) (at w : ℕ) → at + 4 ≤ length b → w < 4294967296 → word_at (with_word b at w) at ≡ w
word_same b at w h k =
    ap (λ (l : List ℕ). word_at l at) (put_word b at w h) ∙ word_back (take at b) w (drop (at + 4) b) at (length-take-le at b (omega arith)) k

others : (b : List ℕ) (i j k l x y z t at : ℕ) → at ≢ i → at ≢ j → at ≢ k → at ≢ l
    → get_or (set (set (set (set b i x) j y) k z) l t) at 0 ≡ get_or b at 0
others b i j k l x y z t at p q r s =
    get_or-set_other (set (set (set b i x) j y) k z) l at t 0 s
    ∙ get_or-set_other (set (set b i x) j y) k at z 0 r ∙ get_or-set_other (set b i x) j at y 0 q ∙ get_or-set_other b i at x 0 p

byte_other : (b : List ℕ) (i j w k : ℕ) → i ≢ j → k < 4 → get_or (with_word b (4 * i) w) (4 * j + k) 0 ≡ get_or b (4 * j + k) 0
unfolding with_word
byte_other b i j w k h l =
    others b (4 * i) (4 * i + 1) (4 * i + 2) (4 * i + 3) (w % 256) (w / 256 % 256) (w / 65536 % 256) (w / 16777216 % 256) (4 * j + k)
    (λ e. h (omega arith)) (λ e. h (omega arith)) (λ e. h (omega arith)) (λ e. h (omega arith))

-- every other number of a list of 32-bit numbers is read as before
pub word_other : (b : List ℕ) (i j w : ℕ) → i ≢ j → word_at (with_word b (4 * i) w) (4 * j) ≡ word_at b (4 * j)
unfolding word_at
word_other b i j w h =
    let z : get_or (with_word b (4 * i) w) (4 * j) 0 ≡ get_or b (4 * j) 0 = simp add-zero at (byte_other b i j w 0 h (omega arith)) in
    omega (arith, byte_other b i j w 1 h (omega arith), byte_other b i j w 2 h (omega arith), byte_other b i j w 3 h (omega arith))

-- the number at a place behind the first n bytes
pub word_drop : (n at : ℕ) (b : List ℕ) → word_at (drop n b) at ≡ word_at b (n + at)
unfolding word_at
word_drop n at b = simp (add_assoc, get_or-drop)
