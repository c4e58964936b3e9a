-- Text after text, and what a slice holds where a text fits. Assumes nothing.
use Rattle.std.specs.Prelude.{◌≡◌, refl, Bool, true, false, cond, List, [], ◌∷◌, ◌++◌, ℕ, suc, ◌+◌, ◌≤◌, ◌<◌, ltb, length, take, drop, set, get_or, replicate}
use Rattle.std.proofs.Common.{sym, ap, subst, ◌∙◌, arith, add-one, lt-ltb, le-ltb, length-set, take-suc}
use Rattle.std.proofs.lemmas.List.{replicate-append-replicate}
use Rattle.std.proofs.lemmas.List.Edits.{sets, sets-eq}
use Rattle.slice_text.specs.Line.{Line, line, with_byte, with_text, Puts}

pub text_append : (s t : List ℕ) (l : Line) → with_text (s ++ t) l ≡ with_text t (with_text s l)
unfolding with_text
text_append [] t l = refl
text_append (x ∷ s) t l = text_append s t (with_byte x l)

-- a text after another is the two joined
pub then : {s t : List ℕ} {l m n : Line} → Puts s l m → Puts t m n → Puts (s ++ t) l n
then {s} {t} {l} e f = record { is = f.is ∙ ap (λ (k : Line). with_text t k) e.is ∙ sym (text_append s t l) }

pub byte_fits : (x : ℕ) (b : List ℕ) (i : ℕ) → i < length b → with_byte x (line b i) ≡ line (set b i x) (i + 1)
unfolding with_byte
byte_fits x b i h = simp (lt-ltb i (length b) h)

pub byte_over : (x : ℕ) (b : List ℕ) (i : ℕ) → length b ≤ i → with_byte x (line b i) ≡ line b i
unfolding with_byte
byte_over x b i h = simp (le-ltb i (length b) h)

text_sets : (t b : List ℕ) (i : ℕ) → i + length t ≤ length b → with_text t (line b i) ≡ line (sets b i t) (i + length t)
unfolding with_text
text_sets [] b i h = ap (λ (k : ℕ). line b k) (omega arith)
text_sets (x ∷ t) b i h =
    ap (λ (l : Line). with_text t l) (byte_fits x b i (omega arith) ∙ ap (λ (k : ℕ). line (set b i x) k) (add-one i))
    ∙ text_sets t (set b i x) (suc i) (simp length-set (omega arith))
    ∙ ap (λ (k : ℕ). line (sets (set b i x) (suc i) t) k) (omega arith)

-- a text that fits stands from the place on; what is before it and behind it stays
pub text_fits : (t b : List ℕ) (i : ℕ) → i + length t ≤ length b → with_text t (line b i) ≡ line (take i b ++ t ++ drop (i + length t) b) (i + length t)
text_fits t b i h = text_sets t b i h ∙ ap (λ (l : List ℕ). line l (i + length t)) (sets-eq t b i h)

-- a slice keeps its length
pub byte_length : (x : ℕ) (l : Line) → length (with_byte x l).bytes ≡ length l.bytes
unfolding with_byte
byte_length x l = go (ltb l.at (length l.bytes))
  where
    go : (b : Bool) → length (cond b (line (set l.bytes l.at x) (l.at + 1)) l).bytes ≡ length l.bytes
    go true = length-set l.bytes l.at x
    go false = refl

pub text_length : (t : List ℕ) (l : Line) → length (with_text t l).bytes ≡ length l.bytes
unfolding with_text
text_length [] l = refl
text_length (x ∷ t) l = text_length t (with_byte x l) ∙ byte_length x l

pub no_text : (l : Line) → Puts [] l l
unfolding with_text
no_text l = record { is = refl }

pub puts_same : {s t : List ℕ} {l m : Line} → s ≡ t → Puts s l m → Puts t l m
puts_same {l = l} {m = m} e p = subst (λ (s : List ℕ). Puts s l m) e p

-- one more of the same byte
pub same_byte : (x i : ℕ) {l m n : Line} → Puts (replicate i x) l m → n ≡ with_byte x m → Puts (replicate (i + 1) x) l n
unfolding with_text
same_byte x i {l} e f =
    record {
      is =
          f
          ∙ ap (λ (k : Line). with_byte x k) e.is
          ∙ sym (text_append (replicate i x) (x ∷ []) l)
          ∙ ap (λ (s : List ℕ). with_text s l) (replicate-append-replicate i 1 x);
    }

-- the next byte of a text
pub next_byte : (t : List ℕ) (i : ℕ) {l m n : Line} → i < length t → Puts (take i t) l m → n ≡ with_byte (get_or t i 0) m → Puts (take (i + 1) t) l n
unfolding with_text
next_byte t i {l} h e f =
    record {
      is =
          f
          ∙ ap (λ (k : Line). with_byte (get_or t i 0) k) e.is
          ∙ sym (text_append (take i t) (get_or t i 0 ∷ []) l)
          ∙ sym (simp add-one (ap (λ (s : List ℕ). with_text s l) (take-suc t i 0 h)));
    }
