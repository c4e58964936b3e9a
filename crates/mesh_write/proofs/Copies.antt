-- A loop that copies numbers or floats to a place of a slice. Assumes nothing.
use mathlib.Core.Path.{◌≡◌, refl, sym, ap, ◌∙◌}
use mathlib.Core.List.{List, [], ◌∷◌, map}
use Prim.Native.Nat.{ℕ, zero, suc, ◌+◌, ◌<◌}
use native.Mathlib.Omega.{arith}
use native.Mathlib.Numerals.{add-one}
use lib.ListN.{length, get_or, set, length-map}
use lib.Seq.{paste, paste-suc}

module _ {A : Type 0} where
  pub paste_turn : (d : List A) (at : ℕ) (s : List A) (j : ℕ) (z : A) (out : List A) → at + j < length d → j < length s → out ≡ paste d at s j
      → set out (at + j) (get_or s j z) ≡ paste d at s (j + 1)
  paste_turn d at s j z out hd hs e = ap {B = List A} (λ (o : List A). set o (at + j) (get_or s j z)) e ∙ paste-suc d at s j z hd hs
      ∙ ap {B = List A} (λ (n : ℕ). paste d at s n) (sym (add-one j))

  pub paste_end : (d : List A) (at : ℕ) (s : List A) (j n : ℕ) (out : List A) → j ≡ n → out ≡ paste d at s j → out ≡ paste d at s n
  paste_end d at s j n out h e = e ∙ ap {B = List A} (λ (k : ℕ). paste d at s k) h

module _ {A B : Type 0} (f : A → B) where
  -- what is copied is changed on the way
  pub get_d_map : (l : List A) (i : ℕ) (d : A) (e : B) → i < length l → get_or (map f l) i e ≡ f (get_or l i d)
  get_d_map [] i d e h = absurd (omega arith)
  get_d_map (x ∷ l) zero d e h = refl
  get_d_map (x ∷ l) (suc i) d e h = get_d_map l i d e (omega arith)

  pub paste_map_turn : (d : List B) (at : ℕ) (s : List A) (j : ℕ) (y : A) (z : B) (out : List B) → at + j < length d → j < length s → out ≡ paste d at (map f s) j
      → set out (at + j) (f (get_or s j y)) ≡ paste d at (map f s) (j + 1)
  paste_map_turn d at s j y z out hd hs e =
      ap {B = List B} (λ (x : B). set out (at + j) x) (sym (get_d_map s j y z hs))
      ∙ paste_turn d at (map f s) j z out hd (omega (arith, length-map s f)) e
