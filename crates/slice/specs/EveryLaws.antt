-- Laws of `every`, for the loops that test every element. Assumes nothing.
use Rattle.std.specs.Prelude.{◌≡◌, Bool, true, false, ◌&&◌, length, take, drop, get_or}
use Rattle.std.proofs.Math.Path.{sym, ap}
use Rattle.std.proofs.Common.{◌∙◌, arith}
use mathlib.Core.List.{List, [], ◌∷◌, ◌++◌}
use Prim.Native.Nat.{ℕ, zero, suc, ◌+◌, ◌≤◌, ◌<◌}
use Rattle.std.proofs.Math.Seq.{take-length}
use Rattle.slice_law.specs.Bools.{and_left, and_right, and_true, and_assoc}
use Rattle.slice_law.specs.Next.{Next, drop_end}
use Rattle.slice.specs.Every.{every}

module _ {A : Type 0} (k : A → Bool) where
  pub every_next : (l : List A) (i : ℕ) (x : A) → Next l i x → every k (drop i l) ≡ (k x && every k (drop (i + 1) l))
  unfolding every
  every_next l i x h = ap {B = Bool} (every k) h

  pub every_end : (l : List A) (i : ℕ) → length l ≤ i → every k (drop i l) ≡ true
  unfolding every
  every_end l i h = ap {B = Bool} (every k) (drop_end l i h)

  -- the loop's state after a turn, in which b says whether the element passes; ok says whether all before it did
  pub every_turn : (l : List A) (i : ℕ) (x : A) (ok b : Bool) → Next l i x → b ≡ k x → (ok && every k (drop i l)) ≡ every k l
      → ((ok && b) && every k (drop (i + 1) l)) ≡ every k l
  every_turn l i x true b h t e = ap {B = Bool} (λ (q : Bool). q && every k (drop (i + 1) l)) t ∙ sym (every_next l i x h) ∙ e
  every_turn l i x false b h t e = e

  pub every_done : (l : List A) (i : ℕ) (ok : Bool) → length l ≤ i → (ok && every k (drop i l)) ≡ every k l → ok ≡ every k l
  every_done l i true h e = sym (every_end l i h) ∙ e
  every_done l i false h e = e

  -- as many as there are: all
  pub every_all : (l : List A) → every k (take (length l) l) ≡ every k l
  every_all l = ap {B = Bool} (every k) (take-length l)

  pub every_at : (l : List A) (n i : ℕ) (d : A) → every k (take n l) ≡ true → i < n → n ≤ length l → k (get_or l i d) ≡ true
  unfolding every
  every_at (x ∷ l) (suc n) zero d e h m = and_left (k x) (every k (take n l)) e
  every_at (x ∷ l) (suc n) (suc i) d e h m = every_at l n i d (and_right (k x) (every k (take n l)) e) (omega arith) (omega arith)
  every_at l zero i d e h m = absurd (omega arith)
  every_at [] (suc n) i d e h m = absurd (omega arith)

  -- one element more
  pub every_after : (l : List A) (x : A) → every k (l ++ (x ∷ [])) ≡ (every k l && k x)
  unfolding every
  every_after [] x = and_true (k x)
  every_after (y ∷ l) x = ap {B = Bool} (λ (b : Bool). k y && b) (every_after l x) ∙ sym (and_assoc (k y) (every k l) (k x))
