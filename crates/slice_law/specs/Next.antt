-- What a loop over a list reads next: the element at i comes first in what is left. Assumes nothing.
use Rattle.std.specs.Prelude.{◌≡◌, List, [], ◌∷◌, map, ℕ, ◌+◌, ◌≤◌, ◌<◌, length, take, drop, get_or}
use Rattle.std.proofs.Common.{sym, ap, ◌∙◌, arith, add-one, drop_of_length-le, drop-cons, get_or-take, get_or-drop, length-take-le}
use Rattle.slice_law.specs.Lists.{drop_map}

-- x stands at place i of the list
abbrev pub Next : {A : Type 0} → List A → ℕ → A → Type 0
Next l i x = drop i l ≡ x ∷ drop (i + 1) l

module _ {A : Type 0} where
  pub next_at : (l : List A) (i : ℕ) (d : A) → i < length l → Next l i (get_or l i d)
  next_at l i d h = rw (add-one i) (drop-cons l i d h)

  pub next_take : (l : List A) (n i : ℕ) (d : A) → i < n → n ≤ length l → Next (take n l) i (get_or l i d)
  next_take l n i d h k =
      let e : i < length (take n l) = omega (arith, length-take-le n l k) in
      next_at (take n l) i d e ∙ ap {B = List A} (λ x. x ∷ drop (i + 1) (take n l)) (get_or-take n l i d h)

  pub drop_end : (l : List A) (i : ℕ) → length l ≤ i → drop i l ≡ []
  drop_end l i h = drop_of_length-le l h

module _ {A B : Type 0} (f : A → B) where
  pub next_map : (l : List A) (i : ℕ) (x : A) → Next l i x → Next (map f l) i (f x)
  next_map l i x h = drop_map f i l ∙ ap {B = List B} (map f) h ∙ ap {B = List B} (λ r. f x ∷ r) (sym (drop_map f (i + 1) l))

pub getD_next : {A : Type 0} (l : List A) (i : ℕ) (x d : A) → Next l i x → get_or l i d ≡ x
getD_next {A} l i x d h =
    let e : i + 0 ≡ i = omega arith in
    ap {B = A} (λ (n : ℕ). get_or l n d) (sym e) ∙ sym (get_or-drop i l 0 d) ∙ ap {B = A} (λ (r : List A). get_or r 0 d) h
