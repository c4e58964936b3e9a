-- Laws of `map`, `take` and `drop` that lib.Seq lacks. Assumes nothing.
use Rattle.std.specs.Prelude.{◌≡◌, refl, List, [], ◌∷◌, ◌++◌, map, ℕ, zero, suc, ◌+◌, ◌-◌, ◌≤◌, take, drop}
use Rattle.std.proofs.Common.{sym, ap, ◌∙◌, arith, drop-drop}

module _ {A : Type 0} where
  -- two lists that agree from place n on agree from every later place on
  pub drop_further : (n m : ℕ) (a b : List A) → n ≤ m → drop n a ≡ drop n b → drop m a ≡ drop m b
  drop_further n m a b h e =
      let s : n + (m - n) ≡ m = omega arith in
      ap (λ (j : ℕ). drop j a) (sym s) ∙ sym (drop-drop (m - n) n a) ∙ ap (drop (m - n)) e ∙ drop-drop (m - n) n b ∙ ap (λ (j : ℕ). drop j b) s

module _ {A B : Type 0} (f : A → B) where
  pub map_append : (xs ys : List A) → map f (xs ++ ys) ≡ map f xs ++ map f ys
  map_append [] ys = refl
  map_append (x ∷ xs) ys = ap {B = List B} (λ r. f x ∷ r) (map_append xs ys)

  pub map_take : (i : ℕ) (l : List A) → map f (take i l) ≡ take i (map f l)
  map_take zero l = refl
  map_take (suc i) [] = refl
  map_take (suc i) (x ∷ l) = ap {B = List B} (λ r. f x ∷ r) (map_take i l)

  pub drop_map : (i : ℕ) (l : List A) → drop i (map f l) ≡ map f (drop i l)
  drop_map zero l = refl
  drop_map (suc i) [] = refl
  drop_map (suc i) (x ∷ l) = drop_map i l
