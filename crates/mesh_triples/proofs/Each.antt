-- A loop that replaces one triple after the other, in place. Assumes nothing.
use mathlib.Core.Path.{◌≡◌, refl, sym, ap, ◌∙◌}
use mathlib.Core.List.{List, [], ◌∷◌, ◌++◌, map, append_assoc}
use Prim.Native.Nat.{ℕ, zero, suc, ◌+◌, ◌*◌, ◌≤◌, ◌<◌}
use native.Mathlib.Omega.{arith}
use lib.ListN.{length, take, drop, get_or, set, length-append, length-map, length-drop}
use lib.Seq.{sets-eq, take_at, drop_at, drop-drop, get_or-drop, get_or-append-add, drop-append-add, take-add, length-take-le, take-append-le, set-get_or}
use Rattle.slice_law.specs.Lists.{map_append}
use Rattle.mesh_balance_spec.specs.Soup.{Tri}
use Rattle.mesh_balance_spec.specs.Buffer.{flat, tris, flat_append, length_flat}
use Rattle.mesh_spec.specs.SliceLaws.{length_tris}
use Rattle.mesh_triples.specs.Triples.{each_to, triple_at, put_triple}
use Rattle.mesh_triples.proofs.NextTriples.{three}

module _ {A : Type 0} where
  -- three stores in a row
  put_is : (l : List A) (i : ℕ) (t : Tri A) → 3 * i + 3 ≤ length l → put_triple l i t ≡ take (3 * i) l ++ (t.0 ∷ t.1 ∷ t.2 ∷ []) ++ drop (3 * i + 3) l
  put_is l i t h =
      (λ j. set (set (set l (3 * i) t.0) (one j) t.1) (two j) t.2) ∙ sets-eq (t.0 ∷ t.1 ∷ t.2 ∷ []) l (3 * i) h
    where
      one : 3 * i + 1 ≡ suc (3 * i)
      one = omega arith

      two : 3 * i + 2 ≡ suc (suc (3 * i))
      two = omega arith

  tris_append : (k : ℕ) (xs ys : List A) → length xs ≡ 3 * k → tris (xs ++ ys) ≡ tris xs ++ tris ys
  tris_append k [] ys e = refl
  tris_append k (a ∷ []) ys e = absurd (omega arith)
  tris_append k (a ∷ b ∷ []) ys e = absurd (omega arith)
  tris_append zero (a ∷ b ∷ c ∷ r) ys e = absurd (omega arith)
  tris_append (suc k) (a ∷ b ∷ c ∷ r) ys e = ap {B = List (Tri A)} (λ q. (a, b, c) ∷ q) (tris_append k r ys (omega arith))

  take_more : (l : List A) (i : ℕ) (d : A) → 3 * i + 3 ≤ length l → take (3 * (i + 1)) l ≡ take (3 * i) l ++ (get_or l (3 * i) d ∷ get_or l (3 * i + 1) d ∷ get_or l (3 * i + 2) d ∷ [])
  take_more l i d h =
      let e : 3 * (i + 1) ≡ 3 * i + 3 = omega arith in
      ap {B = List A} (λ (n : ℕ). take n l) e ∙ take-add (3 * i) 3 l ∙ ap {B = List A} (λ (r : List A). take (3 * i) l ++ take 3 r) (three l i d h)

  tris_more : (l : List A) (i : ℕ) (d : A) → 3 * i + 3 ≤ length l → tris (take (3 * (i + 1)) l) ≡ tris (take (3 * i) l) ++ (triple_at l i d ∷ [])
  tris_more l i d h =
      ap {B = List (Tri A)} tris (take_more l i d h)
      ∙ tris_append i (take (3 * i) l) (get_or l (3 * i) d ∷ get_or l (3 * i + 1) d ∷ get_or l (3 * i + 2) d ∷ []) (length-take-le (3 * i) l (omega arith))

module _ {A : Type 0} (g : Tri A → Tri A) (l : List A) where
  -- what is replaced so far
  abbrev front : ℕ → List A
  front i = flat (map g (tris (take (3 * i) l)))

  length_front : (i : ℕ) → 3 * i ≤ length l → length (front i) ≡ 3 * i
  length_front i h =
      omega (
        arith,
        length_flat (map g (tris (take (3 * i) l))),
        length-map (tris (take (3 * i) l)) g,
        length_tris i (take (3 * i) l) (length-take-le (3 * i) l h),
      )

  pub each_none : l ≡ each_to g 0 l
  unfolding each_to
  each_none = refl

  pub length_each : (i : ℕ) → 3 * i ≤ length l → length (each_to g i l) ≡ length l
  unfolding each_to
  length_each i h = omega (arith, length-append (front i) (drop (3 * i) l), length_front i h, length-drop (3 * i) l)

  at : (i j : ℕ) (d : A) → 3 * i ≤ length l → get_or (front i ++ drop (3 * i) l) (3 * i + j) d ≡ get_or l (3 * i + j) d
  at i j d h =
      ap {B = A} (λ (n : ℕ). get_or (front i ++ drop (3 * i) l) (n + j) d) (sym (length_front i h))
      ∙ get_or-append-add (front i) (drop (3 * i) l) j d
      ∙ get_or-drop (3 * i) l j d

  at0 : (i : ℕ) (d : A) → 3 * i ≤ length l → get_or (front i ++ drop (3 * i) l) (3 * i) d ≡ get_or l (3 * i) d
  at0 i d h = rw (zero_more) at (at i 0 d h)
    where
      zero_more : 3 * i + 0 ≡ 3 * i
      zero_more = omega arith

  -- triple i is not replaced yet
  pub each_read : (i : ℕ) (d : A) → 3 * i ≤ length l → triple_at (each_to g i l) i d ≡ triple_at l i d
  unfolding each_to
  each_read i d h = λ j. (at0 i d h j, at i 1 d h j, at i 2 d h j)

  front_more : (i : ℕ) (d : A) → 3 * i + 3 ≤ length l → front (i + 1) ≡ front i ++ flat (g (triple_at l i d) ∷ [])
  front_more i d h =
      ap {B = List A} (λ (ts : List (Tri A)). flat (map g ts)) (tris_more l i d h)
      ∙ ap {B = List A} flat (map_append g (tris (take (3 * i) l)) (triple_at l i d ∷ []))
      ∙ flat_append (map g (tris (take (3 * i) l))) (g (triple_at l i d) ∷ [])

  -- one turn of the loop
  pub each_step : (i : ℕ) (d : A) → 3 * i + 3 ≤ length l → put_triple (each_to g i l) i (g (triple_at l i d)) ≡ each_to g (i + 1) l
  unfolding each_to
  each_step i d h =
      let t = g (triple_at l i d) in
      let r = front i ++ drop (3 * i) l in
      let n : length r ≡ length l = length_each i (omega arith) in
      let k : length (front i) ≡ 3 * i = length_front i (omega arith) in
      let e : 3 * i + 3 ≡ 3 * (i + 1) = omega arith in
      put_is r i t (omega arith)
      ∙ ap {B = List A} (λ (q : List A). q ++ (t.0 ∷ t.1 ∷ t.2 ∷ []) ++ drop (3 * i + 3) r) (take_at (front i) (drop (3 * i) l) (3 * i) k)
      ∙ ap {B = List A} (λ (q : List A). front i ++ (t.0 ∷ t.1 ∷ t.2 ∷ []) ++ q) (rest ∙ ap {B = List A} (λ (m : ℕ). drop m l) e)
      ∙ ap {B = List A} (λ (q : List A). q ++ drop (3 * (i + 1)) l) (sym (front_more i d h))
    where
      rest : drop (3 * i + 3) (front i ++ drop (3 * i) l) ≡ drop (3 * i + 3) l
      rest =
          ap {B = List A} (λ (m : ℕ). drop (m + 3) (front i ++ drop (3 * i) l)) (sym (length_front i (omega arith)))
          ∙ drop-append-add (front i) (drop (3 * i) l) 3
          ∙ drop-drop 3 (3 * i) l

  -- the loop's state after a turn that read the triple from it
  pub each_turn : (i : ℕ) (d : A) (out next : List A) → 3 * i + 3 ≤ length l → out ≡ each_to g i l → next ≡ put_triple out i (g (triple_at out i d)) → next ≡ each_to g (i + 1) l
  each_turn i d out next h e n =
      n
      ∙ ap {B = List A} (λ (o : List A). put_triple o i (g (triple_at o i d))) e
      ∙ ap {B = List A} (λ (t : Tri A). put_triple (each_to g i l) i (g t)) (each_read i d (omega arith))
      ∙ each_step i d h

  pub each_end : (i n : ℕ) (out : List A) → i ≡ n → out ≡ each_to g i l → out ≡ each_to g n l
  each_end i n out h e = e ∙ ap {B = List A} (λ (k : ℕ). each_to g k l) h

-- two stores, where the first element stays
pub put_two : {A : Type 0} (l : List A) (i : ℕ) (d : A) → set (set l (3 * i + 1) (get_or l (3 * i + 2) d)) (3 * i + 2) (get_or l (3 * i + 1) d) ≡ put_triple l i
    (get_or l (3 * i) d, get_or l (3 * i + 2) d, get_or l (3 * i + 1) d)
put_two {A} l i d = sym (ap {B = List A} (λ (q : List A). set (set q (3 * i + 1) (get_or l (3 * i + 2) d)) (3 * i + 2) (get_or l (3 * i + 1) d)) (set-get_or l (3 * i) d))
