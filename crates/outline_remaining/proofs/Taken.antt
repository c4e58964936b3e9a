-- Laws of a list from which an element was taken out, and of the array from which the code takes one. Assumes nothing.
use Prim.Native.Nat.{ℕ, suc, ◌+◌, ◌-◌, ◌<◌, ◌≤◌}
use mathlib.Core.Path.{◌≡◌, refl, sym, ap, ◌∙◌}
use mathlib.Core.List.{List, [], ◌∷◌, ◌++◌}
use native.Mathlib.Numerals.{add-one}
use native.Mathlib.Omega.{arith}
use lib.ListN.{length, get_or, take, drop, set, length-append, length-drop, length-set, get_or-append}
use lib.Seq.{take-suc, take-suc-set, drop-set-lt, get_or-drop, get_or-take, length-take-le, take-take, take-add, drop_at, paste, take-paste, length-paste}
use lib.Seq.{take-append-add, get_or-append-add}
use Rattle.outline_remaining.specs.Without.{without, TakenOut}

module _ {A : Type 0} where
  take_drop : (n m : ℕ) (l : List A) → n ≤ length l → drop n (take (n + m) l) ≡ take m (drop n l)
  take_drop n m l h = rw (take-add n m l) (drop_at (take n l) (take m (drop n l)) n (length-take-le n l h))

  module _ (k : ℕ) (l : List A) where
    pub length_without : k < length l → length (without k l) ≡ length l - 1
    unfolding without
    length_without h =
        let n : length (take k l) ≡ k = length-take-le k l (omega arith) in
        simp (length-append, length-drop) (omega arith)

    pub getD_without_low : (i : ℕ) (d : A) → i < k → k ≤ length l → get_or (without k l) i d ≡ get_or l i d
    unfolding without
    getD_without_low i d h hl =
        let n : length (take k l) ≡ k = length-take-le k l hl in
        get_or-append (take k l) (drop (suc k) l) d i (omega arith) ∙ get_or-take k l i d h

    pub getD_without : (i : ℕ) (d : A) → k ≤ i → k < length l → get_or (without k l) i d ≡ get_or l (i + 1) d
    unfolding without
    getD_without i d h hl =
        let n : length (take k l) ≡ k = length-take-le k l (omega arith) in
        let s : i ≡ length (take k l) + (i - k) = omega arith in
        let t : suc k + (i - k) ≡ i + 1 = omega arith in
        ap (λ (j : ℕ). get_or (take k l ++ drop (suc k) l) j d) s
        ∙ get_or-append-add (take k l) (drop (suc k) l) (i - k) d
        ∙ get_or-drop (suc k) l (i - k) d
        ∙ ap (λ (j : ℕ). get_or l j d) t

-- the code's copy_within, which moves down what stands behind index k
pub taken_out : {A : Type 0} (k m : ℕ) (l : List A) → length l ≡ 512 → k < m → m ≤ 512 → TakenOut k m l (paste l k (drop (k + 1) l) (m - (k + 1)))
unfolding without
taken_out {A} k m l long h hm =
    let n = m - (k + 1) in
    let d : length (drop (k + 1) l) ≡ length l - (k + 1) = length-drop (k + 1) l in
    let e : m - 1 ≡ k + n = omega arith in
    let f : suc k + n ≡ m = omega arith in
    record {
      long = length-paste l k (drop (k + 1) l) n (omega arith) (omega arith) ∙ long;
      list =
          ap (λ (j : ℕ). take j (paste l k (drop (k + 1) l) n)) e
          ∙ take-paste l k (drop (k + 1) l) n (omega arith) (omega arith)
          ∙ ap (λ (r : List A). take k l ++ r)
          (ap (λ (j : ℕ). take n (drop j l)) (add-one k) ∙ sym (take_drop (suc k) n l (omega arith)) ∙ ap (λ (j : ℕ). drop (suc k) (take j l)) f)
          ∙ ap (λ (r : List A). r ++ drop (suc k) (take m l)) (sym (take-take k m l (omega arith)));
    }
