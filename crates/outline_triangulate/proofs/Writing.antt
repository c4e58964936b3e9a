-- How the triangle slice follows the definition's list: a triangle is written, the rest is fanned. Assumes nothing.
use Prim.Native.Nat.{ℕ, suc, ◌+◌, ◌-◌, ◌*◌, ◌<◌, ◌≤◌}
use mathlib.Core.Path.{◌≡◌, refl, sym, ap, ◌∙◌}
use mathlib.Core.List.{List, [], ◌∷◌, ◌++◌, append_assoc, append-nil}
use native.Mathlib.Numerals.{add-one}
use native.Mathlib.Nat.{not-suc-le-zero}
use native.Mathlib.Omega.{arith}
use lib.ListN.{length, get_or, take, drop, set, length-set, drop_of_length-le}
use lib.Seq.{drop-cons, take-suc-set, drop-set-lt}
use Rattle.slice_law.specs.Lists.{drop_further}
use Rattle.outline_triangulate.specs.Triangulate.{fans, fan}
use Rattle.outline_triangulate.specs.Slices.{WroteTriangles}

-- ---- a triangle is written

module _ (j : ℕ) (o : List ℕ) (a b c : ℕ) (h : j + 3 ≤ length o) where
  abbrev three : List ℕ
  three = set (set (set o j a) (j + 1) b) (j + 2) c

  three_front : take (j + 3) three ≡ take j o ++ (a ∷ b ∷ c ∷ [])
  three_front =
      let l₁ : length (set o j a) ≡ length o = length-set o j a in
      let l₂ : length (set (set o j a) (j + 1) b) ≡ length o = length-set (set o j a) (j + 1) b ∙ l₁ in
      let e₃ : j + 3 ≡ suc (j + 2) = omega arith in
      let e₂ : j + 2 ≡ suc (j + 1) = omega arith in
      ap (λ (n : ℕ). take n three) e₃
      ∙ take-suc-set (set (set o j a) (j + 1) b) (j + 2) c (omega arith)
      ∙ ap (λ (r : List ℕ). r ++ (c ∷ []))
      (ap (λ (n : ℕ). take n (set (set o j a) (j + 1) b)) e₂
      ∙ take-suc-set (set o j a) (j + 1) b (omega arith)
      ∙ ap (λ (r : List ℕ). r ++ (b ∷ [])) (ap (λ (n : ℕ). take n (set o j a)) (add-one j) ∙ take-suc-set o j a (omega arith)))
      ∙ simp append_assoc

  three_rest : drop (j + 3) three ≡ drop (j + 3) o
  three_rest =
      drop-set-lt (j + 3) (set (set o j a) (j + 1) b) (j + 2) c (omega arith)
      ∙ drop-set-lt (j + 3) (set o j a) (j + 1) b (omega arith)
      ∙ drop-set-lt (j + 3) o j a (omega arith)

pub put_wrote : (t : ℕ) (o : List ℕ) (a b c : ℕ) → 3 * t + 3 ≤ length o
    → WroteTriangles t (t + 1) (a ∷ b ∷ c ∷ []) o (set (set (set o (3 * t) a) (3 * t + 1) b) (3 * t + 2) c)
put_wrote t o a b c h =
    let e : 3 * (t + 1) ≡ 3 * t + 3 = omega arith in
    record {
      front = ap (λ (n : ℕ). take n (three (3 * t) o a b c h)) e ∙ three_front (3 * t) o a b c h;
      rest = ap (λ (n : ℕ). drop n (three (3 * t) o a b c h)) e ∙ three_rest (3 * t) o a b c h ∙ ap (λ (n : ℕ). drop n o) (sym e);
    }

-- ---- the fan

pub fan_is : (l : List ℕ) → 1 ≤ length l → fan l ≡ fans (get_or l 0 0) (drop 1 l)
unfolding fan
fan_is [] h = absurd (not-suc-le-zero h)
fan_is (a ∷ l) h = refl

fans_next : (a : ℕ) (l : List ℕ) (k : ℕ) → k + 1 < length l
    → fans a (drop k l) ≡ a ∷ get_or l k 0 ∷ get_or l (k + 1) 0 ∷ fans a (drop (k + 1) l)
unfolding fans
fans_next a l k h =
    let d : drop k l ≡ get_or l k 0 ∷ drop (k + 1) l = rw (add-one, drop-cons l k 0 (omega arith)) in
    let d₁ : drop (k + 1) l ≡ get_or l (k + 1) 0 ∷ drop (suc (k + 1)) l = drop-cons l (k + 1) 0 h in
    ap (fans a) (d ∙ ap (λ (r : List ℕ). get_or l k 0 ∷ r) d₁)
    ∙ ap (λ (r : List ℕ). a ∷ get_or l k 0 ∷ get_or l (k + 1) 0 ∷ fans a r) (sym d₁)

fans_end : (a : ℕ) (l : List ℕ) (k : ℕ) → length l ≡ k + 1 → fans a (drop k l) ≡ []
unfolding fans
fans_end a l k h =
    let d : drop k l ≡ get_or l k 0 ∷ drop (k + 1) l = rw (add-one, drop-cons l k 0 (omega arith)) in
    ap (fans a) (d ∙ ap (λ (r : List ℕ). get_or l k 0 ∷ r) (drop_of_length-le l {i = k + 1} (omega arith)))

-- what the loop of the fan keeps: what is written and what is to come are the whole
pub record Fanning (t k : ℕ) (a : ℕ) (l b o : List ℕ) : Type 0 where
  pub front : take (3 * (t + (k - 1))) o ++ fans a (drop k l) ≡ take (3 * t) b ++ fan l
  pub rest : drop (3 * (t + (k - 1))) o ≡ drop (3 * (t + (k - 1))) b

pub fanning_start : (t : ℕ) (l b : List ℕ) → 1 ≤ length l → Fanning t 1 (get_or l 0 0) l b b
fanning_start t l b h =
    let e : t + (1 - 1) ≡ t = omega arith in
    record {
      front = ap (λ (j : ℕ). take (3 * j) b ++ fans (get_or l 0 0) (drop 1 l)) e ∙ ap (λ (r : List ℕ). take (3 * t) b ++ r) (sym (fan_is l h));
      rest = refl;
    }

pub fanning_next : (t k a : ℕ) (l b o o' : List ℕ) → 1 ≤ k → k + 1 < length l → Fanning t k a l b o
    → WroteTriangles (t + (k - 1)) (t + (k - 1) + 1) (a ∷ get_or l k 0 ∷ get_or l (k + 1) 0 ∷ []) o o' → Fanning t (k + 1) a l b o'
fanning_next t k a l b o o' h hl f w =
    let e : t + (k + 1 - 1) ≡ t + (k - 1) + 1 = omega arith in
    record {
      front =
          ap (λ (j : ℕ). take (3 * j) o' ++ fans a (drop (k + 1) l)) e
          ∙ ap (λ (r : List ℕ). r ++ fans a (drop (k + 1) l)) w.front
          ∙ append_assoc (take (3 * (t + (k - 1))) o) (a ∷ get_or l k 0 ∷ get_or l (k + 1) 0 ∷ []) (fans a (drop (k + 1) l))
          ∙ ap (λ (r : List ℕ). take (3 * (t + (k - 1))) o ++ r) (sym (fans_next a l k hl))
          ∙ f.front;
      rest =
          ap (λ (j : ℕ). drop (3 * j) o') e
          ∙ w.rest
          ∙ drop_further (3 * (t + (k - 1))) (3 * (t + (k - 1) + 1)) o b (omega arith) f.rest
          ∙ ap (λ (j : ℕ). drop (3 * j) b) (sym e);
    }

pub fanning_end : (t k a : ℕ) (l b o : List ℕ) → 1 ≤ k → length l ≡ k + 1 → Fanning t k a l b o → WroteTriangles t (t + (length l - 2)) (fan l) b o
fanning_end t k a l b o h hl f =
    let e : t + (length l - 2) ≡ t + (k - 1) = omega arith in
    record {
      front =
          ap (λ (j : ℕ). take (3 * j) o) e
          ∙ sym (append-nil (take (3 * (t + (k - 1))) o))
          ∙ ap (λ (r : List ℕ). take (3 * (t + (k - 1))) o ++ r) (sym (fans_end a l k hl))
          ∙ f.front;
      rest = ap (λ (j : ℕ). drop (3 * j) o) e ∙ f.rest ∙ ap (λ (j : ℕ). drop (3 * j) b) (sym e);
    }
