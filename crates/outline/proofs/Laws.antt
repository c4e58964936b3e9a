-- Laws of `clean_polygon` and `signed_area`, in the form that the code's loops go by. Assumes nothing.
use Prim.Native.Nat.{ℕ, zero, suc, ◌+◌, ◌-◌, ◌*◌, ◌/◌, ◌%◌, ◌<◌, ◌≤◌}
use mathlib.Core.Path.{◌≡◌, refl, sym, ap, ◌∙◌}
use mathlib.Core.Bool.{Bool, true, false, cond}
use mathlib.Core.List.{List, [], ◌∷◌, ◌++◌, append_assoc}
use native.Mathlib.Numerals.{add-one}
use native.Mathlib.Nat.{not-suc-le-zero, le_of_suc-le-suc}
use native.Mathlib.Omega.{arith}
use lib.ListN.{length, get_or, take, drop, set, length-drop, length-set}
use lib.Seq.{drop-cons, take-suc-set, drop-set-lt, get_or-take, length-take-le, take-take}
use lib.Ieee.{Float, nan, binary64, add, div, eq, of_bits}
use lib.Dec.{ltb}
use borrow.Author.Tests.{lt-ltb}
use Rattle.outline.specs.Corners.{point, same}
use Rattle.outline.specs.Clean.{ends_in, pushed, gathered, stay, clean_polygon}
use Rattle.outline.specs.Area.{wedge, sides, signed_area}
use Rattle.outline.specs.Slices.{WroteCorner, Grew}
use Rattle.outline.specs.declared.Point.{Point}

module _ {A : Type 0} where
  -- two floats are written
  module _ (m : ℕ) (o : List A) (x y : A) (h : 2 * m + 2 ≤ length o) where
    pub two_front : take (2 * (m + 1)) (set (set o (2 * m) x) (2 * m + 1) y) ≡ take (2 * m) o ++ (x ∷ y ∷ [])
    two_front =
        let l : length (set o (2 * m) x) ≡ length o = length-set o (2 * m) x in
        let e : 2 * (m + 1) ≡ suc (2 * m + 1) = omega arith in
        ap (λ (n : ℕ). take n (set (set o (2 * m) x) (2 * m + 1) y)) e
        ∙ take-suc-set (set o (2 * m) x) (2 * m + 1) y (omega arith)
        ∙ ap (λ (r : List A). r ++ (y ∷ [])) (ap (λ (n : ℕ). take n (set o (2 * m) x)) (add-one (2 * m)) ∙ take-suc-set o (2 * m) x (omega arith))
        ∙ append_assoc (take (2 * m) o) (x ∷ []) (y ∷ [])

    pub two_rest : drop (2 * (m + 1)) (set (set o (2 * m) x) (2 * m + 1) y) ≡ drop (2 * (m + 1)) o
    two_rest = drop-set-lt (2 * (m + 1)) (set o (2 * m) x) (2 * m + 1) y (omega arith) ∙ drop-set-lt (2 * (m + 1)) o (2 * m) x (omega arith)

-- ---- a corner of the front

point_take : (o : List Float) (m j : ℕ) → j < m → point (take (2 * m) o) j ≡ point o j
unfolding point
point_take o m j h = rw (get_or-take (2 * m) o (2 * j) nan (omega arith), get_or-take (2 * m) o (2 * j + 1) nan (omega arith))

pub ends_none : (o : List Float) (m : ℕ) (p : Point) → m ≡ 0 → ltb 0 m ≡ ends_in (take (2 * m) o) p
unfolding ends_in
ends_none o m p h = rw h

pub ends_same : (o : List Float) (m : ℕ) (p : Point) {q : Point} {b : Bool} → 2 * m ≤ length o → (m ≡ 0 → ⊥) → q ≡ point o (m - 1) → b ≡ same q p → b ≡ ends_in (take (2 * m) o) p
unfolding ends_in
ends_same o m p hm h0 hq hb =
    let n : length (take (2 * m) o) ≡ 2 * m = length-take-le (2 * m) o hm in
    let pos : 0 < m = omega (arith, h0) in
    let e : length (take (2 * m) o) / 2 - 1 ≡ m - 1 = omega arith in
    rw (lt-ltb 0 (length (take (2 * m) o)) (omega arith), e, point_take o m (m - 1) (omega arith), ← hq) hb

-- a corner is written
pub put_wrote : (m : ℕ) (p : Point) (o : List Float) → 2 * m + 2 ≤ length o → WroteCorner m p o (set (set o (2 * m) p.x) (2 * m + 1) p.y)
put_wrote m p o h = record { front = two_front m o p.x p.y h; rest = two_rest m o p.x p.y h }

-- a corner is pushed, or not
module _ (m : ℕ) (p : Point) (b : List Float) where
  pub grew_not : {t : Bool} → t ≡ ends_in (take (2 * m) b) p → t ≡ true → Grew (pushed (take (2 * m) b) p) m m b
  unfolding pushed
  grew_not e h =
      let q : ends_in (take (2 * m) b) p ≡ true = sym e ∙ h in
      record { front = rw q; grows = omega arith; most = omega arith }

  pub grew : (a : List Float) {t : Bool} → t ≡ ends_in (take (2 * m) b) p → t ≡ false → WroteCorner m p b a → Grew (pushed (take (2 * m) b) p) m (m + 1) a
  unfolding pushed
  grew a e h w =
      let q : ends_in (take (2 * m) b) p ≡ false = sym e ∙ h in
      record { front = rw q w.front; grows = omega arith; most = omega arith }

-- ---- the corners are gathered

pub drop_pair : (v : List Float) (i : ℕ) → 2 * i + 1 < length v → drop (2 * i) v ≡ (point v i).x ∷ (point v i).y ∷ drop (2 * (i + 1)) v
unfolding point
drop_pair v i h =
    let d : drop (2 * i) v ≡ get_or v (2 * i) nan ∷ drop (2 * i + 1) v = rw (add-one, drop-cons v (2 * i) nan (omega arith)) in
    let d₁ : drop (2 * i + 1) v ≡ get_or v (2 * i + 1) nan ∷ drop (suc (2 * i + 1)) v = drop-cons v (2 * i + 1) nan h in
    let e : suc (2 * i + 1) ≡ 2 * (i + 1) = omega arith in
    d ∙ ap (λ (l : List Float). get_or v (2 * i) nan ∷ l) (d₁ ∙ ap (λ (j : ℕ). get_or v (2 * i + 1) nan ∷ drop j v) e)

pub gathered_next : (o v : List Float) (i : ℕ) → 2 * i + 1 < length v → gathered o (drop (2 * i) v) ≡ gathered (pushed o (point v i)) (drop (2 * (i + 1)) v)
unfolding gathered point
gathered_next o v i h = ap (gathered o) (drop_pair v i h)

gathered_short : (o l : List Float) → length l ≤ 1 → gathered o l ≡ o
unfolding gathered
gathered_short o [] h = refl
gathered_short o (x ∷ []) h = refl
gathered_short o (x ∷ y ∷ l) h = absurd (not-suc-le-zero (le_of_suc-le-suc h))

pub gathered_end : (o v : List Float) (i : ℕ) → length v / 2 ≤ i → gathered o (drop (2 * i) v) ≡ o
gathered_end o v i h = gathered_short o (drop (2 * i) v) (rw length-drop (omega arith))

-- ---- last corners that equal the first go

pub stay_next : (o : List Float) (k : ℕ) → 1 < k → same (point o 0) (point o (k - 1)) ≡ true → stay o k ≡ stay o (k - 1)
unfolding stay
stay_next o zero h e = absurd (not-suc-le-zero h)
stay_next o (suc zero) h e = absurd (not-suc-le-zero (le_of_suc-le-suc h))
stay_next o (suc (suc k)) h e =
    let s : suc (suc k) - 1 ≡ suc k = omega arith in
    let q : same (point o 0) (point o (suc k)) ≡ true = rw s at e in
    rw (s, q)

pub stay_stop : (o : List Float) (k : ℕ) → 1 < k → same (point o 0) (point o (k - 1)) ≡ false → stay o k ≡ k
unfolding stay
stay_stop o zero h e = absurd (not-suc-le-zero h)
stay_stop o (suc zero) h e = absurd (not-suc-le-zero (le_of_suc-le-suc h))
stay_stop o (suc (suc k)) h e =
    let s : suc (suc k) - 1 ≡ suc k = omega arith in
    let q : same (point o 0) (point o (suc k)) ≡ false = rw s at e in
    rw q

pub stay_end : (o : List Float) (k : ℕ) → k ≤ 1 → stay o k ≡ k
unfolding stay
stay_end o zero h = refl
stay_end o (suc zero) h = refl
stay_end o (suc (suc k)) h = absurd (not-suc-le-zero (le_of_suc-le-suc h))

stay_take : (o : List Float) (m k : ℕ) → k ≤ m → stay (take (2 * m) o) k ≡ stay o k
unfolding stay
stay_take o m zero h = refl
stay_take o m (suc zero) h = refl
stay_take o m (suc (suc k)) h =
    rw (point_take o m 0 (omega arith), point_take o m (suc k) (omega arith))
    (ap (λ (n : ℕ). cond (same (point o 0) (point o (suc k))) n (suc (suc k))) (stay_take o m (suc k) (omega arith)))

pub cleaned_is : (v : List Float) (m r : ℕ) (a : List Float) → 2 * m ≤ length a → take (2 * m) a ≡ gathered [] v → (r ≡ stay a m) × (r ≤ m) → take (2 * r) a ≡ clean_polygon v
unfolding clean_polygon
cleaned_is v m r a hm e q =
    let n : length (gathered [] v) ≡ 2 * m = ap length (sym e) ∙ length-take-le (2 * m) a hm in
    let n₂ : length (gathered [] v) / 2 ≡ m = omega arith in
    let s : stay (gathered [] v) (length (gathered [] v) / 2) ≡ r =
    ap (stay (gathered [] v)) n₂ ∙ ap (λ (o : List Float). stay o m) (sym e) ∙ stay_take a m m (omega arith) ∙ sym q.0 in
    sym (take-take (2 * r) (2 * m) a (omega (arith, q.1))) ∙ ap (take (2 * r)) e ∙ ap (λ (j : ℕ). take (2 * j) (gathered [] v)) (sym s)

-- ---- the area

pub sides_next : (v : List Float) (n : ℕ) (s : Float) (i : ℕ) → i < n
    → sides v n s i (n - i) ≡ sides v n (add binary64 s (wedge (point v i) (point v ((i + 1) % n)))) (i + 1) (n - (i + 1))
unfolding sides
sides_next v n s i h =
    let e : n - i ≡ suc (n - (i + 1)) = omega arith in
    ap (sides v n s i) e ∙ ap (λ (j : ℕ). sides v n (add binary64 s (wedge (point v i) (point v ((i + 1) % n)))) j (n - (i + 1))) (sym (add-one i))

pub area_is : (v : List Float) (s : Float) (i : ℕ) → length v / 2 ≤ i → sides v (length v / 2) s i (length v / 2 - i) ≡ sides v (length v / 2) (of_bits binary64 0) 0 (length v / 2)
    → div binary64 s (of_bits binary64 0x4000_0000_0000_0000) ≡ signed_area v
unfolding signed_area sides
area_is v s i h q =
    let e : length v / 2 - i ≡ 0 = omega arith in
    ap (λ (x : Float). div binary64 x (of_bits binary64 0x4000_0000_0000_0000)) (ap (sides v (length v / 2) s i) (sym e) ∙ q)
