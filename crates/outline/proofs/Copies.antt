-- Laws of `reversed` and `swapped`, in the form that the code's loops go by. Assumes nothing.
use Prim.Native.Nat.{ℕ, ◌+◌, ◌-◌, ◌*◌, ◌/◌, ◌<◌, ◌≤◌}
use mathlib.Core.Path.{◌≡◌, refl, sym, ap, ◌∙◌}
use mathlib.Core.Bool.{Bool, true, false}
use mathlib.Core.List.{List, [], ◌∷◌, ◌++◌, append_assoc, append-nil}
use native.Mathlib.Nat.{not-suc-le-zero, le_of_suc-le-suc}
use native.Mathlib.Omega.{arith}
use lib.ListN.{length, get_or, take, drop, length-take, length-drop, length-append, take-append-drop, drop_of_length-le}
use lib.Seq.{length-take-le, take_at, drop_at, get_or-append-add}
use lib.Ieee.{Float, nan, binary64, lt, of_bits}
use Rattle.slice_law.specs.Lists.{drop_further}
use Rattle.outline.specs.Corners.{point}
use Rattle.outline.specs.Clean.{clean_polygon}
use Rattle.outline.specs.Area.{signed_area}
use Rattle.outline.specs.Ccw.{swapped, reversed, ccw_polygon, prepared}
use Rattle.outline.specs.Slices.{WroteCorner, Copied, Holds}
use Rattle.outline.specs.declared.Point.{Point}
use Rattle.outline.proofs.Laws.{drop_pair}

-- ---- the corners at the start of a slice

pub holds_within : {o : List Float} {r : ℕ} {a : List Float} → Holds o r a → 2 * r ≤ length a
holds_within {o} {r} {a} h = omega (arith, h.count, ap length h.front, length-take (2 * r) a)

pub holds_as : {l l' : List Float} {n : ℕ} {a : List Float} → l ≡ l' → Holds l n a → Holds l' n a
holds_as e h = record { count = h.count ∙ ap length e; front = h.front ∙ e }

pub clean_is : (v : List Float) (n : ℕ) (b : List Float) → 2 * n ≤ length b → take (2 * n) b ≡ clean_polygon v → Holds (clean_polygon v) n b
clean_is v n b h e = record { count = sym (length-take-le (2 * n) b h) ∙ ap length e; front = e }

-- ---- the corners are reversed in place

pub length_reversed : (l : List Float) → length (reversed l) ≡ 2 * (length l / 2)
unfolding reversed
length_reversed [] = refl
length_reversed (x ∷ []) = refl
length_reversed (x ∷ y ∷ l) = omega (arith, length-append (reversed l) (x ∷ y ∷ []), length_reversed l)

pub reversed_append : (n : ℕ) (xs ys : List Float) → length xs ≡ 2 * n → reversed (xs ++ ys) ≡ reversed ys ++ reversed xs
unfolding reversed
reversed_append n [] ys h = sym (append-nil (reversed ys))
reversed_append n (x ∷ []) ys h = absurd (omega (arith, h))
reversed_append n (x ∷ y ∷ xs) ys h =
    ap (λ (r : List Float). r ++ (x ∷ y ∷ [])) (reversed_append (n - 1) xs ys (omega (arith, h))) ∙ append_assoc (reversed ys) (reversed xs) (x ∷ y ∷ [])

reversed_one : (n : ℕ) (l : List Float) → length l ≡ 2 * n → n ≤ 1 → reversed l ≡ l
unfolding reversed
reversed_one n [] h k = refl
reversed_one n (x ∷ []) h k = absurd (omega (arith, h))
reversed_one n (x ∷ y ∷ []) h k = refl
reversed_one n (x ∷ y ∷ z ∷ l) h k = absurd (omega (arith, h))

-- a corner after the corners X
module _ (m : ℕ) (X Y : List Float) (x y : Float) (b : List Float) (hX : length X ≡ 2 * m) (hb : b ≡ X ++ (x ∷ y ∷ Y)) where
  point_after : point b m ≡ record { x = x; y = y }
  unfolding point
  point_after =
      let e : 2 * m ≡ length X + 0 = omega arith in
      let e₁ : 2 * m + 1 ≡ length X + 1 = omega arith in
      let gx : get_or b (2 * m) nan ≡ x =
      ap (λ (l : List Float). get_or l (2 * m) nan) hb ∙ ap (λ (k : ℕ). get_or (X ++ (x ∷ y ∷ Y)) k nan) e ∙ get_or-append-add X (x ∷ y ∷ Y) 0 nan in
      let gy : get_or b (2 * m + 1) nan ≡ y =
      ap (λ (l : List Float). get_or l (2 * m + 1) nan) hb ∙ ap (λ (k : ℕ). get_or (X ++ (x ∷ y ∷ Y)) k nan) e₁ ∙ get_or-append-add X (x ∷ y ∷ Y) 1 nan in
      rw (gx, gy)

  wrote_after : (p : Point) (a : List Float) → WroteCorner m p b a → a ≡ X ++ (p.x ∷ p.y ∷ Y)
  wrote_after p a w =
      let n : length (X ++ (x ∷ y ∷ [])) ≡ 2 * (m + 1) = simp length-append (omega arith) in
      let f : take (2 * m) b ≡ X = ap (take (2 * m)) hb ∙ take_at X (x ∷ y ∷ Y) (2 * m) hX in
      let r : drop (2 * (m + 1)) b ≡ Y =
      ap (drop (2 * (m + 1))) (hb ∙ sym (append_assoc X (x ∷ y ∷ []) Y)) ∙ drop_at (X ++ (x ∷ y ∷ [])) Y (2 * (m + 1)) n in
      sym (take-append-drop (2 * (m + 1)) a)
      ∙ ap (λ (l : List Float). l ++ drop (2 * (m + 1)) a) (w.front ∙ ap (λ (l : List Float). l ++ (p.x ∷ p.y ∷ [])) f)
      ∙ ap (λ (l : List Float). (X ++ (p.x ∷ p.y ∷ [])) ++ l) (w.rest ∙ r)
      ∙ append_assoc X (p.x ∷ p.y ∷ []) Y

-- what the loop of `reverse` keeps: n corners of l₀ are being reversed, o has the first i and the last i of them in their new places and the others as before
pub record Turning (n i j : ℕ) (l₀ o : List Float) : Type 0 where
  pub front : List Float
  pub middle : List Float
  pub back : List Float
  pub rest : List Float
  pub parts : o ≡ front ++ (middle ++ (back ++ rest))
  pub whole : front ++ (reversed middle ++ back) ≡ reversed (take (2 * n) l₀)
  pub low : length front ≡ 2 * i
  pub mid : length middle ≡ 2 * (j - i)
  pub high : length back ≡ 2 * i

pub turning_start : (n : ℕ) (l₀ : List Float) → 2 * n ≤ length l₀ → Turning n 0 n l₀ l₀
turning_start n l₀ h =
    record {
      front = [];
      middle = take (2 * n) l₀;
      back = [];
      rest = drop (2 * n) l₀;
      parts = sym (take-append-drop (2 * n) l₀);
      whole = append-nil (reversed (take (2 * n) l₀));
      low = refl;
      mid = length-take-le (2 * n) l₀ h ∙ omega arith;
      high = refl;
    }

-- at least two corners are a first one, those between, and a last one
record Ends (k : ℕ) (l : List Float) : Type 0 where
  between : List Float
  first : Point
  last : Point
  parts : l ≡ first.x ∷ first.y ∷ (between ++ (last.x ∷ last.y ∷ []))
  many : length between ≡ 2 * k

ends_of : (k : ℕ) (l : List Float) → length l ≡ 2 * (k + 2) → Ends k l
ends_of k l h =
    let v : List Float = drop (2 * 1) l in
    let n : length v ≡ 2 * (k + 1) = length-drop (2 * 1) l ∙ omega arith in
    let e : drop (2 * (k + 1)) v ≡ [] = drop_of_length-le v {i = 2 * (k + 1)} (omega arith) in
    record {
      between = take (2 * k) v;
      first = point l 0;
      last = point v k;
      parts =
          drop_pair l 0 (omega arith)
          ∙ ap (λ (r : List Float). (point l 0).x ∷ (point l 0).y ∷ r)
          (sym (take-append-drop (2 * k) v)
          ∙ ap (λ (r : List Float). take (2 * k) v ++ r) (drop_pair v k (omega arith) ∙ ap (λ (r : List Float). (point v k).x ∷ (point v k).y ∷ r) e));
      many = length-take-le (2 * k) v (omega arith);
    }

reversed_ends : (k : ℕ) (x y z u : Float) (l : List Float) → length l ≡ 2 * k → reversed (x ∷ y ∷ (l ++ (z ∷ u ∷ []))) ≡ z ∷ u ∷ (reversed l ++ (x ∷ y ∷ []))
unfolding reversed
reversed_ends k x y z u l h = ap (λ (r : List Float). r ++ (x ∷ y ∷ [])) (reversed_append k l (z ∷ u ∷ []) h)

-- the corners f and l at the ends of the middle, M between them, change places
module _ (i j : ℕ) (A M Y : List Float) (f l : Point) (o : List Float) (h : i + 1 < j) (hA : length A ≡ 2 * i) (hM : length M ≡ 2 * (j - i - 2)) (ho : o ≡ A ++ (f.x ∷ f.y ∷ (M ++ (l.x ∷ l.y ∷ Y)))) where
  to_last : (c : Point) → length (A ++ (c.x ∷ c.y ∷ M)) ≡ 2 * (j - 1)
  to_last c = simp length-append (omega (arith, hA, hM, h))

  first_is : {p : Point} → p ≡ point o i → p ≡ f
  first_is hp = hp ∙ point_after i A (M ++ (l.x ∷ l.y ∷ Y)) f.x f.y o hA ho

  last_is : {q : Point} → q ≡ point o (j - 1) → q ≡ l
  last_is hq = hq ∙ point_after (j - 1) (A ++ (f.x ∷ f.y ∷ M)) Y l.x l.y o (to_last f) (ho ∙ sym (append_assoc A (f.x ∷ f.y ∷ M) (l.x ∷ l.y ∷ Y)))

  changed : (p q : Point) (b a : List Float) → WroteCorner i q o b → WroteCorner (j - 1) p b a → a ≡ A ++ (q.x ∷ q.y ∷ (M ++ (p.x ∷ p.y ∷ Y)))
  changed p q b a w w' =
      let e : b ≡ A ++ (q.x ∷ q.y ∷ (M ++ (l.x ∷ l.y ∷ Y))) = wrote_after i A (M ++ (l.x ∷ l.y ∷ Y)) f.x f.y o hA ho q b w in
      wrote_after (j - 1) (A ++ (q.x ∷ q.y ∷ M)) Y l.x l.y b (to_last q) (e ∙ sym (append_assoc A (q.x ∷ q.y ∷ M) (l.x ∷ l.y ∷ Y))) p a w'
      ∙ append_assoc A (q.x ∷ q.y ∷ M) (p.x ∷ p.y ∷ Y)

pub turning_next : (n i j : ℕ) (l₀ o : List Float) (p q : Point) (b a : List Float) → i + 1 < j → Turning n i j l₀ o → p ≡ point o i → q ≡ point o (j - 1)
    → WroteCorner i q o b → WroteCorner (j - 1) p b a → Turning n (i + 1) (j - 1) l₀ a
turning_next n i j l₀ o p q b a h t hp hq w w' =
    let e : Ends (j - i - 2) t.middle = ends_of (j - i - 2) t.middle (t.mid ∙ omega (arith, h)) in
    let A = t.front in
    let M = e.between in
    let B = t.back in
    let f = e.first in
    let l = e.last in
    let ho : o ≡ A ++ (f.x ∷ f.y ∷ (M ++ (l.x ∷ l.y ∷ (B ++ t.rest)))) =
    t.parts ∙ ap (λ (m : List Float). A ++ (m ++ (B ++ t.rest))) e.parts ∙ simp append_assoc in
    let fp : p ≡ f = first_is i j A M (B ++ t.rest) f l o h t.low e.many ho hp in
    let lq : q ≡ l = last_is i j A M (B ++ t.rest) f l o h t.low e.many ho hq in
    record {
      front = A ++ (q.x ∷ q.y ∷ []);
      middle = M;
      back = p.x ∷ p.y ∷ B;
      rest = t.rest;
      parts = changed i j A M (B ++ t.rest) f l o h t.low e.many ho p q b a w w' ∙ sym (append_assoc A (q.x ∷ q.y ∷ []) (M ++ (p.x ∷ p.y ∷ (B ++ t.rest))));
      whole =
          append_assoc A (q.x ∷ q.y ∷ []) (reversed M ++ (p.x ∷ p.y ∷ B))
          ∙ ap (λ (c : Point). A ++ (c.x ∷ c.y ∷ (reversed M ++ (p.x ∷ p.y ∷ B)))) lq
          ∙ ap (λ (c : Point). A ++ (l.x ∷ l.y ∷ (reversed M ++ (c.x ∷ c.y ∷ B)))) fp
          ∙ ap (λ (r : List Float). A ++ (l.x ∷ l.y ∷ r)) (sym (append_assoc (reversed M) (f.x ∷ f.y ∷ []) B))
          ∙ ap (λ (r : List Float). A ++ (r ++ B)) (sym (ap reversed e.parts ∙ reversed_ends (j - i - 2) f.x f.y l.x l.y M e.many))
          ∙ t.whole;
      low = simp length-append (omega (arith, t.low));
      mid = e.many ∙ omega (arith, h);
      high = omega (arith, t.high);
    }

pub turning_end : (n i j : ℕ) (l₀ o : List Float) → i + j ≡ n → i ≤ j → j ≤ i + 1 → Turning n i j l₀ o → take (2 * n) o ≡ reversed (take (2 * n) l₀)
turning_end n i j l₀ o hn hi hj t =
    let A = t.front in
    let M = t.middle in
    let B = t.back in
    let k : length (A ++ (M ++ B)) ≡ 2 * n =
    simp length-append (omega (arith, t.low, t.mid, t.high)) in
    ap (take (2 * n)) (t.parts ∙ simp append_assoc)
    ∙ take_at (A ++ (M ++ B)) t.rest (2 * n) k
    ∙ ap (λ (r : List Float). A ++ (r ++ B)) (sym (reversed_one (j - i) M t.mid (omega arith)))
    ∙ t.whole

-- ---- the corners are copied, swapped

swapped_short : (l : List Float) → length l ≤ 1 → swapped l ≡ []
unfolding swapped
swapped_short [] h = refl
swapped_short (x ∷ []) h = refl
swapped_short (x ∷ y ∷ l) h = absurd (not-suc-le-zero (le_of_suc-le-suc h))

pub length_swapped : (l : List Float) → length (swapped l) ≡ 2 * (length l / 2)
unfolding swapped
length_swapped [] = refl
length_swapped (x ∷ []) = refl
length_swapped (x ∷ y ∷ l) = omega (arith, length_swapped l)

-- a corner more at the front of a slice, of which the rest is still that of b₀
module _ (o' : List Float) (i : ℕ) (p : Point) (b₀ b a o : List Float) (front : take (2 * i) b ≡ o) (rest : drop (2 * i) b ≡ drop (2 * i) b₀) (w : WroteCorner i p b a) where
  front_next : o ++ (p.x ∷ p.y ∷ []) ≡ o' → take (2 * (i + 1)) a ≡ o'
  front_next e = w.front ∙ ap (λ (l : List Float). l ++ (p.x ∷ p.y ∷ [])) front ∙ e

  rest_next : drop (2 * (i + 1)) a ≡ drop (2 * (i + 1)) b₀
  rest_next = w.rest ∙ drop_further (2 * i) (2 * (i + 1)) b b₀ (omega arith) rest

copied_is : (o : List Float) (n i : ℕ) (b a : List Float) → i ≡ n → length o ≡ 2 * n → take (2 * i) a ≡ o → drop (2 * i) a ≡ drop (2 * i) b → Copied o n b a
copied_is o n i b a hi hl f r =
    let e : 2 * i ≡ length o = omega arith in
    record {
      count = sym hl;
      slice = sym (take-append-drop (2 * i) a) ∙ ap (λ (l : List Float). l ++ drop (2 * i) a) f ∙ ap (λ (l : List Float). o ++ l) (r ∙ ap (λ (j : ℕ). drop j b) e);
    }

-- what the loop of `copy_swapped` keeps: the first i corners of v are there, swapped
pub record Swapping (v : List Float) (i : ℕ) (b a : List Float) : Type 0 where
  pub long : length a ≡ length b
  pub front : take (2 * i) a ++ swapped (drop (2 * i) v) ≡ swapped v
  pub rest : drop (2 * i) a ≡ drop (2 * i) b

pub swapping_start : (v b : List Float) → Swapping v 0 b b
swapping_start v b = record { long = refl; front = refl; rest = refl }

pub swapping_next : (v : List Float) (i : ℕ) (p q : Point) (b₀ b a : List Float) → i < length v / 2 → q ≡ point v i → p.x ≡ q.y → p.y ≡ q.x → length a ≡ length b
    → Swapping v i b₀ b → WroteCorner i p b a → Swapping v (i + 1) b₀ a
unfolding swapped
swapping_next v i p q b₀ b a h hq hx hy hl r w =
    let e : swapped (drop (2 * i) v) ≡ (point v i).y ∷ (point v i).x ∷ swapped (drop (2 * (i + 1)) v) = ap swapped (drop_pair v i (omega arith)) in
    let ex : p.x ≡ (point v i).y = hx ∙ ap (λ (s : Point). s.y) hq in
    let ey : p.y ≡ (point v i).x = hy ∙ ap (λ (s : Point). s.x) hq in
    record {
      long = hl ∙ r.long;
      front =
          ap (λ (l : List Float). l ++ swapped (drop (2 * (i + 1)) v)) w.front
          ∙ append_assoc (take (2 * i) b) (p.x ∷ p.y ∷ []) (swapped (drop (2 * (i + 1)) v))
          ∙ ap (λ (s : Float). take (2 * i) b ++ (s ∷ p.y ∷ swapped (drop (2 * (i + 1)) v))) ex
          ∙ ap (λ (s : Float). take (2 * i) b ++ ((point v i).y ∷ s ∷ swapped (drop (2 * (i + 1)) v))) ey
          ∙ ap (λ (l : List Float). take (2 * i) b ++ l) (sym e)
          ∙ r.front;
      rest = rest_next [] i p b₀ b a (take (2 * i) b) refl r.rest w;
    }

pub swapping_end : (v : List Float) (i : ℕ) (b a : List Float) → i ≡ length v / 2 → Swapping v i b a → Copied (swapped v) i b a
swapping_end v i b a h r =
    copied_is (swapped v) i i b a refl (length_swapped v ∙ ap (λ (n : ℕ). 2 * n) (sym h))
    (sym (append-nil (take (2 * i) a)) ∙ ap (λ (l : List Float). take (2 * i) a ++ l) (sym (swapped_short (drop (2 * i) v) (rw length-drop (omega arith)))) ∙ r.front) r.rest

-- ---- `ccw_polygon`: n cleaned corners are at the start of o, and x is their signed area

module _ (v : List Float) (n : ℕ) (o : List Float) (x : Float) (ho : Holds (clean_polygon v) n o) (hx : x ≡ signed_area (take (2 * n) o)) where
  area : x ≡ signed_area (clean_polygon v)
  area = hx ∙ ap signed_area ho.front

  pub ccw_kept : lt x (of_bits binary64 0) ≡ false → Holds (ccw_polygon v) n o
  unfolding ccw_polygon
  ccw_kept h = rw (← area, h) ho

  pub ccw_reversed : (a : List Float) → lt x (of_bits binary64 0) ≡ true → take (2 * n) a ≡ reversed (take (2 * n) o) → Holds (ccw_polygon v) n a
  unfolding ccw_polygon
  ccw_reversed a h k =
      rw (← area, h) (record { count = omega (arith, ho.count, length_reversed (clean_polygon v)); front = k ∙ ap reversed ho.front })

-- ---- `prepare`
pub copied_short : (v : List Float) (m : ℕ) (b a : List Float) → Copied (swapped v) m b a → 2 * m ≤ length v
copied_short v m b a k = omega (arith, k.count, length_swapped v)

pub copied_take : (v : List Float) (m : ℕ) (b a : List Float) → Copied (swapped v) m b a → take (2 * m) a ≡ swapped v
copied_take v m b a k = ap (take (2 * m)) k.slice ∙ take_at (swapped v) (drop (length (swapped v)) b) (2 * m) (sym k.count)

pub prepared_swapped : (v p : List Float) (swap : Bool) → swap ≡ true → p ≡ swapped v → ccw_polygon p ≡ prepared swap v
unfolding prepared
prepared_swapped v p swap h e = rw (h, e)

pub prepared_as_given : (v : List Float) (swap : Bool) → swap ≡ false → ccw_polygon v ≡ prepared swap v
unfolding prepared
prepared_as_given v swap h = rw h
