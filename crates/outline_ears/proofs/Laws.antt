-- Laws of the searches, in the form that the code's loops go by. Assumes nothing.
use Rattle.std.proofs.Common.{Option, Some, None}
use Prim.Native.Nat.{ℕ, zero, suc, ◌+◌, ◌-◌, ◌%◌, ◌<◌, ◌≤◌}
use mathlib.Core.Path.{◌≡◌, refl, sym, ap, ◌∙◌}
use mathlib.Core.Bool.{Bool, true, false, cond, not, ◌||◌}
use mathlib.Core.List.{List}
use native.Mathlib.Numerals.{add-one}
use native.Mathlib.Nat.{mod-lt, mod_self, mod-eq_of_lt, add-mod_left, sub-zero}
use native.Mathlib.Omega.{arith}
use lib.ListN.{length, get_or, take, drop, drop_of_length-le}
use lib.Seq.{drop-cons, get_or-take, length-take-le}
use lib.Ieee.{Float, le}
use Rattle.ieee.specs.Number.{absolute}
use Rattle.outline.specs.declared.Point.{Point}
use Rattle.outline.specs.Corners.{point}
use Rattle.outline_triangle.specs.Triangle.{blocks}
use Rattle.outline_triangle.specs.declared.Triangle.{Triangle}
use Rattle.outline_ears.specs.Ears.{any, blocked, ip, inx, triangle_at, cross_at, is_ear, is_flat, counting, find, first_ear, first_flat}
use Rattle.outline_ears.specs.Inside.{Inside}
use Rattle.outline_ears.specs.Kinds.{kind_of, Kinds, is_ear_kind, is_flat_kind, is_flat_of, first_flat_of}
use Rattle.outline_ears.specs.declared.CornerKind.{CornerKind}
use Rattle.outline_ears.specs.declared.CornerKind.TheVariants.{Ear, Flat, Neither}
use Rattle.outline_ears.specs.contracts.CornerKind.{the_type}
use denote.Enum.Bare.{sameb}
use Rattle.outline_ears.proofs.Tests.{ear_by, flat_by, absolute_le}

-- ---- the indices beside k, with no division

pub previous_of_first : (k n : ℕ) → 0 < n → k ≡ 0 → n - 1 ≡ (k + n - 1) % n
previous_of_first k n h e = let s : k + n - 1 ≡ n - 1 = omega arith in sym (ap (λ (x : ℕ). x % n) s ∙ mod-eq_of_lt (omega arith))

pub previous_of_later : (k n : ℕ) → k ≤ n → 0 < k → k - 1 ≡ (k + n - 1) % n
previous_of_later k n h o =
    let s : k + n - 1 ≡ n + (k - 1) = omega arith in
    sym (ap (λ (x : ℕ). x % n) s ∙ add-mod_left n (k - 1) ∙ mod-eq_of_lt (omega arith))

pub next_of_last : (k n : ℕ) → k + 1 ≡ n → 0 ≡ (k + 1) % n
next_of_last k n e = sym (ap (λ (x : ℕ). x % n) e ∙ mod_self n)

pub next_of_earlier : (k n : ℕ) → k + 1 < n → k + 1 ≡ (k + 1) % n
next_of_earlier k n h = sym (mod-eq_of_lt h)

-- ---- a test of any corner that remains

any_next : (p : ℕ → Bool) (l : List ℕ) (i : ℕ) → i < length l → any p (drop i l) ≡ (p (get_or l i 0) || any p (drop (i + 1) l))
unfolding any
any_next p l i h = rw (add-one, drop-cons l i 0)

any_end : (p : ℕ → Bool) (l : List ℕ) (i : ℕ) → length l ≤ i → any p (drop i l) ≡ false
unfolding any
any_end p l i h = rw (drop_of_length-le l {i = i} h)

pub blocked_is : (v : List Float) (e : Float) (t : Triangle) (l : List ℕ) → any (blocks v e t) l ≡ blocked v e t l
unfolding blocked
blocked_is v e t l = refl

-- ---- the first index that passes, among those below m

find_next : (p : ℕ → Bool) (m k : ℕ) → k < m → find p (counting k (m - k)) ≡ cond (p k) (Some k) (find p (counting (k + 1) (m - (k + 1))))
unfolding find counting
find_next p m k h =
    let e : m - k ≡ suc (m - (k + 1)) = omega arith in
    rw (e, add-one)

pub find_end : (p : ℕ → Bool) (m k : ℕ) → m ≤ k → find p (counting k (m - k)) ≡ None
unfolding find counting
find_end p m k h =
    let e : m - k ≡ 0 = omega arith in
    rw e

-- index k passes, or it does not and the search goes on
module _ (p : ℕ → Bool) (m k : ℕ) (h : k < m) where
  pub find_here : p k ≡ true → find p (counting k (m - k)) ≡ Some k
  find_here e = find_next p m k h ∙ rw e

  pub find_on : p k ≡ false → find p (counting (k + 1) (m - (k + 1))) ≡ find p (counting k (m - k))
  find_on e = sym (find_next p m k h ∙ rw e)

-- an index that is found is one of those that were searched
find_by : (d k j : ℕ) (t : Bool) (r : Option ℕ) → (r ≡ Some j → j < suc k + d) → cond t (Some k) r ≡ Some j → j < k + suc d
find_by d k j true r h e = let z : k ≡ j = cc in omega arith
find_by d k j false r h e = omega (arith, h e)

pub find_below : (p : ℕ → Bool) (d k j : ℕ) → find p (counting k d) ≡ Some j → j < k + d
unfolding find counting
find_below p zero k j e = let z : ◌≡◌ {A = ℕ} 0 1 = cc in omega arith
find_below p (suc d) k j e = find_by d k j (p k) (find p (counting (suc k) d)) (λ q. find_below p d (suc k) j q) e

-- ---- the Rust's idx, in the code's array

module _ (v : List Float) (idx : List ℕ) (n : ℕ) (s : Inside v idx n) where
  pub idx_length : length (take n idx) ≡ n
  idx_length = length-take-le n idx (omega (arith, s.long, s.small))

  pub idx_at : (i : ℕ) → i < n → get_or (take n idx) i 0 ≡ get_or idx i 0
  idx_at i h = get_or-take n idx i 0 h

  ip_is : (k : ℕ) → k < n → ip (take n idx) k ≡ get_or idx ((k + n - 1) % n) 0
  unfolding ip
  ip_is k h = rw idx_length (idx_at ((k + n - 1) % n) (mod-lt _ (omega arith)))

  inx_is : (k : ℕ) → k < n → inx (take n idx) k ≡ get_or idx ((k + 1) % n) 0
  unfolding inx
  inx_is k h = rw idx_length (idx_at ((k + 1) % n) (mod-lt _ (omega arith)))

  pub triangle_is : (k : ℕ) → k < n → {p q : ℕ} → p ≡ (k + n - 1) % n → q ≡ (k + 1) % n → {a b c : Point} → a ≡ point v (get_or idx p 0) → b ≡ point v (get_or idx k 0)
      → c ≡ point v (get_or idx q 0)
      → ◌≡◌ {A = Triangle} (record { ip = get_or idx p 0; ic = get_or idx k 0; inx = get_or idx q 0; a = a; b = b; c = c }) (triangle_at v (take n idx) k)
  unfolding triangle_at
  triangle_is k h hp hq ha hb hc = rw (ip_is k h, idx_at k h, inx_is k h, ha, hb, hc, hp, hq)

  -- the number at index q passes the test, or it does not and the search goes on
  module _ (p : ℕ → Bool) (q : ℕ) where
    pub any_here : q < n → p (get_or idx q 0) ≡ true → true ≡ any p (drop q (take n idx))
    any_here h e = sym (any_next p (take n idx) q (omega (arith, idx_length)) ∙ rw (idx_at q h, e))

    pub any_on : q < n → p (get_or idx q 0) ≡ false → any p (drop (q + 1) (take n idx)) ≡ any p (drop q (take n idx))
    any_on h e = sym (any_next p (take n idx) q (omega (arith, idx_length)) ∙ rw (idx_at q h, e))

    pub any_none : n ≤ q → any p (drop q (take n idx)) ≡ false
    any_none h = any_end p (take n idx) q (omega (arith, idx_length))

  pub first_ear_is : (e : Float) → find (is_ear v e (take n idx)) (counting 0 (n - 0)) ≡ first_ear v e (take n idx)
  unfolding first_ear
  first_ear_is e = rw (idx_length, sub-zero)

-- ---- the kinds that the code keeps

find_same : (p q : ℕ → Bool) (d k : ℕ) → ((j : ℕ) → j < k + d → p j ≡ q j) → find p (counting k d) ≡ find q (counting k d)
unfolding find counting
find_same p q zero k h = refl
find_same p q (suc d) k h = rw (h k (omega arith), find_same p q d (suc k) (λ j l. h j (omega arith)))

pub first_flat_of_is : (kinds : List CornerKind) (m : ℕ) → find (is_flat_of kinds) (counting 0 (m - 0)) ≡ first_flat_of kinds m
unfolding first_flat_of
first_flat_of_is kinds m = rw sub-zero

-- the derived equality of kinds
pub same_ear : (k : CornerKind) → sameb the_type k Ear ≡ is_ear_kind k
unfolding is_ear_kind
same_ear Ear = refl
same_ear Flat = refl
same_ear Neither = refl

pub same_flat : (k : CornerKind) → sameb the_type k Flat ≡ is_flat_kind k
unfolding is_flat_kind
same_flat Ear = refl
same_flat Flat = refl
same_flat Neither = refl

module _ (kinds : List CornerKind) (k : ℕ) where
  pub flat_at : {t b : Bool} → t ≡ sameb the_type (get_or kinds k Ear) Flat → t ≡ b → is_flat_of kinds k ≡ b
  unfolding is_flat_of
  flat_at e h = sym (same_flat (get_or kinds k Ear)) ∙ sym e ∙ h

  pub ear_at : {t b : Bool} → t ≡ sameb the_type (get_or kinds k Ear) Ear → t ≡ b → is_ear_kind (get_or kinds k Ear) ≡ b
  ear_at e h = sym (same_ear (get_or kinds k Ear)) ∙ sym e ∙ h

-- a kind by its two tests
pub kind_flat : (e x : Float) {y : Float} → y ≡ absolute x → le x e ≡ true → le y e ≡ true → Flat ≡ kind_of e x
unfolding kind_of
kind_flat e x hy l f = rw (l, ← hy, f)

pub kind_neither : (e x : Float) {y : Float} → y ≡ absolute x → le x e ≡ true → le y e ≡ false → Neither ≡ kind_of e x
unfolding kind_of
kind_neither e x hy l f = rw (l, ← hy, f)

pub kind_ear : (e x : Float) → le x e ≡ false → Ear ≡ kind_of e x
unfolding kind_of
kind_ear e x l = rw l

-- and the two tests by a kind
ear_kind : (e x : Float) → is_ear_kind (kind_of e x) ≡ not (le x e)
unfolding kind_of
ear_kind e x = ear_by (le x e) (le (absolute x) e)

flat_kind : (e x : Float) → is_flat_kind (kind_of e x) ≡ le (absolute x) e
unfolding kind_of
flat_kind e x = flat_by (le x e) (le (absolute x) e) (absolute_le x e)

module _ (v : List Float) (e : Float) (idx : List ℕ) (kinds : List CornerKind) (n : ℕ) (s : Inside v idx n) (x : Kinds v e idx kinds n) where
  pub first_flat_by : first_flat_of kinds n ≡ first_flat v e (take n idx)
  unfolding first_flat_of first_flat is_flat_of is_flat
  first_flat_by =
      rw (idx_length v idx n s)
      (find_same (is_flat_of kinds) (is_flat v e (take n idx)) n 0
      (λ k h. ap is_flat_kind (x.there k (omega arith)) ∙ flat_kind e (cross_at v (take n idx) k)))

  -- the corner at index k, by the kind that is held there
  module _ (k : ℕ) (h : k < n) where
    held : is_ear_kind (get_or kinds k Ear) ≡ not (le (cross_at v (take n idx) k) e)
    held = ap is_ear_kind (x.there k h) ∙ ear_kind e (cross_at v (take n idx) k)

    pub is_ear_not : is_ear_kind (get_or kinds k Ear) ≡ false → false ≡ is_ear v e (take n idx) k
    unfolding is_ear
    is_ear_not l = rw (← held, l)

    pub is_ear_is : {t : Triangle} {b : Bool} → is_ear_kind (get_or kinds k Ear) ≡ true → t ≡ triangle_at v (take n idx) k → b ≡ blocked v e t (take n idx)
        → not b ≡ is_ear v e (take n idx) k
    unfolding is_ear
    is_ear_is l ht hb = rw (hb, ← held, l, ht)
