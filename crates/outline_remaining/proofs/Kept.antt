-- Where a corner goes, only the crosses of the two beside it change, and so their kinds. Assumes nothing.
use Prim.Native.Nat.{ℕ, ◌+◌, ◌-◌, ◌*◌, ◌%◌, ◌<◌, ◌≤◌}
use mathlib.Core.Path.{◌≡◌, sym, ap, ◌∙◌}
use mathlib.Core.List.{List}
use native.Mathlib.Nat.{mod_self, mod-eq_of_lt, zero-mod}
use native.Mathlib.Decide.{ℕ_discrete, dec_lt}
use native.Mathlib.Omega.{arith}
use lib.ListN.{length, get_or, take, set, length-set}
use lib.Seq.{get_or-take, get_or-set_same, get_or-set_other, length-take-le}
use lib.Ieee.{Float}
use Rattle.outline.specs.Corners.{point}
use Rattle.outline_triangle.specs.Triangle.{cross}
use Rattle.outline_triangle.specs.declared.Triangle.{Triangle}
use Rattle.outline_ears.specs.Ears.{ip, inx, triangle_at, cross_at}
use Rattle.outline_ears.specs.Inside.{Inside}
use Rattle.outline_ears.specs.Kinds.{kind_of, kind_at, Kinds}
use Rattle.outline_ears.proofs.Laws.{previous_of_first, previous_of_later, next_of_last, next_of_earlier, idx_length, idx_at}
use Rattle.outline_remaining.specs.Without.{without, TakenOut}
use Rattle.outline_ears.specs.declared.CornerKind.{CornerKind}
use Rattle.outline_ears.specs.declared.CornerKind.TheVariants.{Ear}
use Rattle.outline_ears.specs.declared.Remaining.{Remaining}
use Rattle.outline_remaining.specs.Removed.{before, after, anew, SameCorners, Removed}
use Rattle.outline_remaining.proofs.Taken.{length_without, getD_without_low, getD_without}

-- ---- the corners beside the one at index j, with no division

module _ (l : List ℕ) (j : ℕ) where
  ip_first : 0 < length l → j ≡ 0 → ip l j ≡ get_or l (length l - 1) 0
  unfolding ip
  ip_first h e = ap (λ (i : ℕ). get_or l i 0) (sym (previous_of_first j (length l) h e))

  ip_later : j ≤ length l → 0 < j → ip l j ≡ get_or l (j - 1) 0
  unfolding ip
  ip_later h o = ap (λ (i : ℕ). get_or l i 0) (sym (previous_of_later j (length l) h o))

  inx_last : j + 1 ≡ length l → inx l j ≡ get_or l 0 0
  unfolding inx
  inx_last e = ap (λ (i : ℕ). get_or l i 0) (sym (next_of_last j (length l) e))

  inx_earlier : j + 1 < length l → inx l j ≡ get_or l (j + 1) 0
  unfolding inx
  inx_earlier h = ap (λ (i : ℕ). get_or l i 0) (sym (next_of_earlier j (length l) h))

  pub cross_by : (v : List Float) (l' : List ℕ) (i : ℕ) → ip l' i ≡ ip l j → get_or l' i 0 ≡ get_or l j 0 → inx l' i ≡ inx l j → cross_at v l' i ≡ cross_at v l j
  unfolding cross_at triangle_at
  cross_by v l' i a b c = λ t. cross (point v (a t)) (point v (b t)) (point v (c t))

-- the kind of t, the corner at index k with its neighbours
pub kind_is : (v : List Float) (e : Float) (l : List ℕ) (k : ℕ) {t : Triangle} {x : Float} {y : CornerKind} → t ≡ triangle_at v l k → x ≡ cross t.a t.b t.c → y ≡ kind_of e x
    → y ≡ kind_at v e l k
unfolding cross_at
kind_is v e l k ht hx hy = hy ∙ ap (kind_of e) (hx ∙ ap (λ (t : Triangle). cross t.a t.b t.c) ht)

-- ---- the corner at index k of l goes, and j is an index of those that remain, which is neither of the two beside it: the cross there is the one that the same
-- ---- corner had, at index j before it, or at j + 1

module _ (v : List Float) (l : List ℕ) (k j : ℕ) (hk : k < length l) (hj : j + 1 < length l) where
  n : length (without k l) ≡ length l - 1
  n = length_without k l hk

  module _ (h : j < k) (ne : j + 1 ≡ k → ⊥) (nl : k + 1 ≡ length l → j ≡ 0 → ⊥) where
    ip_low : Dec (0 < j) → ip (without k l) j ≡ ip l j
    ip_low (yes o) =
        ip_later (without k l) j (omega (arith, n)) o
        ∙ getD_without_low k l (j - 1) 0 (omega arith) (omega arith)
        ∙ sym (ip_later l j (omega arith) o)
    ip_low (no o) =
        let z : j ≡ 0 = omega (arith, o) in
        let q : k + 1 ≡ length l → ⊥ = λ e. nl e z in
        let w : k + 1 < length l = omega (arith, q) in
        ip_first (without k l) j (omega (arith, n)) z
        ∙ getD_without k l (length (without k l) - 1) 0 (omega (arith, n)) hk
        ∙ ap (λ (i : ℕ). get_or l i 0) (omega (arith, n))
        ∙ sym (ip_first l j (omega arith) z)

    inx_low : inx (without k l) j ≡ inx l j
    inx_low =
        let w : j + 1 < k = omega (arith, ne) in
        inx_earlier (without k l) j (omega (arith, n)) ∙ getD_without_low k l (j + 1) 0 w (omega arith) ∙ sym (inx_earlier l j hj)

    pub cross_low : cross_at v (without k l) j ≡ cross_at v l j
    cross_low = cross_by l j v (without k l) j (ip_low (dec_lt 0 j)) (getD_without_low k l j 0 h (omega arith)) inx_low

  module _ (h : k ≤ j) (ne : j ≡ k → ⊥) (nf : k ≡ 0 → j + 2 ≡ length l → ⊥) where
    ip_high : ip (without k l) j ≡ ip l (j + 1)
    ip_high =
        let w : k < j = omega (arith, ne) in
        ip_later (without k l) j (omega (arith, n)) (omega arith)
        ∙ getD_without k l (j - 1) 0 (omega arith) hk
        ∙ ap (λ (i : ℕ). get_or l i 0) (omega arith)
        ∙ sym (ip_later l (j + 1) (omega arith) (omega arith))

    inx_high : Dec (j + 2 < length l) → inx (without k l) j ≡ inx l (j + 1)
    inx_high (yes o) =
        inx_earlier (without k l) j (omega (arith, n))
        ∙ getD_without k l (j + 1) 0 (omega arith) hk
        ∙ sym (inx_earlier l (j + 1) (omega arith))
    inx_high (no o) =
        let z : j + 2 ≡ length l = omega (arith, o) in
        let q : k ≡ 0 → ⊥ = λ e. nf e z in
        inx_last (without k l) j (omega (arith, n))
        ∙ getD_without_low k l 0 0 (omega (arith, q)) (omega arith)
        ∙ sym (inx_last l (j + 1) (omega arith))

    pub cross_high : cross_at v (without k l) j ≡ cross_at v l (j + 1)
    cross_high = cross_by l (j + 1) v (without k l) j ip_high (getD_without k l j 0 h hk) (inx_high (dec_lt (j + 2) (length l)))

-- ---- the two indices, and the kinds made anew there

before_first : (k n : ℕ) → 0 < n → k ≡ 0 → before k n + 1 ≡ n
unfolding before
before_first k n h e = omega (arith, previous_of_first k n h e)

before_later : (k n : ℕ) → k ≤ n → 0 < k → before k n + 1 ≡ k
unfolding before
before_later k n h o = omega (arith, previous_of_later k n h o)

after_last : (k n : ℕ) → k ≡ n → after k n ≡ 0
unfolding after
after_last k n e = ap (λ (x : ℕ). x % n) e ∙ mod_self n

after_earlier : (k n : ℕ) → k < n → after k n ≡ k
unfolding after
after_earlier k n h = mod-eq_of_lt h

-- the index after the one before
before_next : (k n : ℕ) → k ≤ n → 0 < n → Dec (0 < k) → (before k n + 1) % n ≡ after k n
unfolding after
before_next k n h hn (yes o) = ap (λ (x : ℕ). x % n) (before_later k n h o)
before_next k n h hn (no o) =
    let z : k ≡ 0 = omega (arith, o) in
    ap (λ (x : ℕ). x % n) (before_first k n hn z) ∙ mod_self n ∙ sym (zero-mod n) ∙ ap (λ (x : ℕ). x % n) (sym z)

module _ (v : List Float) (e : Float) (l : List ℕ) (n k : ℕ) (hl : length l ≡ n) (h : k ≤ n) (hn : 0 < n) where
  pub anew_is : {p q : ℕ} {x y : CornerKind} (b : List CornerKind) → p ≡ (k + n - 1) % n → q ≡ (p + 1) % n → x ≡ kind_at v e l p → y ≡ kind_at v e l q → set (set b p x) q y ≡ anew v e l k b
  unfolding anew before
  anew_is {p} {q} {x} {y} b hp hq hx hy =
      let ep : p ≡ before k (length l) = hp ∙ ap (before k) (sym hl) in
      let eq : q ≡ after k (length l) = hq ∙ ap (λ (i : ℕ). (i + 1) % n) hp ∙ before_next k n h hn (dec_lt 0 k) ∙ ap (after k) (sym hl) in
      let ex : x ≡ kind_at v e l (before k (length l)) = hx ∙ ap (kind_at v e l) ep in
      let ey : y ≡ kind_at v e l (after k (length l)) = hy ∙ ap (kind_at v e l) eq in
      λ t. set (set b (ep t) (ex t)) (eq t) (ey t)

-- ---- the array of kinds

-- what the loop that fills it keeps: those below k are there
pub record Filling (v : List Float) (e : Float) (l : List ℕ) (k : ℕ) (kinds : List CornerKind) : Type 0 where
  pub long : length kinds ≡ 512
  pub done : (j : ℕ) → j < k → get_or kinds j Ear ≡ kind_at v e l j

module _ (v : List Float) (e : Float) (l : List ℕ) (k : ℕ) (kinds : List CornerKind) (h : k < 512) (p : Filling v e l k kinds) {x : CornerKind} (hx : x ≡ kind_at v e l k) where
  filled_at : (j : ℕ) → j < k + 1 → Dec (j ≡ k) → get_or (set kinds k x) j Ear ≡ kind_at v e l j
  filled_at j hj (yes z) = ap (λ (i : ℕ). get_or (set kinds k x) i Ear) z ∙ get_or-set_same kinds k x Ear (omega (arith, p.long)) ∙ hx ∙ ap (kind_at v e l) (sym z)
  filled_at j hj (no z) = get_or-set_other kinds k j x Ear z ∙ p.done j (omega (arith, z))

  pub filling_next : Filling v e l (k + 1) (set kinds k x)
  filling_next = record { long = length-set kinds k x ∙ p.long; done = λ j hj. filled_at j hj (ℕ_discrete j k) }

-- an array in which the values of f were put at the indices p and q
module _ (f : ℕ → CornerKind) (l : List CornerKind) (p q j : ℕ) (hj : j < length l) where
  set_second : j ≡ q → get_or (set (set l p (f p)) q (f q)) j Ear ≡ f j
  set_second e =
      let n : length (set l p (f p)) ≡ length l = length-set l p (f p) in
      ap (λ (i : ℕ). get_or (set (set l p (f p)) q (f q)) i Ear) e ∙ get_or-set_same (set l p (f p)) q (f q) Ear (omega arith) ∙ ap f (sym e)

  module _ (nq : j ≡ q → ⊥) where
    set_first : j ≡ p → get_or (set (set l p (f p)) q (f q)) j Ear ≡ f j
    set_first e =
        get_or-set_other (set l p (f p)) q j (f q) Ear nq
        ∙ ap (λ (i : ℕ). get_or (set l p (f p)) i Ear) e ∙ get_or-set_same l p (f p) Ear (omega arith) ∙ ap f (sym e)

    set_neither : (j ≡ p → ⊥) → get_or (set (set l p (f p)) q (f q)) j Ear ≡ get_or l j Ear
    set_neither np = get_or-set_other (set l p (f p)) q j (f q) Ear nq ∙ get_or-set_other l p j (f p) Ear np

-- ---- the corner at index k goes: b and b' are the arrays before, a and a' after what stands behind it has moved down

module _ (v : List Float) (m k : ℕ) (b a : List ℕ) (hk : k < m) (s : Inside v b m) (t : TakenOut k m b a) where
  all : length (take m b) ≡ m
  all = idx_length v b m s

  -- the numbers that remain are corners
  same_at : (i : ℕ) → i < m - 1 → get_or a i 0 ≡ get_or (without k (take m b)) i 0
  same_at i hi = sym (get_or-take (m - 1) a i 0 hi) ∙ ap (λ (r : List ℕ). get_or r i 0) t.list

  inside_by : (i : ℕ) → i < m - 1 → Dec (i < k) → 2 * get_or a i 0 + 1 < length v
  inside_by i hi (yes p) =
      let g : get_or a i 0 ≡ get_or b i 0 = same_at i hi ∙ getD_without_low k (take m b) i 0 p (omega (arith, all)) ∙ idx_at v b m s i (omega arith) in
      omega (arith, s.there i (omega arith))
  inside_by i hi (no p) =
      let q : k ≤ i = omega (arith, p) in
      let g : get_or a i 0 ≡ get_or b (i + 1) 0 = same_at i hi ∙ getD_without k (take m b) i 0 q (omega (arith, all)) ∙ idx_at v b m s (i + 1) (omega arith) in
      omega (arith, s.there (i + 1) (omega arith))

  pub removed_inside : Inside v a (m - 1)
  removed_inside = record { long = t.long; small = omega (arith, s.small); there = λ i hi. inside_by i hi (dec_lt i k) }

module _ (v : List Float) (e : Float) (m k : ℕ) (b a : List ℕ) (b' a' : List CornerKind) (h1 : 1 < m) (hk : k < m) (s : Inside v b m) (x : Kinds v e b b' m) (t : TakenOut k m b a)
    (t' : TakenOut k m b' a') where
  low : length (take m b) ≡ m
  low = idx_length v b m s

  low' : length (take m b') ≡ m
  low' = length-take-le m b' (omega (arith, x.long, s.small))

  left : length (take (m - 1) a) ≡ m - 1
  left = length-take-le (m - 1) a (omega (arith, t.long, s.small))

  -- a kind beside neither is that of the same corner before
  moved_at : (j : ℕ) → j < m - 1 → get_or a' j Ear ≡ get_or (without k (take m b')) j Ear
  moved_at j hj = sym (get_or-take (m - 1) a' j Ear hj) ∙ ap (λ (r : List CornerKind). get_or r j Ear) t'.list

  kept_by : (j : ℕ) → j < m - 1 → (j ≡ before k (m - 1) → ⊥) → (j ≡ after k (m - 1) → ⊥) → Dec (j < k) → get_or a' j Ear ≡ kind_at v e (take (m - 1) a) j
  kept_by j hj np nq (yes p) =
      let w = before_later k (m - 1) (omega arith) (omega arith) in
      moved_at j hj
      ∙ getD_without_low k (take m b') j Ear p (omega (arith, low'))
      ∙ get_or-take m b' j Ear (omega arith)
      ∙ x.there j (omega arith)
      ∙ ap (kind_of e) (sym (cross_low v (take m b) k j (omega (arith, low)) (omega (arith, low)) p (λ q. np (omega arith))
      (λ q z. nq (z ∙ sym (after_last k (m - 1) (omega (arith, low)))))))
      ∙ ap (λ (l : List ℕ). kind_at v e l j) (sym t.list)
  kept_by j hj np nq (no p) =
      let q : k ≤ j = omega (arith, p) in
      moved_at j hj
      ∙ getD_without k (take m b') j Ear q (omega (arith, low'))
      ∙ get_or-take m b' (j + 1) Ear (omega arith)
      ∙ x.there (j + 1) (omega arith)
      ∙ ap (kind_of e) (sym (cross_high v (take m b) k j (omega (arith, low)) (omega (arith, low)) q (λ w. nq (w ∙ sym (after_earlier k (m - 1) (omega arith))))
      (λ z w. np (omega (arith, low, before_first k (m - 1) (omega arith) z)))))
      ∙ ap (λ (l : List ℕ). kind_at v e l j) (sym t.list)

  there_by : (j : ℕ) → j < m - 1 → Dec (j ≡ before k (length (take (m - 1) a))) → Dec (j ≡ after k (length (take (m - 1) a)))
      → get_or (anew v e (take (m - 1) a) k a') j Ear ≡ kind_at v e (take (m - 1) a) j
  unfolding anew
  there_by j hj u (yes w) = set_second (kind_at v e (take (m - 1) a)) a' _ _ j (omega (arith, t'.long, s.small)) w
  there_by j hj (yes u) (no w) = set_first (kind_at v e (take (m - 1) a)) a' _ _ j (omega (arith, t'.long, s.small)) w u
  there_by j hj (no u) (no w) =
      set_neither (kind_at v e (take (m - 1) a)) a' _ _ j (omega (arith, t'.long, s.small)) w u
      ∙ kept_by j hj (λ z. u (z ∙ ap (before k) (sym left))) (λ z. w (z ∙ ap (after k) (sym left))) (dec_lt j k)

  anew_long : length (anew v e (take (m - 1) a) k a') ≡ 512
  unfolding anew
  anew_long = simp length-set t'.long

  kinds_kept : {c' : List CornerKind} → c' ≡ anew v e (take (m - 1) a) k a' → Kinds v e a c' (m - 1)
  kinds_kept hc =
      record {
        long = ap length hc ∙ anew_long;
        there = λ j hj. ap (λ (l : List CornerKind). get_or l j Ear) hc
            ∙ there_by j hj (ℕ_discrete j (before k (length (take (m - 1) a)))) (ℕ_discrete j (after k (length (take (m - 1) a))));
      }

-- w remained before, i and x are its arrays after what stands behind index k has moved down
module _ (v : List Float) (e : Float) (k : ℕ) (w : Remaining) (i : List ℕ) (x : List CornerKind) (h1 : 1 < w.m) (hk : k < w.m) (s : Inside v w.idx w.m)
    (p : Kinds v e w.idx w.kinds w.m) (t : TakenOut k w.m w.idx i) (t' : TakenOut k w.m w.kinds x) where
  pub removed_is : (w' : Remaining) → SameCorners (record { idx = i; kinds = x; m = w.m - 1 }) w' → w'.kinds ≡ anew v e (take (w.m - 1) i) k x → Removed v e k w w'
  removed_is w' q hc =
      record {
        list = (λ j. take (q.count j) (q.numbers j)) ∙ t.list;
        count = q.count;
        inside = rw (q.numbers, q.count) (removed_inside v w.m k w.idx i hk s t);
        kept = rw (q.numbers, q.count) (kinds_kept v e w.m k w.idx i w.kinds x h1 hk s p t t' hc);
      }
