-- Laws of the hash chains: what a walk down a chain tells, and a vertex put at the head of one. Assumes nothing.
use mathlib.Core.Path.{◌≡◌, refl, sym, ap, ◌∙◌, subst}
use mathlib.Core.Bool.{Bool, true, false, cond}
use mathlib.Core.List.{List}
use mathlib.Core.Logic.{⊎_elim, ◌⊎◌, inl, inr}
use Prim.Native.Nat.{ℕ, zero, suc, ◌+◌, ◌*◌, ◌≤◌, ◌<◌, zero-le, suc-le-suc}
use native.Mathlib.Nat.{le_refl, le-suc, le_trans, suc_inj, eq-or-lt_of_le, le_of_suc-le-suc, not-suc-le-zero}
use native.Mathlib.Numerals.{add-one}
use native.Mathlib.Omega.{arith}
use borrow.Author.Tests.{eqb-true, eqb-false, eq-eqb, ne_eqb}
use lib.ListN.{length, get_or, set, drop, length-set}
use lib.Seq.{get_or-set_same, drop-set-lt}
use lib.Dec.{eqb}
use lib.Ieee.{Float}
use Rattle.slice_law.specs.Bools.{not_both}
use Rattle.math.specs.declared.Vec3.{Vec3}
use Rattle.mesh_spec.specs.Mesh.{same_point}
use Rattle.std.specs.Prelude.{Some, None}
use Rattle.mesh_spec.specs.Slices.{vertex_at}
use Rattle.weld_vertex.specs.Points.{Clean}
use Rattle.mesh_triples.specs.Triples.{put_vertex}
use Rattle.weld_bucket.specs.Bucket.{bucket_of}
use Rattle.weld_hash.specs.Hash.{latest, Distinct, Agrees, Chained, Indexed, linked_in, FirstAt, Sought, Placed}
use Rattle.weld_vertex.proofs.Clean.{same_data}
use Rattle.weld_vertex.proofs.Places.{put_at, put_before, apart}

-- ---- the latest vertex of a bucket
module _ (places : ℕ) (vs : List Float) (b : ℕ) where
  le_step : (t : Bool) (n l : ℕ) → l ≤ n → cond t (suc n) l ≤ suc n
  le_step true n l h = le_refl (suc n)
  le_step false n l h = le_trans h (le-suc n)

  pub latest_le : (n : ℕ) → latest places vs b n ≤ n
  unfolding latest
  latest_le zero = zero-le
  latest_le (suc n) = le_step (eqb (bucket_of places (vertex_at vs n)) b) n (latest places vs b n) (latest_le n)

  in_step : (n l m : ℕ) (t : Bool) → eqb (bucket_of places (vertex_at vs n)) b ≡ t → (l ≡ suc m → bucket_of places (vertex_at vs m) ≡ b) → cond t (suc n) l ≡ suc m → bucket_of places (vertex_at vs m) ≡ b
  in_step n l m true e ih h = subst (λ (k : ℕ). bucket_of places (vertex_at vs k) ≡ b) (suc_inj h) (eqb-true _ _ e)
  in_step n l m false e ih h = ih h

  -- the last of a bucket is in the bucket
  pub latest_in : (n m : ℕ) → latest places vs b n ≡ suc m → bucket_of places (vertex_at vs m) ≡ b
  unfolding latest
  latest_in zero m h = let z : ◌≡◌ {A = ℕ} 0 1 = omega (arith, h) in absurd (omega (arith, z))
  latest_in (suc n) m h = in_step n (latest places vs b n) m (eqb (bucket_of places (vertex_at vs n)) b) refl (latest_in n m) h

  none_step : (n l m : ℕ) (t : Bool) → eqb (bucket_of places (vertex_at vs n)) b ≡ t → (l ≤ m → m < n → bucket_of places (vertex_at vs m) ≡ b → ⊥) → cond t (suc n) l ≤ m
      → m < suc n → bucket_of places (vertex_at vs m) ≡ b → ⊥
  none_step n l m true e ih h k q = omega arith
  none_step n l m false e ih h k q =
      ⊎_elim (λ w. eqb-false _ _ e (subst (λ (j : ℕ). bucket_of places (vertex_at vs j) ≡ b) w q)) (λ w. ih h w q) (eq-or-lt_of_le (le_of_suc-le-suc k))

  -- none past the last of a bucket is in the bucket
  pub latest_none : (n m : ℕ) → latest places vs b n ≤ m → m < n → bucket_of places (vertex_at vs m) ≡ b → ⊥
  unfolding latest
  latest_none zero m h k q = not-suc-le-zero k
  latest_none (suc n) m h k q = none_step n (latest places vs b n) m (eqb (bucket_of places (vertex_at vs n)) b) refl (latest_none n m) h k q

pub latest_cong : (places : ℕ) (vs us : List Float) (b n : ℕ) → ((m : ℕ) → m < n → vertex_at vs m ≡ vertex_at us m) → latest places vs b n ≡ latest places us b n
unfolding latest
latest_cong places vs us b zero h = refl
latest_cong places vs us b (suc n) h = λ i. cond (eqb (bucket_of places (h n (le_refl (suc n)) i)) b) (suc n) (latest_cong places vs us b n (λ m k. h m (le_trans k (le-suc n))) i)

-- ---- numbers that agree above base
lt_or_le : (m n : ℕ) → (m < n) ⊎ (n ≤ m)
lt_or_le m zero = inr zero-le
lt_or_le zero (suc n) = inl (omega arith)
lt_or_le (suc m) (suc n) = ⊎_elim (λ w. inl (suc-le-suc w)) (λ w. inr (suc-le-suc w)) (lt_or_le m n)

pub agree_same : (base l : ℕ) → Agrees base l l
agree_same base l = record { above = λ a. refl; below = λ a. a }

pub agree_as : {base h h' l l' : ℕ} → h' ≡ h → l ≡ l' → Agrees base h l → Agrees base h' l'
agree_as p q A = rw (p, sym q) A

module _ (base h l : ℕ) (A : Agrees base h l) where
  pub agree_low : (n : ℕ) → base ≤ n → l ≤ n → h ≤ n
  agree_low n b k = ⊎_elim (λ w. omega (arith, A.above w)) (λ w. omega (arith, A.below w)) (lt_or_le base l)

  pub agree_past : (m : ℕ) → base ≤ m → h ≤ m → l ≤ m
  agree_past m b k = ⊎_elim (λ w. omega (arith, A.above w)) (λ w. omega arith) (lt_or_le base l)

  pub agree_here : base < h → h ≡ l
  agree_here k = ⊎_elim (λ w. A.above w) (λ w. absurd (omega (arith, A.below w))) (lt_or_le base l)

-- ---- the walk down a chain

-- k is one more than the next vertex to look at, or leads to earlier ones than those from base on, and every vertex past it since base differs from p
pub record Walk (vs : List Float) (places base count : ℕ) (p : Vec3) (k : ℕ) : Type 0 where
  pub low : k ≤ count
  pub here : base < k → (m : ℕ) → k ≡ suc m → bucket_of places (vertex_at vs m) ≡ bucket_of places p
  pub past : (m : ℕ) → k ≤ m → m < count → base ≤ m → same_point (vertex_at vs m) p ≡ true → ⊥

pub split3 : (m n : ℕ) → (m < n) ⊎ ((m ≡ n) ⊎ (n < m))
split3 zero zero = inr (inl refl)
split3 zero (suc n) = inl (omega arith)
split3 (suc m) zero = inr (inr (omega arith))
split3 (suc m) (suc n) = ⊎_elim (λ w. inl (suc-le-suc w)) (⊎_elim (λ e. inr (inl (ap suc e))) (λ w. inr (inr (suc-le-suc w)))) (split3 m n)

module _ (vs : List Float) (places base count : ℕ) (h : Distinct vs places base count) (p : Vec3) (cp : Clean p) where
  -- a vertex that equals p is in p's bucket
  in_bucket : (m : ℕ) → m < count → same_point (vertex_at vs m) p ≡ true → bucket_of places (vertex_at vs m) ≡ bucket_of places p
  in_bucket m k s = ap (bucket_of places) (same_data (vertex_at vs m) p (h.clean m k) cp s)

  -- a vertex of this part that equals p is the first, since no two of its vertices are equal
  pub first_at : (m : ℕ) → base ≤ m → m < count → same_point (vertex_at vs m) p ≡ true → FirstAt vs base count p m
  first_at m l i s =
      record {
        low = l;
        high = i;
        equal = s;
        first = λ j a r t. h.fresh j m a r i (ap (same_point (vertex_at vs j)) (same_data (vertex_at vs m) p (h.clean m i) cp s) ∙ t);
      }

  pub walk_at : (k m : ℕ) → Walk vs places base count p k → k ≡ suc m → base < k → same_point (vertex_at vs m) p ≡ true → Sought vs base count p (Some m)
  walk_at k m w e l s = first_at m (omega arith) (omega arith) s

  pub walk_end : (k : ℕ) → Walk vs places base count p k → k ≤ base → Sought vs base count p None
  walk_end k w l = λ m a i s. w.past m (le_trans l a) i a s

  module _ (ws : List ℕ) (c : Chained vs ws places base count) where
    pub walk_start : (b k : ℕ) → b ≡ bucket_of places p → b < places → k ≡ get_or ws b 0 → Walk vs places base count p k
    walk_start b k e l q =
        let A : Agrees base k (latest places vs b count) = agree_as q refl (c.heads b l) in
        record {
          low = agree_low base k (latest places vs b count) A count h.based (latest_le places vs b count);
          here = λ lt m w. latest_in places vs b count m (sym (agree_here base k (latest places vs b count) A lt) ∙ w) ∙ e;
          past = λ m a j d s. latest_none places vs b count m (agree_past base k (latest places vs b count) A m d a) j (in_bucket m j s ∙ sym e);
        }

    next_agrees : (k m j : ℕ) → Walk vs places base count p k → base < k → k ≡ suc m → j ≡ get_or ws (places + m) 0 → Agrees base j (latest places vs (bucket_of places p) m)
    next_agrees k m j w lt e q = agree_as q (ap (λ (b : ℕ). latest places vs b m) (w.here lt m e)) (c.nexts m (omega arith) (omega (arith, w.low)))

    pub walk_next : (k m j : ℕ) → Walk vs places base count p k → base < k → k ≡ suc m → same_point (vertex_at vs m) p ≡ false → j ≡ get_or ws (places + m) 0 → Walk vs places base count p j
    walk_next k m j w lt e f q =
        let b = bucket_of places p in
        let A = next_agrees k m j w lt e q in
        let u : j ≤ m = agree_low base j (latest places vs b m) A m (omega arith) (latest_le places vs b m) in
        record {
          low = omega (arith, w.low);
          here = λ r i t. latest_in places vs b m i (sym (agree_here base j (latest places vs b m) A r) ∙ t);
          past = λ i a n d s.
              ⊎_elim (λ lt. latest_none places vs b m i (agree_past base j (latest places vs b m) A i d a) lt (in_bucket i n s))
              (⊎_elim (λ eq. not_both (same_point (vertex_at vs m) p) (subst (λ (x : ℕ). same_point (vertex_at vs x) p ≡ true) eq s) f)
              (λ gt. w.past i (omega arith) n d s)) (split3 i m);
        }

    pub walk_less : (k m j : ℕ) → Walk vs places base count p k → base < k → k ≡ suc m → j ≡ get_or ws (places + m) 0 → j < k
    walk_less k m j w lt e q =
        let u : j ≤ m = agree_low base j (latest places vs (bucket_of places p) m) (next_agrees k m j w lt e q) m (omega arith) (latest_le places vs (bucket_of places p) m) in
        omega arith

-- ---- what was found stays found
module _ (vs : List Float) (base count : ℕ) (p q : Vec3) (m : ℕ) (F : FirstAt vs base count q m) where
  pub first_stays : FirstAt (put_vertex vs count p) base (count + 1) q m
  first_stays =
      record {
        low = F.low;
        high = omega (arith, F.high);
        equal = ap (λ (v : Vec3). same_point v q) (put_before vs count p m F.high) ∙ F.equal;
        first = λ j a r t. F.first j a r (sym (ap (λ (v : Vec3). same_point v q) (put_before vs count p j (omega (arith, F.high)))) ∙ t);
      }

-- the new vertex is found
pub first_new : (vs : List Float) (base count : ℕ) (p : Vec3) → base ≤ count → 3 * count + 3 ≤ length vs → same_point p p ≡ true → Sought vs base count p None
    → FirstAt (put_vertex vs count p) base (count + 1) p count
first_new vs base count p b l s miss =
    record {
      low = b;
      high = omega arith;
      equal = ap (λ (v : Vec3). same_point v p) (put_at vs count p l) ∙ s;
      first = λ j a r t. miss j a r (sym (ap (λ (v : Vec3). same_point v p) (put_before vs count p j r)) ∙ t);
    }

-- ---- a vertex is written
module _ (vs : List Float) (places base count : ℕ) (h : Distinct vs places base count) (p : Vec3) (lt : count < places) where
  old : (m : ℕ) → m < count → vertex_at (put_vertex vs count p) m ≡ vertex_at vs m
  old m k = put_before vs count p m k

  new : vertex_at (put_vertex vs count p) count ≡ p
  new = put_at vs count p (omega (arith, h.room))

  clean' : Clean p → (m : ℕ) → m < count + 1 → Clean (vertex_at (put_vertex vs count p) m)
  clean' cp m k =
      ⊎_elim
      (λ w. subst (λ (x : ℕ). Clean (vertex_at (put_vertex vs count p) x)) (sym w) (subst Clean (sym new) cp))
      (λ w. subst Clean (sym (old m w)) (h.clean m w))
      (eq-or-lt_of_le {n = m} {m = count} (omega arith))

  fresh' : Sought vs base count p None → (j m : ℕ) → base ≤ j → j < m → m < count + 1 → same_point (vertex_at (put_vertex vs count p) j) (vertex_at (put_vertex vs count p) m) ≡ true → ⊥
  fresh' miss j m g r k s =
      ⊎_elim
      (λ w. miss j g (omega arith) (sym (λ i. same_point (old j (subst (λ (x : ℕ). j < x) w r) i) (at_count w i)) ∙ s))
      (λ w. h.fresh j m g r w (sym (λ i. same_point (old j (omega arith) i) (old m w i)) ∙ s))
      (eq-or-lt_of_le {n = m} {m = count} (omega arith))
    where
      at_count : m ≡ count → vertex_at (put_vertex vs count p) m ≡ p
      at_count w = ap (vertex_at (put_vertex vs count p)) w ∙ new

  pub distinct_more : Clean p → Sought vs base count p None → Distinct (put_vertex vs count p) places base (count + 1)
  distinct_more cp miss =
      record {
        room = simp length-set h.room;
        fits = omega arith;
        based = omega (arith, h.based);
        clean = clean' cp;
        fresh = fresh' miss;
      }

  -- chains of vertices before it stay as they are
  pub chained_still : (ws : List ℕ) (n : ℕ) → n ≤ count → Chained vs ws places base n → Chained (put_vertex vs count p) ws places base n
  chained_still ws n k c =
      record {
        links = c.links;
        heads = λ b l. agree_as refl (sym (latest_cong places (put_vertex vs count p) vs b n (λ m j. old m (omega arith)))) (c.heads b l);
        nexts = λ m a l. agree_as refl
            (ap (λ (v : Vec3). latest places vs (bucket_of places v) m) (sym (old m (omega arith)))
            ∙ sym (latest_cong places (put_vertex vs count p) vs (bucket_of places (vertex_at (put_vertex vs count p) m)) m (λ j i. old j (omega arith))))
            (c.nexts m a l);
      }

-- ---- a vertex is put at the head of its bucket
module _ (vs : List Float) (ws : List ℕ) (places base n : ℕ) (c : Chained vs ws places base n) (lt : n < places) (b : ℕ) (e : b ≡ bucket_of places (vertex_at vs n)) (bl : b < places) where
  latest_next : (d : ℕ) → latest places vs d (n + 1) ≡ cond (eqb b d) (suc n) (latest places vs d n)
  unfolding latest
  latest_next d = ap (latest places vs d) (add-one n) ∙ ap (λ (x : ℕ). cond (eqb x d) (suc n) (latest places vs d n)) (sym e)

  -- the heads: that of b is the new vertex, and no other changed
  heads' : (d : ℕ) → d < places → Agrees base (get_or (linked_in ws places n b) d 0) (latest places vs d (n + 1))
  heads' d k =
      ⊎_elim
      (λ w. agree_as (apart (set ws (places + n) (get_or ws b 0)) b d (n + 1) 0 (inl w)) refl (other (λ q. omega arith)))
      (⊎_elim
      (λ w. subst (λ (x : ℕ). Agrees base (get_or (linked_in ws places n b) x 0) (latest places vs x (n + 1))) (sym w) same_head)
      (λ w. agree_as (apart (set ws (places + n) (get_or ws b 0)) b d (n + 1) 0 (inr w)) refl (other (λ q. omega arith))))
      (split3 d b)
    where
      other : (b ≡ d → ⊥) → Agrees base (get_or (set ws (places + n) (get_or ws b 0)) d 0) (latest places vs d (n + 1))
      other q =
          agree_as (apart ws (places + n) d (get_or ws b 0) 0 (inl (omega arith)))
          (sym (latest_next d ∙ ap (λ (t : Bool). cond t (suc n) (latest places vs d n)) (ne_eqb b d q))) (c.heads d k)

      same_head : Agrees base (get_or (linked_in ws places n b) b 0) (latest places vs b (n + 1))
      same_head =
          agree_as (get_or-set_same (set ws (places + n) (get_or ws b 0)) b (n + 1) 0 (simp length-set (omega (arith, c.links))) ∙ add-one n)
          (sym (latest_next b ∙ ap (λ (t : Bool). cond t (suc n) (latest places vs b n)) (eq-eqb b b refl))) (agree_same base (suc n))

  nexts' : (m : ℕ) → base ≤ m → m < n + 1 → Agrees base (get_or (linked_in ws places n b) (places + m) 0) (latest places vs (bucket_of places (vertex_at vs m)) m)
  nexts' m a k =
      agree_as (apart (set ws (places + n) (get_or ws b 0)) b (places + m) (n + 1) 0 (inr (omega arith))) refl
      (⊎_elim
      (λ w. subst (λ (x : ℕ). Agrees base (get_or (set ws (places + n) (get_or ws b 0)) (places + x) 0) (latest places vs (bucket_of places (vertex_at vs x)) x)) (sym w) at_new)
      (λ w. agree_as (apart ws (places + n) (places + m) (get_or ws b 0) 0 (inl (omega arith))) refl (c.nexts m a w))
      (eq-or-lt_of_le {n = m} {m = n} (omega arith)))
    where
      at_new : Agrees base (get_or (set ws (places + n) (get_or ws b 0)) (places + n) 0) (latest places vs (bucket_of places (vertex_at vs n)) n)
      at_new = agree_as (get_or-set_same ws (places + n) (get_or ws b 0) 0 (omega (arith, c.links))) (ap (λ (x : ℕ). latest places vs x n) e) (c.heads b bl)

  pub chained_next : Chained vs (linked_in ws places n b) places base (n + 1)
  chained_next = record { links = simp length-set c.links; heads = heads'; nexts = nexts' }

-- the same, and what stands beyond the chains stays
pub indexed_next : {vs : List Float} {ws₀ ws ws' : List ℕ} {places base n : ℕ} (b : ℕ) → Indexed vs ws₀ places base n ws → n < places → b < places
    → ws' ≡ linked_in ws places n b → Chained vs (linked_in ws places n b) places base (n + 1) → Indexed vs ws₀ places base (n + 1) ws'
indexed_next {vs} {ws₀} {ws} {ws'} {places} {base} {n} b I l k e C = record {
  chained = subst (λ (x : List ℕ). Chained vs x places base (n + 1)) (sym e) C;
  beyond =
      ap {B = List ℕ} (drop (2 * places)) e
      ∙ drop-set-lt (2 * places) (set ws (places + n) (get_or ws b 0)) b (n + 1) (omega arith)
      ∙ drop-set-lt (2 * places) ws (places + n) (get_or ws b 0) (omega arith)
      ∙ I.beyond;
}

-- a new part has no vertices yet: whatever the chains lead to is earlier
pub chained_part : (vs : List Float) (ws : List ℕ) (places base n count : ℕ) → Chained vs ws places base n → base ≤ n → n ≤ count → Chained vs ws places count count
chained_part vs ws places base n count c l k =
    record {
      links = c.links;
      heads = λ b i.
          let u : latest places vs b count ≤ count = latest_le places vs b count in
          let v : get_or ws b 0 ≤ n = agree_low base (get_or ws b 0) (latest places vs b n) (c.heads b i) n l (latest_le places vs b n) in
          record { above = λ a. absurd (omega arith); below = λ a. omega arith };
      nexts = λ m a i. absurd (omega arith);
    }

-- a point is written and put at the head of its bucket
pub chained_more : (vs : List Float) (ws : List ℕ) (places base count : ℕ) → Distinct vs places base count → Chained vs ws places base count → (p : Vec3) → count < places
    → (b : ℕ) → b ≡ bucket_of places p → b < places → Chained (put_vertex vs count p) (linked_in ws places count b) places base (count + 1)
chained_more vs ws places base count h c p lt b e bl =
    chained_next (put_vertex vs count p) ws places base count (chained_still vs places base count h p lt ws count (omega arith) c) lt b
    (e ∙ sym (ap (bucket_of places) (put_at vs count p (omega (arith, h.room))))) bl

-- ---- the cases of `number_of`

-- what was found, by its case
module _ (places base count : ℕ) (p : Vec3) (vs : List Float) (ws : List ℕ) where
  pub placing_found : (m : ℕ) → FirstAt vs base count p m → Placed places base count p vs ws m vs ws
  placing_found m F = record { within = omega (arith, F.high); found = λ l. (F, refl, refl); new = λ e. absurd (omega (arith, F.high)) }

  pub placing_new : (b : ℕ) → b ≡ bucket_of places p → b < places → Sought vs base count p None → count < places
      → Placed places base count p vs ws count (put_vertex vs count p) (linked_in ws places count b)
  placing_new b e l F k =
      record {
        within = omega arith;
        found = λ r. absurd (omega arith);
        new = λ r. (F, k, subst (λ (x : ℕ). x < places) e l, refl, ap (linked_in ws places count) e);
      }
