-- The laws by which the code's state follows the definition's: a pass, the passes, the last triangle. Assumes nothing.
use Rattle.std.proofs.Common.{Option, Some, None}
use Prim.Native.Nat.{ℕ, zero, suc, ◌+◌, ◌-◌, ◌*◌, ◌/◌, ◌<◌, ◌≤◌}
use mathlib.Core.Path.{◌≡◌, refl, sym, ap, ◌∙◌}
use mathlib.Core.Bool.{true, false}
use mathlib.Core.List.{List, [], ◌∷◌, ◌++◌}
use native.Mathlib.Nat.{not-suc-le-zero, mul-le-mul_left}
use native.Mathlib.Omega.{arith}
use lib.ListN.{length, get_or, take, drop, length-append, take-append-drop}
use lib.Seq.{length-take-le}
use lib.Ieee.{Float, lt}
use borrow.Author.Tests.{eq-eqb, ne_eqb, lt-ltb, le-ltb}
use Rattle.slice_law.specs.Lists.{drop_further}
use Rattle.outline.specs.Corners.{point}
use Rattle.outline_triangle.specs.Triangle.{cross, tolerance}
use Rattle.outline_triangle.specs.declared.Triangle.{Triangle}
use Rattle.outline_ears.specs.Ears.{ip, inx, counting, triangle_at, is_ear, is_flat, first_ear, first_flat}
use Rattle.outline_ears.specs.Inside.{Inside, idx_of}
use Rattle.outline_ears.specs.Kinds.{Kinds}
use Rattle.outline_ears.proofs.Laws.{idx_length, idx_at, find_below}
use Rattle.outline_ears.specs.declared.Remaining.{Remaining}
use Rattle.outline_remaining.specs.Removed.{SameCorners, Removed}
use Rattle.outline_triangulate.specs.Triangulate.{Clipping, fan, clipped, dropped, fanned, by_found, pass, passes, finished, start, triangulated}
use Rattle.outline_triangulate.specs.Triangulate.{triangulate_polygon}
use Rattle.outline_triangulate.specs.Slices.{clipping_of, none, Room, Passing, CutAs, WroteTriangles}
use Rattle.outline_triangulate.specs.declared.Cut.{Cut}

-- ---- states

pub clipping_eq : {l l' t t' : List ℕ} {r r' : ℕ} → l ≡ l' → t ≡ t' → r ≡ r'
    → ◌≡◌ {A = Clipping} (record { idx = l; triangles = t; removed = r }) (record { idx = l'; triangles = t'; removed = r' })
clipping_eq el et er = rw (el, et, er)

-- ---- a pass, the passes and the last triangle, by the definition

module _ (v : List Float) (e : Float) (s : Clipping) where
  pub pass_ear : (k : ℕ) → first_ear v e s.idx ≡ Some k → clipped s k ≡ pass v e s
  unfolding pass by_found
  pass_ear k h = rw h

  pub pass_flat : (k : ℕ) → first_ear v e s.idx ≡ None → first_flat v e s.idx ≡ Some k → dropped s k ≡ pass v e s
  unfolding pass by_found
  pass_flat k h h' = rw (h, h')

  pub pass_fan : first_ear v e s.idx ≡ None → first_flat v e s.idx ≡ None → fanned s ≡ pass v e s
  unfolding pass by_found
  pass_fan h h' = rw (h, h')

  pub passes_more : (f : ℕ) → 3 < length s.idx → passes (suc f) v e s ≡ passes f v e (pass v e s)
  unfolding passes
  passes_more f h = rw (lt-ltb 3 (length s.idx) h)

  pub passes_done : (f : ℕ) → length s.idx ≤ 3 → passes f v e s ≡ s
  unfolding passes
  passes_done zero h = refl
  passes_done (suc f) h = rw (le-ltb 3 (length s.idx) h)

  -- three corners are left, or fewer
  module _ (x : Float) (hx : x ≡ cross (point v (get_or s.idx 0 0)) (point v (get_or s.idx 1 0)) (point v (get_or s.idx 2 0))) (h3 : length s.idx ≡ 3) where
    pub finished_triangle : lt e x ≡ true → finished v e s ≡ record { idx = []; triangles = s.triangles ++ take 3 s.idx; removed = s.removed }
    unfolding finished
    finished_triangle h = rw (← hx, eq-eqb (length s.idx) 3 h3, h)

    pub finished_flat : lt e x ≡ false → finished v e s ≡ s
    unfolding finished
    finished_flat h = rw (← hx, eq-eqb (length s.idx) 3 h3, h)

  pub finished_few : (length s.idx ≡ 3 → ⊥) → finished v e s ≡ s
  unfolding finished
  finished_few h = rw (ne_eqb (length s.idx) 3 h)

-- ---- a pass of the code, by what the two searches answer

module _ (v : List Float) (e : Float) (idx : List ℕ) (n : ℕ) (s : Inside v idx n) (k : ℕ) {f : Option ℕ} where
  pub ear_below : f ≡ first_ear v e (take n idx) → f ≡ Some k → k < n
  unfolding first_ear
  ear_below h hk = omega (arith, find_below (is_ear v e (take n idx)) (length (take n idx)) 0 k (sym h ∙ hk), idx_length v idx n s)

  pub flat_below : f ≡ first_flat v e (take n idx) → f ≡ Some k → k < n
  unfolding first_flat
  flat_below h hk = omega (arith, find_below (is_flat v e (take n idx)) (length (take n idx)) 0 k (sym h ∙ hk), idx_length v idx n s)

module _ (v : List Float) (e : Float) (w : Remaining) (c : Cut) (b : List ℕ) (h3 : 3 < w.m) (s : Inside v w.idx w.m) (m : Room w.m c b) {f : Option ℕ}
    (ear : f ≡ first_ear v e (idx_of w)) where
  -- an ear is clipped
  pub clip_passing : (k : ℕ) (x : Triangle) (w' : Remaining) (a : List ℕ) → f ≡ Some k → x ≡ triangle_at v (idx_of w) k → length a ≡ length b
      → WroteTriangles c.triangles (c.triangles + 1) (x.ip ∷ x.ic ∷ x.inx ∷ []) b a → Removed v e k w w'
      → Passing v e w c b w' (record { triangles = c.triangles + 1; removed = c.removed + 1 }) a
  unfolding clipped triangle_at
  clip_passing k x w' a at-k hx hl p q =
      record {
        inside = q.inside;
        kept = q.kept;
        room = record { room = omega (arith, m.room, q.count); few = omega (arith, m.few, q.count); short = omega (arith, m.short) };
        state =
            clipping_eq q.list (p.front ∙ ap (λ (y : Triangle). take (3 * c.triangles) b ++ (y.ip ∷ y.ic ∷ y.inx ∷ [])) hx) refl
            ∙ pass_ear v e (clipping_of (idx_of w) c b) k (sym ear ∙ at-k);
        rest = p.rest;
        grows = omega arith;
        falls = omega (arith, q.count);
      }

  -- a flat corner goes
  pub drop_passing : (k : ℕ) (w' : Remaining) {g : Option ℕ} → f ≡ None → g ≡ first_flat v e (idx_of w) → g ≡ Some k → Removed v e k w w'
      → Passing v e w c b w' (record { triangles = c.triangles; removed = c.removed + 1 }) b
  unfolding dropped
  drop_passing k w' none flat at-k q =
      record {
        inside = q.inside;
        kept = q.kept;
        room = record { room = omega (arith, m.room, q.count); few = omega (arith, m.few, q.count); short = m.short };
        state = clipping_eq q.list refl refl ∙ pass_flat v e (clipping_of (idx_of w) c b) k (sym ear ∙ none) (sym flat ∙ at-k);
        rest = refl;
        grows = omega arith;
        falls = omega (arith, q.count);
      }

  -- the rest is fanned
  pub fan_passing : (t : ℕ) (a : List ℕ) {g : Option ℕ} → f ≡ None → g ≡ first_flat v e (idx_of w) → g ≡ None → length a ≡ length b
      → Kinds v e w.idx w.kinds w.m → (t ≡ c.triangles + (w.m - 2)) × WroteTriangles c.triangles t (fan (idx_of w)) b a
      → Passing v e w c b (record { idx = w.idx; kinds = w.kinds; m = 0 }) (record { triangles = t; removed = c.removed }) a
  unfolding fanned
  fan_passing t a none flat none' hl x p =
      record {
        inside = record { long = s.long; small = omega arith; there = λ i h. absurd (not-suc-le-zero h) };
        kept = record { long = x.long; there = λ i h. absurd (not-suc-le-zero h) };
        room = record { room = omega (arith, m.room); few = omega (arith, m.few); short = omega (arith, m.short) };
        state = clipping_eq refl p.1.front refl ∙ pass_fan v e (clipping_of (idx_of w) c b) (sym ear ∙ none) (sym flat ∙ none');
        rest = p.1.rest;
        grows = omega arith;
        falls = omega arith;
      }

-- ---- the passes, from the state that the loop has reached

pub record Reaches (v : List Float) (e : Float) (s r : Clipping) (n : ℕ) : Type 0 where
  pub fuel : ℕ
  pub enough : n ≤ fuel
  pub there : passes fuel v e s ≡ r

-- the Rust's guard is at least the number of corners
pub square_enough : (n : ℕ) → 1 ≤ n → n ≤ n * n
square_enough n h = omega (arith, mul-le-mul_left n h)

pub reaches_next : (v : List Float) (e : Float) (s s' r : Clipping) (n n' : ℕ) → n ≡ length s.idx → 3 < n → n' < n → s' ≡ pass v e s → Reaches v e s r n → Reaches v e s' r n'
reaches_next v e s s' r n n' hn h3 h hs q =
    let p : q.fuel ≡ suc (q.fuel - 1) = omega (arith, q.enough) in
    record {
      fuel = q.fuel - 1;
      enough = omega (arith, q.enough);
      there = ap (passes (q.fuel - 1) v e) hs ∙ sym (passes_more v e s (q.fuel - 1) (omega arith)) ∙ ap (λ (f : ℕ). passes f v e s) (sym p) ∙ q.there;
    }

pub reaches_end : (v : List Float) (e : Float) (s r : Clipping) (n : ℕ) → length s.idx ≤ 3 → Reaches v e s r n → s ≡ r
reaches_end v e s r n h q = sym (passes_done v e s q.fuel h) ∙ q.there

-- ---- the loop

-- what the loop keeps: w remain, c has the counts, out is the slice, which was out₀ at first; the passes go on to r
pub record Going (v : List Float) (e : Float) (r : Clipping) (out₀ : List ℕ) (w : Remaining) (c : Cut) (out : List ℕ) : Type 0 where
  pub inside : Inside v w.idx w.m
  pub kept : Kinds v e w.idx w.kinds w.m
  pub room : Room w.m c out
  pub long : length out ≡ length out₀
  pub rest : drop (3 * c.triangles) out ≡ drop (3 * c.triangles) out₀
  pub reaches : Reaches v e (clipping_of (idx_of w) c out) r w.m

-- w' has the corners of w, and their kinds
pub goes_from : (v : List Float) (e : Float) (w w' : Remaining) (out : List ℕ) → 1 ≤ w.m → Inside v w.idx w.m → Room w.m none out → SameCorners w w'
    → Kinds v e w'.idx w'.kinds w'.m → Going v e (passes (w.m * w.m) v e (clipping_of (idx_of w) none out)) out w' none out
goes_from v e w w' out h s m q x =
    record {
      inside = rw (q.numbers, q.count) s;
      kept = x;
      room = rw q.count m;
      long = refl;
      rest = refl;
      reaches =
          record {
            fuel = w.m * w.m;
            enough = omega (arith, q.count, square_enough w.m h);
            there = λ j. passes (w.m * w.m) v e (clipping_of (take (q.count j) (q.numbers j)) none out);
          };
    }

pub goes_on : (v : List Float) (e : Float) (r : Clipping) (out₀ : List ℕ) (w : Remaining) (c : Cut) (b : List ℕ) (w' : Remaining) (c' : Cut) (a : List ℕ)
    → 3 < w.m → length a ≡ length b → Passing v e w c b w' c' a → Going v e r out₀ w c b → Going v e r out₀ w' c' a
goes_on v e r out₀ w c b w' c' a h3 hl g i =
    record {
      inside = g.inside;
      kept = g.kept;
      room = g.room;
      long = hl ∙ i.long;
      rest = g.rest ∙ drop_further (3 * c.triangles) (3 * c'.triangles) b out₀ (omega (arith, g.grows)) i.rest;
      reaches = reaches_next v e (clipping_of (idx_of w) c b) _ r w.m _ (sym (idx_length v w.idx w.m i.inside)) h3 g.falls g.state i.reaches;
    }

-- ---- the answer

pub cut_as : (s : Clipping) (r : Cut) (b a : List ℕ) → take (3 * r.triangles) a ≡ s.triangles → drop (3 * r.triangles) a ≡ drop (3 * r.triangles) b
    → 3 * r.triangles ≤ length a → r.removed ≡ s.removed → CutAs s r b a
cut_as s r b a t d h m =
    let n : length s.triangles ≡ 3 * r.triangles = ap length (sym t) ∙ length-take-le (3 * r.triangles) a h in
    record {
      slice =
          sym (take-append-drop (3 * r.triangles) a)
          ∙ ap (λ (l : List ℕ). l ++ drop (3 * r.triangles) a) t
          ∙ ap (λ (l : List ℕ). s.triangles ++ l) (d ∙ ap (λ (j : ℕ). drop j b) (sym n));
      count = n;
      removed = m;
    }

-- the slice at entry instead of a later one that agrees from where triangles are still to be written
pub cut_from : (s s' : Clipping) (r : Cut) (t : ℕ) (b₀ b a : List ℕ) → s ≡ s' → t ≤ r.triangles → drop (3 * t) b ≡ drop (3 * t) b₀ → CutAs s r b a → CutAs s' r b₀ a
cut_from s s' r t b₀ b a e h d g =
    let n : length s.triangles ≡ 3 * r.triangles = g.count in
    let q : CutAs s r b₀ a =
    record {
      slice = g.slice ∙ ap (λ (l : List ℕ). s.triangles ++ l) (drop_further (3 * t) (length s.triangles) b b₀ (omega arith) d);
      count = g.count;
      removed = g.removed;
    } in
    rw e at q

pub cut_short : {s : Clipping} {c : Cut} {b a : List ℕ} → CutAs s c b a → 3 * c.triangles ≤ length a
cut_short {s} {c} {b} {a} g =
    omega (arith, ap length g.slice ∙ length-append s.triangles (drop (length s.triangles) b), g.count)

-- ---- the last three corners

-- no triangle is written
same_cut : (v : List Float) (e : Float) (l : List ℕ) (n : ℕ) (c : Cut) (b : List ℕ) → Room n c b → finished v e (clipping_of l c b) ≡ clipping_of l c b → CutAs (finished v e (clipping_of l c b)) c b b
same_cut v e l n c b m q =
    cut_as (finished v e (clipping_of l c b)) c b b
    (ap (λ (r : Clipping). r.triangles) (sym q)) refl (omega (arith, m.room)) (ap (λ (r : Clipping). r.removed) (sym q))

-- i, j and k remain, and x is their cross
module _ (v : List Float) (e : Float) (i j k : ℕ) (c : Cut) (b : List ℕ) (m : Room 3 c b) (x : Float) (hx : x ≡ cross (point v i) (point v j) (point v k)) where
  pub flat_cut : lt e x ≡ false → CutAs (finished v e (clipping_of (i ∷ j ∷ k ∷ []) c b)) c b b
  flat_cut h = same_cut v e (i ∷ j ∷ k ∷ []) 3 c b m (finished_flat v e (clipping_of (i ∷ j ∷ k ∷ []) c b) x hx refl h)

  pub triangle_cut : (a : List ℕ) → length a ≡ length b → lt e x ≡ true → WroteTriangles c.triangles (c.triangles + 1) (i ∷ j ∷ k ∷ []) b a
      → CutAs (finished v e (clipping_of (i ∷ j ∷ k ∷ []) c b)) (record { triangles = c.triangles + 1; removed = c.removed }) b a
  triangle_cut a hl h p =
      let q = finished_triangle v e (clipping_of (i ∷ j ∷ k ∷ []) c b) x hx refl h in
      cut_as (finished v e (clipping_of (i ∷ j ∷ k ∷ []) c b)) (record { triangles = c.triangles + 1; removed = c.removed }) b a
      (p.front ∙ ap (λ (r : Clipping). r.triangles) (sym q))
      p.rest
      (omega (arith, m.room))
      (ap (λ (r : Clipping). r.removed) (sym q))

three_of : (l : List ℕ) → length l ≡ 3 → get_or l 0 0 ∷ get_or l 1 0 ∷ get_or l 2 0 ∷ [] ≡ l
three_of [] h = absurd (omega (arith, h))
three_of (a ∷ []) h = absurd (omega (arith, h))
three_of (a ∷ b ∷ []) h = absurd (omega (arith, h))
three_of (a ∷ b ∷ c ∷ []) h = refl
three_of (a ∷ b ∷ c ∷ d ∷ l) h = absurd (omega (arith, h))

module _ (v : List Float) (e : Float) (idx : List ℕ) (n : ℕ) (c : Cut) (b : List ℕ) (s : Inside v idx n) where
  pub few_cut : Room n c b → (n ≡ 3 → ⊥) → CutAs (finished v e (clipping_of (take n idx) c b)) c b b
  few_cut m h = same_cut v e (take n idx) n c b m (finished_few v e (clipping_of (take n idx) c b) (λ l. h (sym (idx_length v idx n s) ∙ l)))

  pub three_cut : {r : Cut} {a : List ℕ} → n ≡ 3 → CutAs (finished v e (clipping_of (get_or idx 0 0 ∷ get_or idx 1 0 ∷ get_or idx 2 0 ∷ []) c b)) r b a
      → CutAs (finished v e (clipping_of (take n idx) c b)) r b a
  three_cut h3 p =
      let l : get_or idx 0 0 ∷ get_or idx 1 0 ∷ get_or idx 2 0 ∷ [] ≡ take n idx =
      rw (← idx_at v idx n s 0 (omega arith), ← idx_at v idx n s 1 (omega arith), ← idx_at v idx n s 2 (omega arith)) (three_of (take n idx) (idx_length v idx n s ∙ h3)) in
      rw l at p

-- ---- the whole

-- the corners are counted, and the passes start
pub passes_start : (v : List Float) (e : Float) (c : Remaining) (n : ℕ) (out : List ℕ) → c.m ≡ n → idx_of c ≡ counting 0 n
    → passes (c.m * c.m) v e (clipping_of (idx_of c) none out) ≡ passes (n * n) v e (start n)
unfolding start
passes_start v e c n out hm hi = ap (λ (m : ℕ). passes (m * m) v e (clipping_of (idx_of c) none out)) hm ∙ ap (passes (n * n) v e) (clipping_eq hi refl refl)

-- three corners need no pass
pub three_start : (v : List Float) (e : Float) (n : ℕ) (out : List ℕ) → n ≡ 3 → clipping_of (0 ∷ 1 ∷ 2 ∷ []) none out ≡ passes (n * n) v e (start n)
unfolding start counting
three_start v e n out h =
    let s = clipping_of (0 ∷ 1 ∷ 2 ∷ []) none out in
    sym (passes_done v e s (n * n) (omega arith)) ∙ ap (passes (n * n) v e) (ap start (sym h))

module _ (v : List Float) where
  pub triangulate_few : (b : List ℕ) → length v / 2 < 3 → CutAs (triangulate_polygon v) (record { triangles = 0; removed = 0 }) b b
  unfolding triangulate_polygon triangulated
  triangulate_few b h = rw (lt-ltb (length v / 2) 3 h) (cut_as (record { idx = []; triangles = []; removed = 0 }) (record { triangles = 0; removed = 0 }) b b refl refl (omega arith) refl)

  pub triangulate_is : (e : Float) (s : Clipping) → 3 ≤ length v / 2 → e ≡ tolerance v → s ≡ passes (length v / 2 * (length v / 2)) v e (start (length v / 2)) → finished v e s ≡ triangulate_polygon v
  unfolding triangulate_polygon triangulated
  triangulate_is e s h he hs = rw (le-ltb (length v / 2) 3 h, hs, he)
