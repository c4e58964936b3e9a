-- Laws of `clip_outline`, in the form that the code goes by. Assumes nothing.
use Prim.Native.Nat.{ℕ, zero, suc, ◌-◌, ◌*◌, ◌/◌, ◌%◌, ◌<◌, ◌≤◌}
use mathlib.Core.Path.{◌≡◌, sym, ap, ◌∙◌}
use mathlib.Core.Bool.{true, false}
use mathlib.Core.List.{List, ◌++◌}
use native.Mathlib.Nat.{sub-zero, zero-sub, suc-sub-suc}
use native.Mathlib.Omega.{arith}
use lib.ListN.{length, take, drop, replicate}
use lib.Seq.{take_at}
use lib.Ieee.{Float}
use lib.Ieee.Scale.{finite}
use borrow.Author.Tests.{lt-ltb, le-ltb, eq-eqb, ne_eqb}
use Rattle.refusal.specs.declared.Refusal.{Refusal}
use Rattle.refusal.specs.declared.Refusal.TheVariants.{BadList, NotFinite, NoRoom}
use Rattle.std.specs.Prelude.{Ok, Err}
use Rattle.slice.specs.Every.{every}
use Rattle.outline_triangulate.specs.Triangulate.{triangulate_polygon}
use Rattle.outline_triangulate.specs.Slices.{CutAs}
use Rattle.outline_clip.specs.Clip.{ClipOutcome, clip_refused, clip_accepted, clip_outline, outcome_of}
use Rattle.outline_triangulate.specs.declared.Cut.{Cut}

drop_replicate : (k m : ℕ) → drop {A = ℕ} k (replicate m 0) ≡ replicate (m - k) 0
drop_replicate zero m = ap (λ (n : ℕ). replicate n 0) (sym (sub-zero m))
drop_replicate (suc k) zero = ap (λ (n : ℕ). replicate n 0) (sym (zero-sub (suc k)))
drop_replicate (suc k) (suc m) = drop_replicate k m ∙ ap (λ (n : ℕ). replicate n 0) (sym (suc-sub-suc m k))

-- ---- the outcome, by the tests

-- a refused call: the slice is all zero
pub outcome_refused : (r : Refusal) (a : List ℕ) (m : ℕ) (p : ClipOutcome) → a ≡ replicate m 0 → clip_refused r m ≡ p → outcome_of (Err r) a ≡ p
unfolding clip_refused
outcome_refused r a m p e s = ap (outcome_of (Err r)) e ∙ s

module _ (v : List Float) (m : ℕ) where
  pub outcome_long : 1024 < length v → clip_refused BadList m ≡ clip_outline v m
  unfolding clip_outline
  outcome_long h = rw (lt-ltb 1024 (length v) h)

  module _ (short : length v ≤ 1024) where
    pub outcome_odd : length v % 2 ≡ 1 → clip_refused BadList m ≡ clip_outline v m
    unfolding clip_outline
    outcome_odd h = rw (le-ltb 1024 (length v) short, eq-eqb (length v % 2) 1 h)

    module _ (even : length v % 2 ≡ 1 → ⊥) where
      pub outcome_infinite : every finite v ≡ false → clip_refused NotFinite m ≡ clip_outline v m
      unfolding clip_outline
      outcome_infinite h = rw (le-ltb 1024 (length v) short, ne_eqb (length v % 2) 1 even, h)

      module _ (all : every finite v ≡ true) (c : Cut) (b a : List ℕ) (g : CutAs (triangulate_polygon v) c b a) where
        count : length (triangulate_polygon v).triangles / 3 ≡ c.triangles
        count = omega (arith, g.count)

        pub outcome_room : m / 3 < c.triangles → clip_refused NoRoom m ≡ clip_outline v m
        unfolding clip_outline
        outcome_room h =
            rw (le-ltb 1024 (length v) short, ne_eqb (length v % 2) 1 even, all, lt-ltb (m / 3) (length (triangulate_polygon v).triangles / 3) (rw count h))

        outcome_accepted : c.triangles ≤ m / 3 → clip_accepted (triangulate_polygon v) m ≡ clip_outline v m
        unfolding clip_outline
        outcome_accepted h =
            rw (le-ltb 1024 (length v) short, ne_eqb (length v % 2) 1 even, all, le-ltb (m / 3) (length (triangulate_polygon v).triangles / 3) (rw count h))

        slice : take (3 * c.triangles) a ++ drop {A = ℕ} (3 * c.triangles) (replicate m 0)
            ≡ (triangulate_polygon v).triangles ++ replicate (m - length (triangulate_polygon v).triangles) 0
        slice =
            let t : take (3 * c.triangles) a ≡ (triangulate_polygon v).triangles =
            ap (take (3 * c.triangles)) g.slice ∙ take_at (triangulate_polygon v).triangles _ (3 * c.triangles) g.count in
            let d : drop {A = ℕ} (3 * c.triangles) (replicate m 0) ≡ replicate (m - length (triangulate_polygon v).triangles) 0 =
            drop_replicate (3 * c.triangles) m ∙ ap (λ (n : ℕ). replicate (m - n) 0) (sym g.count) in
            ap (λ (l : List ℕ). l ++ drop {A = ℕ} (3 * c.triangles) (replicate m 0)) t ∙ ap (λ (l : List ℕ). (triangulate_polygon v).triangles ++ l) d

        -- o is the slice before the triangles were copied into it
        pub outcome_done : (o x : List ℕ) → c.triangles ≤ m / 3 → o ≡ replicate m 0 → x ≡ take (3 * c.triangles) a ++ drop (3 * c.triangles) o
            → outcome_of (Ok c) x ≡ clip_outline v m
        unfolding clip_accepted
        outcome_done o x h eo ex =
            let q : x ≡ (triangulate_polygon v).triangles ++ replicate (m - length (triangulate_polygon v).triangles) 0 =
            ex ∙ ap (λ (l : List ℕ). take (3 * c.triangles) a ++ drop (3 * c.triangles) l) eo ∙ slice in
            let e : outcome_of (Ok c) x ≡ clip_accepted (triangulate_polygon v) m =
            rw (q, ← count, g.removed) in
            e ∙ outcome_accepted h
