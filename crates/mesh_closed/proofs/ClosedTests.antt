-- A test of the triangles, and of the edges that are there, decides whether a mesh is closed. Assumes nothing.
use mathlib.Core.Path.{◌≡◌, refl, sym, ap, ◌∙◌, subst}
use mathlib.Core.Logic.{◌⊎◌, inl, inr}
use mathlib.Core.Bool.{Bool, true, false, ◌&&◌, cond, false≢true}
use mathlib.Core.List.{List, [], ◌∷◌}
use Prim.Native.Nat.{ℕ, ◌+◌}
use native.Mathlib.Omega.{arith}
use lib.ListN.{length, drop}
use lib.Dec.{T, eqb}
use lib.Ieee.Bits.{is_true}
use lib.Ieee.Fits.{and_l, and_r}
use borrow.Author.Tests.{eq-eqb, eqb-true}
use Rattle.mesh_balance_spec.specs.Soup.{Tri}
use Rattle.mesh_balance_spec.specs.Count.{edges, uses, here, EdgesBalance}
use Rattle.mesh_spec.specs.Decides.{Decides}
use Rattle.mesh_spec.specs.Mesh.{Mesh, distinct}
use Rattle.mesh_spec.specs.Closed.{all_of, below, Closed}
use Rattle.slice.specs.Every.{every}
use Rattle.slice_law.specs.Next.{Next}
use Rattle.slice.specs.EveryLaws.{every_next}
use Rattle.mesh_closed.specs.Even.{even_edge, even_triangle, closed_triangle}

-- ---- the loop over the triangles, which ends at the first that fails a test
module _ (k : Tri ℕ → Bool) (ts : List (Tri ℕ)) (i : ℕ) where
  pub every_fails : (t : Tri ℕ) (r : Bool) → Next ts i t → r ≡ k t → r ≡ false → every k (drop i ts) ≡ every k ts → false ≡ every k ts
  every_fails t r h e n p = sym (ap {B = Bool} (λ (b : Bool). b && every k (drop (i + 1) ts)) (sym e ∙ n)) ∙ sym (every_next k ts i t h) ∙ p

  pub every_passes : (t : Tri ℕ) (r : Bool) → Next ts i t → r ≡ k t → r ≡ true → every k (drop i ts) ≡ every k ts → every k (drop (i + 1) ts) ≡ every k ts
  every_passes t r h e y p = sym (ap {B = Bool} (λ (b : Bool). b && every k (drop (i + 1) ts)) (sym e ∙ y)) ∙ sym (every_next k ts i t h) ∙ p

-- ---- the test of the edges that are there
both : (a b : Bool) → (a && b) ≡ true → (a ≡ true) × (b ≡ true)
both true true e = (refl, refl)
both true false e = absurd (false≢true e)
both false b e = absurd (false≢true e)

module _ (ts : List (Tri ℕ)) where
  -- (u, v) is none of the edges, or it is used as often as its reverse
  abbrev Tested : ℕ → ℕ → ℕ → Type 0
  Tested u v n = (n ≡ 0) ⊎ (uses u v (edges ts) ≡ uses v u (edges ts))

  here_tested : (u v a b : ℕ) → even_edge ts a b ≡ true → Tested u v (here u v a b)
  here_tested u v a b e = go (eqb a u && eqb b v) refl
    where
      go : (t : Bool) → (eqb a u && eqb b v) ≡ t → Tested u v (cond t 1 0)
      go false h = inl refl
      go true h =
          let p : a ≡ u = eqb-true a u (both (eqb a u) (eqb b v) h).0 in
          let q : b ≡ v = eqb-true b v (both (eqb a u) (eqb b v) h).1 in
          inr ((λ j. uses (sym p j) (sym q j) (edges ts)) ∙ eqb-true _ _ e ∙ (λ j. uses (q j) (p j) (edges ts)))

  more : (u v m n : ℕ) → Tested u v m → Tested u v n → Tested u v (m + n)
  more u v m n (inr e) k = inr e
  more u v m n (inl d) (inr e) = inr e
  more u v m n (inl d) (inl e) = inl (omega arith)

  all_tested : (xs : List (Tri ℕ)) → every (even_triangle ts) xs ≡ true → (u v : ℕ) → Tested u v (uses u v (edges xs))
  unfolding every even_triangle
  all_tested [] e u v = inl refl
  all_tested (t ∷ xs) e u v =
      let p = both (even_triangle ts t) (every (even_triangle ts) xs) e in
      let q = both (even_edge ts t.0 t.1 && even_edge ts t.1 t.2) (even_edge ts t.2 t.0) p.0 in
      let s = both (even_edge ts t.0 t.1) (even_edge ts t.1 t.2) q.0 in
      more u v _ _ (here_tested u v t.0 t.1 s.0) (
      more u v _ _ (here_tested u v t.1 t.2 s.1) (
      more u v _ _ (here_tested u v t.2 t.0 q.1) (all_tested xs p.1 u v)))

  -- an edge that is not there has no reverse either: the reverse would be there, and was tested
  tested_even : every (even_triangle ts) ts ≡ true → EdgesBalance ts
  tested_even e u v = go (all_tested ts e u v) (all_tested ts e v u)
    where
      go : Tested u v (uses u v (edges ts)) → Tested v u (uses v u (edges ts)) → uses u v (edges ts) ≡ uses v u (edges ts)
      go (inr p) k = p
      go (inl d) (inr q) = sym q
      go (inl d) (inl q) = d ∙ sym q

  even_tested : EdgesBalance ts → (xs : List (Tri ℕ)) → every (even_triangle ts) xs ≡ true
  unfolding every even_triangle
  even_tested h [] = refl
  even_tested h (t ∷ xs) =
      rw (
        eq-eqb _ _ (h t.0 t.1),
        eq-eqb _ _ (h t.1 t.2),
        eq-eqb _ _ (h t.2 t.0),
      ) (even_tested h xs)

-- ---- the test of a mesh
module _ (n : ℕ) (ts : List (Tri ℕ)) where
  -- what the test of every triangle shows
  shows : (xs : List (Tri ℕ)) → every (closed_triangle n ts) xs ≡ true → (T (all_of distinct xs)) × (T (all_of (below n) xs)) × (every (even_triangle ts) xs ≡ true)
  unfolding every closed_triangle all_of
  shows [] e = (tt, tt, refl)
  shows (t ∷ xs) e =
      let p = both (closed_triangle n ts t) (every (closed_triangle n ts) xs) e in
      let q = both (distinct t && below n t) (even_triangle ts t) p.0 in
      let s = both (distinct t) (below n t) q.0 in
      let r = shows xs p.1 in (
        rw s.0 r.0,
        rw s.1 r.1,
        rw q.1 r.2,
      )

  -- and the other way
  shown : (xs : List (Tri ℕ)) → T (all_of distinct xs) → T (all_of (below n) xs) → every (even_triangle ts) xs ≡ true → every (closed_triangle n ts) xs ≡ true
  unfolding every closed_triangle all_of
  shown [] d b e = refl
  shown (t ∷ xs) d b e =
      let p = both (even_triangle ts t) (every (even_triangle ts) xs) e in
      rw (is_true (distinct t) (and_l (distinct t) (all_of distinct xs) d), is_true (below n t) (and_l (below n t) (all_of (below n) xs) b), p.0)
      (shown xs (and_r (distinct t) (all_of distinct xs) d) (and_r (below n t) (all_of (below n) xs) b) p.1)

  pub closed_test : (r : Bool) → r ≡ every (closed_triangle n ts) ts → (m : Mesh) → length m.vertices ≡ n → m.triangles ≡ ts → Decides r (Closed m)
  closed_test r e m l d = record {
    yes = λ p.
        let s = shows ts (sym e ∙ p) in
        record {
          edges_balance = subst EdgesBalance (sym d) (tested_even ts s.2);
          none_twice = subst (λ (x : List (Tri ℕ)). T (all_of distinct x)) (sym d) s.0;
          all_there = rw (l, d) s.1;
        };
    no = λ h.
        e ∙ shown ts (subst (λ (x : List (Tri ℕ)). T (all_of distinct x)) d h.none_twice) (rw (l, d) at h.all_there)
        (even_tested ts (subst EdgesBalance d h.edges_balance) ts);
  }
