-- `append`, `flip` and `transform` keep the edges of a mesh balanced. Assumes nothing.
use Rattle.std.specs.Prelude.{◌≡◌, refl, Bool, true, false, ◌&&◌, cond, List, [], ◌∷◌, ◌++◌, map, ℕ, ◌+◌, ◌-◌, ◌≤◌, ◌<◌, length, eqb, leb}
use Rattle.std.proofs.Common.{sym, ap, ◌∙◌, subst, arith, eq-eqb, ne_eqb, eqb-true, leb-true, leb-false}
use Rattle.std.proofs.Math.Path.{fun_ext}
use Rattle.std.specs.Float.{binary64}
use Rattle.std.specs.Float.Ieee.{lt, of_bits}
use Rattle.std.proofs.lemmas.Bool.{eqb-false}
use Rattle.slice_law.specs.Bools.{and_false}
use Rattle.math_matrix.specs.declared.Mat4.{Mat4}
use Rattle.math_matrix.specs.Mat.{determinant}
use Rattle.mesh_balance_spec.specs.Soup.{Tri, Weight, sum, map_tri, sum_append, sum_map, sum_flip}
use Rattle.mesh_balance_spec.specs.Soup.{flip_tri}
use Rattle.mesh_balance_spec.specs.Count.{edges, uses, here, uses_sum, here_rev, EdgesBalance}
use Rattle.mesh_spec.specs.Mesh.{Mesh, append, flip}
use Rattle.mesh_spec.specs.Edits.{moved, transform}

-- ---- numbers that all go up by n
pub eqb_shift : (n x y : ℕ) → eqb (x + n) (y + n) ≡ eqb x y
eqb_shift n x y = go (eqb x y) refl
  where
    go : (t : Bool) → eqb x y ≡ t → eqb (x + n) (y + n) ≡ t
    go true e = eq-eqb (x + n) (y + n) (ap (λ (z : ℕ). z + n) (eqb-true x y e))
    go false e = ne_eqb (x + n) (y + n) (λ q. eqb-false x y e (omega arith))

module _ (n : ℕ) where
  -- an edge between numbers from n on is the edge between the numbers before
  here_shift : (u v a b : ℕ) → here (u + n) (v + n) (a + n) (b + n) ≡ here u v a b
  here_shift u v a b = rw (eqb_shift n a u, eqb_shift n b v)

  -- no edge has an end below n
  here_first : (u v a b : ℕ) → u < n → here u v (a + n) (b + n) ≡ 0
  here_first u v a b h = rw (ne_eqb (a + n) u (λ e. omega arith))

  here_second : (u v a b : ℕ) → v < n → here u v (a + n) (b + n) ≡ 0
  here_second u v a b h = rw (ne_eqb (b + n) v (λ e. omega arith), and_false (eqb (a + n) u))

sum_none : (w : Weight ℕ) (ts : List (Tri ℕ)) → ((a b : ℕ) → w a b ≡ 0) → sum w ts ≡ 0
sum_none w [] h = refl
sum_none w (t ∷ ts) h = omega (arith, h t.0 t.1, h t.1 t.2, h t.2 t.0, sum_none w ts h)

module _ (n : ℕ) (ts : List (Tri ℕ)) where
  abbrev up : List (Tri ℕ)
  up = map (map_tri (λ i. i + n)) ts

  uses_up : (u v : ℕ) → uses u v (edges up) ≡ sum (λ a b. here u v (a + n) (b + n)) ts
  uses_up u v = uses_sum u v up ∙ sum_map (λ i. i + n) (here u v) ts

  -- the numbers of balanced edges go up
  even_up : EdgesBalance ts → EdgesBalance up
  even_up h u v = go (leb n u) (leb n v) refl refl
    where
      none : (p q : ℕ) → ((a b : ℕ) → here p q (a + n) (b + n) ≡ 0) → uses p q (edges up) ≡ 0
      none p q k = uses_up p q ∙ sum_none (λ a b. here p q (a + n) (b + n)) ts k

      some : (p q : ℕ) → uses (p + n) (q + n) (edges up) ≡ uses p q (edges ts)
      some p q = uses_up (p + n) (q + n) ∙ ap {B = ℕ} (λ (w : Weight ℕ). sum w ts) (fun_ext (λ a. fun_ext (λ b. here_shift n p q a b))) ∙ sym (uses_sum p q ts)

      both : (p q : ℕ) → uses (p + n) (q + n) (edges up) ≡ uses (q + n) (p + n) (edges up)
      both p q = some p q ∙ h p q ∙ sym (some q p)

      go : (s t : Bool) → leb n u ≡ s → leb n v ≡ t → uses u v (edges up) ≡ uses v u (edges up)
      go true true d e =
          let a : u - n + n ≡ u = omega (arith, leb-true n u d) in
          let b : v - n + n ≡ v = omega (arith, leb-true n v e) in
          rw (a, b) at (both (u - n) (v - n))
      go false t d e =
          let k : u < n = leb-false n u d in
          none u v (λ a b. here_first n u v a b k) ∙ sym (none v u (λ a b. here_second n v u a b k))
      go true false d e =
          let k : v < n = leb-false n v e in
          none u v (λ a b. here_second n u v a b k) ∙ sym (none v u (λ a b. here_first n v u a b k))

even_append : (xs ys : List (Tri ℕ)) → EdgesBalance xs → EdgesBalance ys → EdgesBalance (xs ++ ys)
even_append xs ys h k u v =
    omega (
      arith,
      uses_sum u v (xs ++ ys),
      uses_sum v u (xs ++ ys),
      sum_append (here u v) xs ys,
      sum_append (here v u) xs ys,
      uses_sum u v xs,
      uses_sum v u xs,
      uses_sum u v ys,
      uses_sum v u ys,
      h u v,
      k u v,
    )

uses_flip : (u v : ℕ) (ts : List (Tri ℕ)) → uses u v (edges (map flip_tri ts)) ≡ uses v u (edges ts)
uses_flip u v ts = uses_sum u v (map flip_tri ts) ∙ sum_flip (here u v) ts ∙ ap {B = ℕ} (λ (w : Weight ℕ). sum w ts) (sym (here_rev u v)) ∙ sym (uses_sum v u ts)

-- ---- the calls
pub append_edges : (m o : Mesh) → EdgesBalance m.triangles → EdgesBalance o.triangles → EdgesBalance (append m o).triangles
unfolding append
append_edges m o h k = even_append m.triangles (up (length m.vertices) o.triangles) h (even_up (length m.vertices) o.triangles k)

pub flip_edges : (m : Mesh) → EdgesBalance m.triangles → EdgesBalance (flip m).triangles
unfolding flip
flip_edges m h u v = uses_flip u v m.triangles ∙ h v u ∙ sym (uses_flip v u m.triangles)
