-- `append`, `flip` and `transform` keep `NoneTwice` and `AllThere`: three different vertices a triangle, and each of them there. Assumes nothing.
use Rattle.std.specs.Prelude.{◌≡◌, refl, Bool, true, false, not, ◌&&◌, cond, ℕ, ◌+◌, ◌≤◌, ◌<◌, length, T, eqb, ltb}
use Rattle.std.proofs.Common.{sym, arith, length-append, ltb→lt, lt→ltb, eq-eqb, ne_eqb, eqb-true}
use mathlib.Core.List.{List, [], ◌∷◌, ◌++◌, map}
use Rattle.std.proofs.lemmas.List.{length-map}
use Rattle.std.specs.Float.{binary64}
use Rattle.std.specs.Float.Ieee.{lt, of_bits}
use Rattle.std.proofs.lemmas.Bool.{eqb-false}
use Rattle.std.specs.Float.Ieee.Fits.{and_i, and_l, and_r}
use Rattle.math_matrix.specs.declared.Mat4.{Mat4}
use Rattle.math_matrix.specs.Mat.{transform_point, determinant}
use Rattle.mesh_balance_spec.specs.Soup.{Tri, map_tri}
use Rattle.mesh_spec.specs.Mesh.{Mesh, append, flip, distinct}
use Rattle.mesh_spec.specs.Edits.{moved, transform}
use Rattle.mesh_spec.specs.Closed.{all_of, below, NoneTwice, AllThere}
use Rattle.mesh_spec.specs.EdgeLaws.{eqb_shift}

module _ (k : Tri ℕ → Bool) where
  pub all_weaken : (j : Tri ℕ → Bool) → ((t : Tri ℕ) → T (j t) → T (k t)) → (ts : List (Tri ℕ)) → T (all_of j ts) → T (all_of k ts)
  unfolding all_of
  all_weaken j h [] s = tt
  all_weaken j h (t ∷ ts) s = and_i (k t) (all_of k ts) (h t (and_l (j t) (all_of j ts) s)) (all_weaken j h ts (and_r (j t) (all_of j ts) s))

-- ---- one triangle
pub distinct_up : (n : ℕ) (t : Tri ℕ) → T (distinct t) → T (distinct (map_tri (λ i. i + n) t))
distinct_up n t s = rw (eqb_shift n t.0 t.1, eqb_shift n t.1 t.2, eqb_shift n t.0 t.2) s

eqb_comm : (x y : ℕ) → eqb x y ≡ eqb y x
eqb_comm x y = go (eqb y x) refl
  where
    go : (t : Bool) → eqb y x ≡ t → eqb x y ≡ t
    go true e = eq-eqb x y (sym (eqb-true y x e))
    go false e = ne_eqb x y (λ q. eqb-false y x e (sym q))

turn : (a b c : Bool) → T (a && b && c) → T (c && b && a)
turn true true true s = tt
turn true true false s = s
turn true false c s = absurd s
turn false b c s = absurd s

pub distinct_turned : (t : Tri ℕ) → T (distinct t) → T (distinct (t.0, t.2, t.1))
distinct_turned t s = rw (eqb_comm t.2 t.1) (turn (not (eqb t.0 t.1)) (not (eqb t.1 t.2)) (not (eqb t.0 t.2)) s)

pub moved_all_there : (a : Mat4) (m : Mesh) → AllThere m → AllThere (moved a m)
unfolding moved
moved_all_there a m s = rw (length-map m.vertices (transform_point a)) s
