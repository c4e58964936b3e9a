-- `append`, `flip` and `transform` keep `NoneTwice` and `AllThere`: three different vertices a triangle, and each of them there. Assumes nothing.
use Rattle.std.proofs.Common.{[]}
use Rattle.std.specs.Prelude.{◌≡◌, Bool, true, false, ◌&&◌, cond, ℕ, ◌+◌, ◌≤◌, ◌<◌, length, T, ltb}
use Rattle.std.proofs.Common.{arith, length-append, ltb→lt, lt→ltb}
use mathlib.Core.List.{List, ◌∷◌, ◌++◌, map}
use Rattle.std.specs.Float.{binary64}
use Rattle.std.specs.Float.Ieee.{lt, of_bits}
use Rattle.std.specs.Float.Ieee.Fits.{and_i, and_l, and_r}
use Rattle.math_matrix.specs.declared.Mat4.{Mat4}
use Rattle.math_matrix.specs.Mat.{determinant}
use Rattle.mesh_balance_spec.specs.Soup.{Tri, map_tri}
use Rattle.mesh_spec.specs.Mesh.{Mesh, append, flip, distinct}
use Rattle.mesh_spec.specs.Edits.{moved, transform}
use Rattle.mesh_spec.specs.Closed.{all_of, below, NoneTwice, AllThere}
use Rattle.mesh_spec.specs.ProperLaws.{all_weaken, distinct_turned, distinct_up, moved_all_there}

-- ---- tests of every triangle
module _ (k : Tri ℕ → Bool) where
  pub all_append : (xs ys : List (Tri ℕ)) → T (all_of k xs) → T (all_of k ys) → T (all_of k (xs ++ ys))
  unfolding all_of
  all_append [] ys s t = t
  all_append (x ∷ xs) ys s t = and_i (k x) (all_of k (xs ++ ys)) (and_l (k x) (all_of k xs) s) (all_append xs ys (and_r (k x) (all_of k xs) s) t)

  -- each triangle becomes another, and what was tested before shows the test of the other
  all_map : (j : Tri ℕ → Bool) (f : Tri ℕ → Tri ℕ) → ((t : Tri ℕ) → T (j t) → T (k (f t))) → (ts : List (Tri ℕ)) → T (all_of j ts) → T (all_of k (map f ts))
  unfolding all_of
  all_map j f h [] s = tt
  all_map j f h (t ∷ ts) s = and_i (k (f t)) (all_of k (map f ts)) (h t (and_l (j t) (all_of j ts) s)) (all_map j f h ts (and_r (j t) (all_of j ts) s))

module _ (n : ℕ) (t : Tri ℕ) where
  pub there : t.0 < n → t.1 < n → t.2 < n → T (below n t)
  there h k l =
      and_i (ltb t.0 n && ltb t.1 n) (ltb t.2 n) (and_i (ltb t.0 n) (ltb t.1 n) (lt→ltb t.0 n h) (lt→ltb t.1 n k))
      (lt→ltb t.2 n l)

  at0 : T (below n t) → t.0 < n
  at0 s = ltb→lt t.0 n (and_l (ltb t.0 n) (ltb t.1 n) (and_l (ltb t.0 n && ltb t.1 n) (ltb t.2 n) s))

  at1 : T (below n t) → t.1 < n
  at1 s = ltb→lt t.1 n (and_r (ltb t.0 n) (ltb t.1 n) (and_l (ltb t.0 n && ltb t.1 n) (ltb t.2 n) s))

  at2 : T (below n t) → t.2 < n
  at2 s = ltb→lt t.2 n (and_r (ltb t.0 n && ltb t.1 n) (ltb t.2 n) s)

pub below_more : (n m : ℕ) → n ≤ m → (t : Tri ℕ) → T (below n t) → T (below m t)
below_more n m h t s = there m t (omega (arith, at0 n t s)) (omega (arith, at1 n t s)) (omega (arith, at2 n t s))

below_up : (n m k : ℕ) → k ≡ n + m → (t : Tri ℕ) → T (below m t) → T (below k (map_tri (λ i. i + n) t))
below_up n m k e t s = there k (map_tri (λ i. i + n) t) (omega (arith, at0 m t s)) (omega (arith, at1 m t s)) (omega (arith, at2 m t s))

below_turned : (n : ℕ) (t : Tri ℕ) → T (below n t) → T (below n (t.0, t.2, t.1))
below_turned n t s = there n (t.0, t.2, t.1) (at0 n t s) (at2 n t s) (at1 n t s)

-- ---- no vertex twice
pub append_none_twice : (m o : Mesh) → NoneTwice m → NoneTwice o → NoneTwice (append m o)
unfolding append
append_none_twice m o s t =
    let n = length m.vertices in
    all_append distinct m.triangles (map (map_tri (λ i. i + n)) o.triangles) s
    (all_map distinct distinct (map_tri (λ i. i + n)) (distinct_up n) o.triangles t)

pub flip_none_twice : (m : Mesh) → NoneTwice m → NoneTwice (flip m)
unfolding flip
flip_none_twice m s = all_map distinct distinct (λ t. (t.0, t.2, t.1)) distinct_turned m.triangles s

pub transform_none_twice : (a : Mat4) (m : Mesh) → NoneTwice m → NoneTwice (transform a m)
unfolding transform moved
transform_none_twice a m s = go (lt (determinant a) (of_bits binary64 0))
  where
    go : (b : Bool) → NoneTwice (cond b (flip (moved a m)) (moved a m))
    go true = flip_none_twice (moved a m) s
    go false = s

-- ---- none that isn't there
pub append_all_there : (m o : Mesh) → AllThere m → AllThere o → AllThere (append m o)
unfolding append
append_all_there m o s t =
    let n = length m.vertices in
    let k = length (m.vertices ++ o.vertices) in
    let e : k ≡ n + length o.vertices = length-append m.vertices o.vertices in
    all_append
    (below k)
    m.triangles
    (map (map_tri (λ i. i + n)) o.triangles)
    (all_weaken (below k) (below n) (below_more n k (omega arith)) m.triangles s)
    (all_map (below k) (below (length o.vertices)) (map_tri (λ i. i + n)) (below_up n (length o.vertices) k e) o.triangles t)

pub flip_all_there : (m : Mesh) → AllThere m → AllThere (flip m)
unfolding flip
flip_all_there m s =
    let n = length m.vertices in
    all_map (below n) (below n) (λ t. (t.0, t.2, t.1)) (below_turned n) m.triangles s

pub transform_all_there : (a : Mat4) (m : Mesh) → AllThere m → AllThere (transform a m)
unfolding transform
transform_all_there a m s = go (lt (determinant a) (of_bits binary64 0))
  where
    go : (b : Bool) → AllThere (cond b (flip (moved a m)) (moved a m))
    go true = flip_all_there (moved a m) (moved_all_there a m s)
    go false = moved_all_there a m s
