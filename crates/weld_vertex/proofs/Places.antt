-- An entry apart from one that is written, and the vertices of a slice in which one is written. Assumes nothing.
use mathlib.Core.Path.{◌≡◌, ◌∙◌}
use mathlib.Core.List.{List}
use mathlib.Core.Logic.{⊎_elim, ◌⊎◌, inl}
use Prim.Native.Nat.{ℕ, ◌+◌, ◌*◌, ◌≤◌, ◌<◌}
use native.Mathlib.Omega.{arith}
use lib.ListN.{length, get_or, set, length-set}
use lib.Seq.{get_or-set_same, get_or-set_other}
use lib.Ieee.{Float, nan}
use Rattle.math.specs.declared.Vec3.{Vec3}
use Rattle.mesh_spec.specs.Slices.{vertex_at}
use Rattle.mesh_triples.specs.Triples.{put_vertex}

pub apart : {A : Type 0} (l : List A) (i j : ℕ) (a d : A) → (j < i) ⊎ (i < j) → get_or (set l i a) j d ≡ get_or l j d
apart l i j a d h = get_or-set_other l i j a d (λ e. ⊎_elim (λ w. omega arith) (λ w. omega arith) h)

module _ {A : Type 0} (l : List A) (n : ℕ) (x y z d : A) where
  three_before : (i : ℕ) → i < n → get_or (set (set (set l n x) (n + 1) y) (n + 2) z) i d ≡ get_or l i d
  three_before i h =
      apart (set (set l n x) (n + 1) y) (n + 2) i z d (inl (omega arith)) ∙ apart (set l n x) (n + 1) i y d (inl (omega arith)) ∙ apart l n i x d (inl h)

  three_at0 : n + 3 ≤ length l → get_or (set (set (set l n x) (n + 1) y) (n + 2) z) n d ≡ x
  three_at0 h =
      apart (set (set l n x) (n + 1) y) (n + 2) n z d (inl (omega arith)) ∙ apart (set l n x) (n + 1) n y d (inl (omega arith)) ∙ get_or-set_same l n x d (omega arith)

  three_at1 : n + 3 ≤ length l → get_or (set (set (set l n x) (n + 1) y) (n + 2) z) (n + 1) d ≡ y
  three_at1 h = apart (set (set l n x) (n + 1) y) (n + 2) (n + 1) z d (inl (omega arith)) ∙ get_or-set_same (set l n x) (n + 1) y d (simp length-set (omega arith))

  three_at2 : n + 3 ≤ length l → get_or (set (set (set l n x) (n + 1) y) (n + 2) z) (n + 2) d ≡ z
  three_at2 h = get_or-set_same (set (set l n x) (n + 1) y) (n + 2) z d (simp length-set (omega arith))

pub put_at : (vs : List Float) (m : ℕ) (p : Vec3) → 3 * m + 3 ≤ length vs → vertex_at (put_vertex vs m p) m ≡ p
put_at vs m p h =
    λ i. record {
      x = three_at0 vs (3 * m) p.x p.y p.z nan h i;
      y = three_at1 vs (3 * m) p.x p.y p.z nan h i;
      z = three_at2 vs (3 * m) p.x p.y p.z nan h i;
    }

before : (vs : List Float) (m : ℕ) (p : Vec3) (i : ℕ) → i < 3 * m → get_or (put_vertex vs m p) i nan ≡ get_or vs i nan
before vs m p i h = three_before vs (3 * m) p.x p.y p.z nan i h

pub put_before : (vs : List Float) (m : ℕ) (p : Vec3) (k : ℕ) → k < m → vertex_at (put_vertex vs m p) k ≡ vertex_at vs k
put_before vs m p k h = λ i. record { x = before vs m p (3 * k) (omega arith) i; y = before vs m p (3 * k + 1) (omega arith) i; z = before vs m p (3 * k + 2) (omega arith) i }
