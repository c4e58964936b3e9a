-- A loop over points that grows a box: what it keeps, one turn of it, and its end. Assumes nothing.
use mathlib.Core.Path.{◌≡◌, sym, ap, ◌∙◌, subst}
use mathlib.Core.List.{List}
use Prim.Native.Nat.{ℕ, ◌+◌, ◌*◌, ◌≤◌, ◌<◌}
use native.Mathlib.Omega.{arith}
use lib.ListN.{length, take, drop}
use lib.Seq.{length-take-le}
use lib.Ieee.{Float}
use Rattle.math.specs.declared.Vec3.{Vec3}
use Rattle.math.specs.declared.BoundingBox.{BoundingBox}
use Rattle.math.specs.Box.{empty_box, include}
use Rattle.math_box.specs.NoNan.{NoNan}
use Rattle.math_box.specs.NoNanLaws.{empty_no_nan, include_no_nan}
use Rattle.mesh_spec.specs.Slices.{points, vertex_at}
use Rattle.mesh_spec.specs.SliceLaws.{length_points}
use Rattle.mesh_spec.specs.Measures.{including, plus_zero_box, box_of}
use Rattle.mesh_triples.proofs.NextTriples.{next_points}
use Rattle.slice_law.specs.Next.{Next, drop_end}

-- b is the box of the points before place i: with what is left it is the box of all, and no bound of it is a NaN
pub record Including (l : List Vec3) (b : BoundingBox) (i : ℕ) : Type 0 where
  pub rest : including b (drop i l) ≡ including empty_box l
  pub no_nan : NoNan b

module _ (l : List Vec3) where
  pub including_start : (b : BoundingBox) → b ≡ empty_box → Including l b 0
  including_start b e = record {
    rest = ap {B = BoundingBox} (λ (a : BoundingBox). including a l) e;
    no_nan = subst NoNan (sym e) empty_no_nan;
  }

  -- p is the next point, and q the one that the code includes
  pub including_turn : (i : ℕ) (p q : Vec3) (b c : BoundingBox) → Next l i p → q ≡ p → c ≡ include b q → Including l b i → Including l c (i + 1)
  unfolding including
  including_turn i p q b c h e k s = record {
    rest =
        ap {B = BoundingBox} (λ (a : BoundingBox). including a (drop (i + 1) l)) (k ∙ ap {B = BoundingBox} (include b) e)
        ∙ sym (ap {B = BoundingBox} (including b) h)
        ∙ s.rest;
    no_nan = subst NoNan (sym k) (include_no_nan b q s.no_nan);
  }

  -- r is b with +0.0 for −0.0
  pub including_end : (i : ℕ) (b r : BoundingBox) → length l ≤ i → r ≡ plus_zero_box b → Including l b i → r ≡ box_of l
  unfolding including box_of
  including_end i b r h e s = e ∙ ap {B = BoundingBox} plus_zero_box (sym (ap {B = BoundingBox} (including b) (drop_end l i h)) ∙ s.rest)

-- ---- the first n vertices of a slice
module _ (vs : List Float) (n : ℕ) (within : 3 * n ≤ length vs) where
  pub length_vertices : length (points (take (3 * n) vs)) ≡ n
  length_vertices = length_points n (take (3 * n) vs) (length-take-le (3 * n) vs within)

  pub vertex_turn : (i : ℕ) (q : Vec3) (b c : BoundingBox) → i < n → q ≡ vertex_at vs i → c ≡ include b q → Including (points (take (3 * n) vs)) b i
      → Including (points (take (3 * n) vs)) c (i + 1)
  vertex_turn i q b c h = including_turn (points (take (3 * n) vs)) i (vertex_at vs i) q b c (next_points vs n i h within)

  pub vertex_end : (i : ℕ) (b r : BoundingBox) → n ≤ i → r ≡ plus_zero_box b → Including (points (take (3 * n) vs)) b i → r ≡ box_of (points (take (3 * n) vs))
  vertex_end i b r h = including_end (points (take (3 * n) vs)) i b r (omega (arith, length_vertices))
