-- The loops of the measures: sums over the corners of triangles. Assumes nothing.
use mathlib.Core.Path.{◌≡◌, refl, sym, ap, ◌∙◌}
use mathlib.Core.List.{List}
use Prim.Native.Nat.{ℕ, ◌+◌, ◌*◌, ◌≤◌, ◌<◌}
use native.Mathlib.Omega.{arith}
use lib.IntN.{pos}
use lib.ListN.{length, take, drop, get_or, length-map}
use lib.Seq.{length-take-le}
use lib.Ieee.{Float, binary64, add, div, of_bits, of_int}
use Rattle.math.specs.declared.Vec3.{Vec3}
use Rattle.math.specs.Vec.{v_sub, cross, dot, norm}
use Rattle.mesh_balance_spec.specs.Soup.{Tri, map_tri}
use Rattle.mesh_balance_spec.specs.Buffer.{tris}
use Rattle.mesh_spec.specs.Mesh.{Mesh}
use Rattle.mesh_spec.specs.SliceLaws.{length_tris}
use Rattle.mesh_spec.specs.Measures.{sum_of, volume_term, area_term, triangle_soup, signed_volume}
use Rattle.mesh_spec.specs.Slices.{vertex_at}
use Rattle.mesh_triples.specs.Triples.{triple_at, corners_at, corners_of, CornersWithin, AllWithin}
use Rattle.slice_law.specs.Next.{Next, next_map, drop_end}
use Rattle.mesh_triples.proofs.NextTriples.{next_counted}

-- ---- one triangle
pub corners_within : (vs : List Float) (ts : List ℕ) (k i : ℕ) → AllWithin vs ts k → i < k → CornersWithin vs ts i
corners_within vs ts k i w h = record {
  triangle = omega (arith, w.triangles);
  first = w.corners (3 * i) (omega arith);
  second = w.corners (3 * i + 1) (omega arith);
  third = w.corners (3 * i + 2) (omega arith);
}

module _ (vs : List Float) (ts : List ℕ) (i : ℕ) where
  abbrev at : ℕ → Vec3
  at j = vertex_at vs (get_or ts j 0)

  pub volume_value : (a b c x : Vec3) (r : Float) → a ≡ at (3 * i) → b ≡ at (3 * i + 1) → c ≡ at (3 * i + 2) → x ≡ cross b c → r ≡ dot a x → r ≡ volume_term (corners_at vs ts i)
  unfolding volume_term
  volume_value a b c x r ea eb ec ex er = er ∙ (λ j. dot (ea j) (ex j)) ∙ (λ j. dot (at (3 * i)) (cross (eb j) (ec j)))

  pub area_value : (a b c s t x : Vec3) (r : Float) → a ≡ at (3 * i) → b ≡ at (3 * i + 1) → c ≡ at (3 * i + 2) → s ≡ v_sub b a → t ≡ v_sub c a → x ≡ cross s t → r ≡ norm x
      → div binary64 r (of_int binary64 (pos 2)) ≡ area_term (corners_at vs ts i)
  unfolding area_term
  area_value a b c s t x r ea eb ec es et ex er =
      ap {B = Float} (λ (q : Float). div binary64 q (of_int binary64 (pos 2))) (
      er
      ∙ ap {B = Float} norm (ex ∙ (λ j. cross (es j) (et j)) ∙ (λ j. cross (v_sub (eb j) (ea j)) (v_sub (ec j) (ea j))))
      )

-- ---- sums
pub next_corners : (vs : List Float) (ts : List ℕ) (k i : ℕ) → i < k → 3 * k ≤ length ts → Next (corners_of vs ts k) i (corners_at vs ts i)
next_corners vs ts k i h n = next_map (map_tri (vertex_at vs)) (tris (take (3 * k) ts)) i (triple_at ts i 0) (next_counted ts k i 0 h n)

pub length_corners : (vs : List Float) (ts : List ℕ) (k : ℕ) → 3 * k ≤ length ts → length (corners_of vs ts k) ≡ k
length_corners vs ts k h = length-map (tris (take (3 * k) ts)) (map_tri (vertex_at vs)) ∙ length_tris k (take (3 * k) ts) (length-take-le (3 * k) ts h)

module _ (f : Tri Vec3 → Float) (l : List (Tri Vec3)) where
  pub sum_turn : (i : ℕ) (t : Tri Vec3) (s x total : Float) → Next l i t → x ≡ f t → sum_of f s (drop i l) ≡ total → sum_of f (add binary64 s x) (drop (i + 1) l) ≡ total
  unfolding sum_of
  sum_turn i t s x total h e p = ap {B = Float} (λ (y : Float). sum_of f (add binary64 s y) (drop (i + 1) l)) e ∙ sym (ap {B = Float} (sum_of f s) h) ∙ p

  pub sum_ended : (i : ℕ) (s total : Float) → length l ≤ i → sum_of f s (drop i l) ≡ total → s ≡ total
  unfolding sum_of
  sum_ended i s total h p = sym (ap {B = Float} (sum_of f s) (drop_end l i h)) ∙ p

-- 6.0 is the float of 6
pub volume_is : (m : Mesh) (v : Float) → v ≡ sum_of volume_term (of_bits binary64 0) (triangle_soup m) → div binary64 v (of_bits binary64 0x4018000000000000) ≡ signed_volume m
unfolding signed_volume
volume_is m v e = (λ j. div binary64 (e j) (six j))
  where
    six : of_bits binary64 0x4018000000000000 ≡ of_int binary64 (pos 6)
    six = unfold of_bits of_int in refl
