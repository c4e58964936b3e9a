-- The two loops over the first n vertices of a slice, for any function of a point: whether all its values are finite, and each vertex replaced by its value.
-- Assumes nothing.
use mathlib.Core.Path.{◌≡◌, refl, ap, ◌∙◌}
use mathlib.Core.Bool.{Bool, ◌&&◌}
use mathlib.Core.List.{List, map}
use Prim.Native.Nat.{ℕ, ◌+◌, ◌*◌, ◌≤◌, ◌<◌}
use native.Mathlib.Omega.{arith}
use lib.ListN.{length, take, drop, length-map}
use lib.Seq.{length-take-le}
use lib.Ieee.{Float, nan}
use Rattle.math.specs.declared.Vec3.{Vec3}
use Rattle.math.specs.Vec.{v_finite}
use Rattle.slice.specs.Every.{every}
use Rattle.slice_law.specs.Next.{next_map}
use Rattle.slice.specs.EveryLaws.{every_turn, every_done}
use Rattle.mesh_balance_spec.specs.Soup.{Tri}
use Rattle.mesh_spec.specs.Slices.{points, tri_of, vec_of, vertex_at}
use Rattle.mesh_spec.specs.SliceLaws.{length_points}
use Rattle.mesh_triples.specs.Triples.{each_to, put_triple}
use Rattle.mesh_triples.proofs.NextTriples.{next_points}
use Rattle.mesh_triples.proofs.Each.{each_none, length_each, each_turn, each_end}

-- ---- whether all values are finite: ok and what is left to test decide as the whole does
abbrev pub Testing : (Vec3 → Vec3) → List Float → ℕ → Bool → ℕ → Type 0
Testing f vs n ok i = (i ≤ n) × ((ok && every v_finite (drop i (map f (points (take (3 * n) vs))))) ≡ every v_finite (map f (points (take (3 * n) vs))))

module _ (f : Vec3 → Vec3) (vs : List Float) (n : ℕ) (within : 3 * n ≤ length vs) where
  pub testing_turn : (ok r : Bool) (i : ℕ) → i < n → r ≡ v_finite (f (vertex_at vs i)) → Testing f vs n ok i → Testing f vs n (ok && r) (i + 1)
  testing_turn ok r i h e t =
      let p = points (take (3 * n) vs) in
      (omega arith, every_turn v_finite (map f p) i (f (vertex_at vs i)) ok r (next_map f p i (vertex_at vs i) (next_points vs n i h within)) e t.1)

  pub testing_end : (ok : Bool) (i : ℕ) → n ≤ i → Testing f vs n ok i → ok ≡ every v_finite (map f (points (take (3 * n) vs)))
  testing_end ok i h t =
      let p = points (take (3 * n) vs) in
      let l : length (map f p) ≤ i = omega (arith, length-map p f, length_points n (take (3 * n) vs) (length-take-le (3 * n) vs within)) in
      every_done v_finite (map f p) i ok l t.1

-- ---- each vertex replaced: those before i are
-- the three floats of the value at a vertex
abbrev triple_of : (Vec3 → Vec3) → Tri Float → Tri Float
triple_of f t = tri_of (f (vec_of t))

abbrev pub Moving : (Vec3 → Vec3) → List Float → ℕ → List Float → ℕ → Type 0
Moving f vs n out i = (i ≤ n) × (length out ≡ length vs) × (out ≡ each_to (λ t. tri_of (f (vec_of t))) i vs)

pub moving_start : (f : Vec3 → Vec3) (vs : List Float) (n : ℕ) → Moving f vs n vs 0
moving_start f vs n = (omega arith, refl, each_none (triple_of f) vs)

module _ (f : Vec3 → Vec3) (vs : List Float) (n : ℕ) (within : 3 * n ≤ length vs) where
  pub moving_turn : (out next : List Float) (p : Vec3) (i : ℕ) → i < n → p ≡ f (vertex_at out i) → next ≡ put_triple out i (tri_of p) → Moving f vs n out i → Moving f vs n next (i + 1)
  moving_turn out next p i h e w t =
      let q = w ∙ ap {B = List Float} (λ (x : Vec3). put_triple out i (tri_of x)) e in
      let s = each_turn (triple_of f) vs i nan out next (omega arith) t.2 q in
      (omega arith, ap length s ∙ length_each (triple_of f) vs (i + 1) (omega arith), s)

  pub moving_end : (out : List Float) (i : ℕ) → n ≤ i → Moving f vs n out i → out ≡ each_to (λ t. tri_of (f (vec_of t))) n vs
  moving_end out i h t = each_end (triple_of f) vs i n out (omega arith) t.2
