-- Whether vertices are finite, and whether their floats are: the same, and a loop that tests the vertices. Assumes nothing.
use mathlib.Core.Path.{◌≡◌, refl, ap, ◌∙◌}
use mathlib.Core.Bool.{Bool, ◌&&◌}
use mathlib.Core.List.{List, [], ◌∷◌}
use Prim.Native.Nat.{ℕ, ◌+◌, ◌*◌, ◌≤◌, ◌<◌}
use native.Mathlib.Omega.{arith}
use lib.ListN.{length, take, drop}
use lib.Seq.{length-take-le}
use lib.Ieee.{Float}
use lib.Ieee.Scale.{finite}
use Rattle.math.specs.declared.Vec3.{Vec3}
use Rattle.math.specs.Vec.{v_finite}
use Rattle.slice_law.specs.Bools.{and_assoc}
use Rattle.slice.specs.Every.{every}
use Rattle.slice.specs.EveryLaws.{every_turn, every_done}
use Rattle.mesh_spec.specs.Slices.{flat_v, points, vertex_at}
use Rattle.mesh_spec.specs.SliceLaws.{flatV_points}
use Rattle.mesh_triples.proofs.NextTriples.{next_points}
use Rattle.mesh_box.proofs.Including.{length_vertices}

every_flat : (ps : List Vec3) → every v_finite ps ≡ every finite (flat_v ps)
unfolding every v_finite
every_flat [] = refl
every_flat (p ∷ ps) =
    let x = finite p.x in
    let y = finite p.y in
    let z = finite p.z in
    ap {B = Bool} (λ (r : Bool). x && y && z && r) (every_flat ps)
    ∙ and_assoc (x && y) z (every finite (flat_v ps))
    ∙ and_assoc x y (z && every finite (flat_v ps))

every_points : (k : ℕ) (vs : List Float) → length vs ≡ 3 * k → every v_finite (points vs) ≡ every finite vs
every_points k vs e = every_flat (points vs) ∙ ap {B = Bool} (every finite) (flatV_points k vs e)

-- ok says whether the vertices before place i are finite: with what is left it decides as all do
abbrev pub Finite : List Vec3 → Bool → ℕ → Type 0
Finite l ok i = (ok && every v_finite (drop i l)) ≡ every v_finite l

module _ (vs : List Float) (n : ℕ) (within : 3 * n ≤ length vs) where
  pub finite_turn : (i : ℕ) (q : Vec3) (ok t : Bool) → i < n → q ≡ vertex_at vs i → t ≡ v_finite q → Finite (points (take (3 * n) vs)) ok i
      → Finite (points (take (3 * n) vs)) (ok && t) (i + 1)
  finite_turn i q ok t h e f = every_turn v_finite (points (take (3 * n) vs)) i (vertex_at vs i) ok t (next_points vs n i h within) (f ∙ ap {B = Bool} v_finite e)

  pub finite_end : (i : ℕ) (ok : Bool) → n ≤ i → Finite (points (take (3 * n) vs)) ok i → ok ≡ every finite (take (3 * n) vs)
  finite_end i ok h f =
      every_done v_finite (points (take (3 * n) vs)) i ok (omega (arith, length_vertices vs n within)) f
      ∙ every_points n (take (3 * n) vs) (length-take-le (3 * n) vs within)
