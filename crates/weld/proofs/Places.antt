-- The front of a slice after three stores at its end, the vertices that it holds, and the whole places of a slice. Assumes nothing.
use mathlib.Core.Path.{◌≡◌, refl, ap, ◌∙◌}
use mathlib.Core.List.{List, [], ◌∷◌, ◌++◌}
use Prim.Native.Nat.{ℕ, zero, suc, ◌+◌, ◌*◌, ◌/◌, ◌≤◌, ◌<◌}
use native.Mathlib.Nat.{min-le_left, min-le_right, le_of_suc-le-suc, not-suc-le-zero}
use native.Mathlib.Omega.{arith}
use lib.ListN.{length, get_or, set, take, drop, length-append}
use lib.Seq.{get_or-take, sets-eq, take_at, length-take-le}
use lib.Ieee.{Float, nan}
use Rattle.math.specs.declared.Vec3.{Vec3}
use Rattle.mesh_spec.specs.Slices.{flat_v, vertex_at}
use Rattle.slice.specs.Every.{counted_places, places_of}

module _ {A : Type 0} where
  -- the front of a list after three stores at its end
  pub take_three : (l : List A) (n : ℕ) (x y z : A) → n + 3 ≤ length l → take (n + 3) (set (set (set l n x) (n + 1) y) (n + 2) z) ≡ take n l ++ (x ∷ y ∷ z ∷ [])
  take_three l n x y z h =
      let e : set (set (set l n x) (n + 1) y) (n + 2) z ≡ take n l ++ (x ∷ y ∷ z ∷ []) ++ drop (n + 3) l =
      (λ i. set (set (set l n x) (one i) y) (two i) z) ∙ sets-eq (x ∷ y ∷ z ∷ []) l n h in
      let k : length (take n l ++ (x ∷ y ∷ z ∷ [])) ≡ n + 3 =
      length-append (take n l) (x ∷ y ∷ z ∷ []) ∙ ap (λ (j : ℕ). j + 3) (length-take-le n l (omega arith)) in
      ap (take (n + 3)) e ∙ take_at (take n l ++ (x ∷ y ∷ z ∷ [])) (drop (n + 3) l) (n + 3) k
    where
      one : n + 1 ≡ suc n
      one = omega arith

      two : n + 2 ≡ suc (suc n)
      two = omega arith

pub take_vertex : (vs : List Float) (n k : ℕ) → k < n → vertex_at (take (3 * n) vs) k ≡ vertex_at vs k
take_vertex vs n k h =
    λ i. record { x = get_or-take (3 * n) vs (3 * k) nan (omega arith) i; y = get_or-take (3 * n) vs (3 * k + 1) nan (omega arith) i; z = get_or-take (3 * n) vs (3 * k + 2) nan (omega arith) i }

three_suc : (k : ℕ) → 3 * suc k ≡ suc (suc (suc (3 * k)))
three_suc k = omega arith

-- vertex k of the coordinates of a list of vertices
pub flatV_at : (vs : List Vec3) (k : ℕ) (d : Vec3) → k < length vs → vertex_at (flat_v vs) k ≡ get_or vs k d
flatV_at [] k d h = absurd (not-suc-le-zero h)
flatV_at (v ∷ vs) zero d h = refl
flatV_at (v ∷ vs) (suc k) d h = step ∙ flatV_at vs k d (le_of_suc-le-suc h)
  where
    one : 3 * suc k + 1 ≡ suc (suc (suc (3 * k + 1)))
    one = omega arith

    two : 3 * suc k + 2 ≡ suc (suc (suc (3 * k + 2)))
    two = omega arith

    step : vertex_at (flat_v (v ∷ vs)) (suc k) ≡ vertex_at (flat_v vs) k
    step = λ i. record {
      x = get_or (flat_v (v ∷ vs)) (three_suc k i) nan;
      y = get_or (flat_v (v ∷ vs)) (one i) nan;
      z = get_or (flat_v (v ∷ vs)) (two i) nan;
    }

-- ---- whole places
module _ {A : Type 0} (l : List A) where
  pub places_fit : 3 * places_of l ≤ length l
  unfolding counted_places
  places_fit = omega (arith, min-le_left (length l / 3) 4294967295)

  pub places_limit : places_of l ≤ 4294967295
  unfolding counted_places
  places_limit = min-le_right (length l / 3) 4294967295

pub places_long : {A : Type 0} (l k : List A) → length l ≡ length k → places_of l ≡ places_of k
unfolding counted_places
places_long l k e = ap counted_places e
