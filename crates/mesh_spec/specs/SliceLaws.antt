-- Laws of `flat`, `tris`, `flat_v` and `points`: what was laid out is read back, and parts of whole places. Assumes nothing.
use Rattle.std.specs.Prelude.{◌≡◌, refl, List, [], ◌∷◌, ◌++◌, map, ℕ, zero, suc, ◌+◌, ◌*◌, ◌≤◌, ◌<◌, length, take, drop, get_or, Float}
use Rattle.std.proofs.Common.{sym, ap, ◌∙◌, arith, take_at, drop_at, drop-cons, drop-drop}
use Rattle.std.proofs.lemmas.List.{length-map}
use Rattle.math.specs.declared.Vec3.{Vec3}
use Rattle.mesh_balance_spec.specs.Soup.{Tri, map_tri}
use Rattle.mesh_balance_spec.specs.Buffer.{flat, tris, tris_flat, length_flat}
use Rattle.mesh_spec.specs.Slices.{coords, flat_v, points, tri_of, vec_of}

next : (i : ℕ) → 3 * suc i ≡ suc (suc (suc (3 * i)))
next i = omega arith

module _ {P : Type 0} where
  pub flat_tris : (k : ℕ) (l : List P) → length l ≡ 3 * k → flat (tris l) ≡ l
  flat_tris k [] e = refl
  flat_tris k (a ∷ []) e = absurd (omega arith)
  flat_tris k (a ∷ b ∷ []) e = absurd (omega arith)
  flat_tris zero (a ∷ b ∷ c ∷ r) e = absurd (omega arith)
  flat_tris (suc k) (a ∷ b ∷ c ∷ r) e = ap {B = List P} (λ q. a ∷ b ∷ c ∷ q) (flat_tris k r (omega arith))

  pub length_tris : (k : ℕ) (l : List P) → length l ≡ 3 * k → length (tris l) ≡ k
  length_tris k l e = omega (arith, length_flat (tris l), ap length (flat_tris k l e))

  -- the first triangles, whatever follows
  pub take_flat : (ts : List (Tri P)) (r : List P) → take (3 * length ts) (flat ts ++ r) ≡ flat ts
  take_flat ts r = take_at (flat ts) r (3 * length ts) (length_flat ts)

  pub tris_drop : (i : ℕ) (l : List P) → drop i (tris l) ≡ tris (drop (3 * i) l)
  tris_drop zero l = refl
  tris_drop (suc i) [] = rw next
  tris_drop (suc i) (a ∷ []) = rw next
  tris_drop (suc i) (a ∷ b ∷ []) = rw next
  tris_drop (suc i) (a ∷ b ∷ c ∷ r) = rw next (tris_drop i r)

  pub tris_take : (i : ℕ) (l : List P) → take i (tris l) ≡ tris (take (3 * i) l)
  tris_take zero l = refl
  tris_take (suc i) [] = rw next
  tris_take (suc i) (a ∷ []) = rw next
  tris_take (suc i) (a ∷ b ∷ []) = rw next
  tris_take (suc i) (a ∷ b ∷ c ∷ r) = rw next (ap {B = List (Tri P)} (λ q. (a, b, c) ∷ q) (tris_take i r))

pub flat_map : {P Q : Type 0} (f : P → Q) (ts : List (Tri P)) → flat (map (map_tri f) ts) ≡ map f (flat ts)
flat_map f [] = refl
flat_map {Q = Q} f (t ∷ ts) = ap {B = List Q} (λ q. f t.0 ∷ f t.1 ∷ f t.2 ∷ q) (flat_map f ts)

pub points_tris : (l : List Float) → points l ≡ map vec_of (tris l)
points_tris [] = refl
points_tris (x ∷ []) = refl
points_tris (x ∷ y ∷ []) = refl
points_tris (x ∷ y ∷ z ∷ r) = ap {B = List Vec3} (λ q. vec_of (x, y, z) ∷ q) (points_tris r)

pub flatV_flat : (vs : List Vec3) → flat_v vs ≡ flat (map tri_of vs)
flatV_flat [] = refl
flatV_flat (p ∷ ps) = ap {B = List Float} (λ q. p.x ∷ p.y ∷ p.z ∷ q) (flatV_flat ps)

pub points_flat_v : (vs : List Vec3) → points (flat_v vs) ≡ vs
points_flat_v [] = refl
points_flat_v (p ∷ ps) = ap {B = List Vec3} (λ q. p ∷ q) (points_flat_v ps)

pub flatV_points : (k : ℕ) (l : List Float) → length l ≡ 3 * k → flat_v (points l) ≡ l
flatV_points k [] e = refl
flatV_points k (a ∷ []) e = absurd (omega arith)
flatV_points k (a ∷ b ∷ []) e = absurd (omega arith)
flatV_points zero (a ∷ b ∷ c ∷ r) e = absurd (omega arith)
flatV_points (suc k) (a ∷ b ∷ c ∷ r) e = ap {B = List Float} (λ q. a ∷ b ∷ c ∷ q) (flatV_points k r (omega arith))

pub length_flat_v : (vs : List Vec3) → length (flat_v vs) ≡ 3 * length vs
length_flat_v vs = omega (arith, ap length (flatV_flat vs), length_flat (map tri_of vs), length-map vs tri_of)

pub length_points : (k : ℕ) (l : List Float) → length l ≡ 3 * k → length (points l) ≡ k
length_points k l e = omega (arith, length_flat_v (points l), ap length (flatV_points k l e))

pub take_flat_v : (vs : List Vec3) (r : List Float) → take (3 * length vs) (flat_v vs ++ r) ≡ flat_v vs
take_flat_v vs r = take_at (flat_v vs) r (3 * length vs) (length_flat_v vs)

pub flatV_append : (us vs : List Vec3) → flat_v (us ++ vs) ≡ flat_v us ++ flat_v vs
flatV_append [] vs = refl
flatV_append (u ∷ us) vs = ap {B = List Float} (λ r. u.x ∷ u.y ∷ u.z ∷ r) (flatV_append us vs)
