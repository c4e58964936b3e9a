-- Laws of first sight, of welding and of append, on the definitions of Mesh.antt. Assumes nothing.
use Rattle.std.specs.Prelude.{◌≡◌, Bool, true, false, ◌&&◌, cond, length, get_or, eqb}
use Rattle.std.proofs.Math.Path.{refl}
use Rattle.std.proofs.Common.{sym, ap, ◌∙◌, ⊎_elim, add-zero, eq-or-lt_of_le, le_of_suc-le-suc, not-suc-le-zero, arith, length-append, eq-eqb, ne_eqb}
use mathlib.Core.List.{List, [], ◌∷◌, ◌++◌, map, append-nil}
use Prim.Native.Nat.{ℕ, zero, suc, ◌+◌, ◌≤◌, ◌<◌, zero-le, suc-le-suc}
use Rattle.std.proofs.Math.Nat.{suc_inj}
use Rattle.slice_law.specs.Bools.{and_assoc, false_unless}
use Rattle.math.specs.declared.Vec3.{Vec3}
use Rattle.mesh_balance_spec.specs.Soup.{Tri, map_tri}
use Rattle.math.specs.Vec.{v_finite}
use Rattle.mesh_spec.specs.Mesh.{Mesh, no_mesh, same_point, first_sight, with_point, weld_triangle, weld_soup, every_finite, append}

-- p is a vertex already
pub with_seen : (us : List Vec3) (p : Vec3) → first_sight us p < length us → with_point us p ≡ us
unfolding with_point
with_seen us p l = ap (λ (b : Bool). cond b (us ++ (p ∷ [])) us) (ne_eqb (first_sight us p) (length us) (λ e. omega arith))

-- p is none yet
pub with_new : (us : List Vec3) (p : Vec3) → first_sight us p ≡ length us → with_point us p ≡ us ++ (p ∷ [])
unfolding with_point
with_new us p e = ap (λ (b : Bool). cond b (us ++ (p ∷ [])) us) (eq-eqb (first_sight us p) (length us) e)

with_step : (us : List Vec3) (p : Vec3) (b : Bool) → length us ≤ length (cond b (us ++ (p ∷ [])) us)
with_step us p true = omega (arith, length-append us (p ∷ []))
with_step us p false = omega arith

pub with_longer : (us : List Vec3) (p : Vec3) → length us ≤ length (with_point us p)
unfolding with_point
with_longer us p = with_step us p (eqb (first_sight us p) (length us))

-- the vertices before are the front
pub with_front : (us : List Vec3) (p : Vec3) → (rest : List Vec3) × (with_point us p ≡ us ++ rest)
unfolding with_point
with_front us p = go (eqb (first_sight us p) (length us))
  where
    go : (b : Bool) → (rest : List Vec3) × (cond b (us ++ (p ∷ [])) us ≡ us ++ rest)
    go true = (p ∷ [], refl)
    go false = ([], sym (append-nil us))

-- ---- what was seen is seen again
pub sight_le : (us : List Vec3) (p : Vec3) → first_sight us p ≤ length us
unfolding first_sight
sight_le [] p = zero-le
sight_le (v ∷ us) p = go (same_point v p) (first_sight us p) (sight_le us p)
  where
    go : (b : Bool) (n : ℕ) → n ≤ length us → cond b 0 (suc n) ≤ suc (length us)
    go true n h = zero-le
    go false n h = suc-le-suc h

-- whatever follows
pub sight_stays : (us rest : List Vec3) (p : Vec3) → first_sight us p < length us → first_sight (us ++ rest) p ≡ first_sight us p
unfolding first_sight
sight_stays [] rest p l = absurd (not-suc-le-zero l)
sight_stays (v ∷ us) rest p l = go (same_point v p) (sight_stays us rest p) l
  where
    go : (b : Bool) → (first_sight us p < length us → first_sight (us ++ rest) p ≡ first_sight us p) → cond b 0 (suc (first_sight us p)) < suc (length us)
        → cond b 0 (suc (first_sight (us ++ rest) p)) ≡ cond b 0 (suc (first_sight us p))
    go true ih k = refl
    go false ih k = ap suc (ih (le_of_suc-le-suc k))

pub sight_new : (us : List Vec3) (p : Vec3) → same_point p p ≡ true → first_sight us p ≡ length us → first_sight (us ++ (p ∷ [])) p ≡ length us
unfolding first_sight
sight_new [] p r e = rw r
sight_new (v ∷ us) p r e = go (same_point v p) (sight_new us p r) e
  where
    go : (b : Bool) → (first_sight us p ≡ length us → first_sight (us ++ (p ∷ [])) p ≡ length us) → cond b 0 (suc (first_sight us p)) ≡ suc (length us)
        → cond b 0 (suc (first_sight (us ++ (p ∷ [])) p)) ≡ suc (length us)
    go true ih q = absurd (omega arith)
    go false ih q = ap suc (ih (suc_inj q))

-- ---- soups
pub weld_soup_append : (S : Mesh) (xs ys : List (Tri Vec3)) → weld_soup S (xs ++ ys) ≡ weld_soup (weld_soup S xs) ys
unfolding weld_soup
weld_soup_append S [] ys = refl
weld_soup_append S (x ∷ xs) ys = weld_soup_append (weld_triangle S x) xs ys

pub every_finite_append : (xs ys : List (Tri Vec3)) → every_finite (xs ++ ys) ≡ (every_finite xs && every_finite ys)
unfolding every_finite
every_finite_append [] ys = refl
every_finite_append (t ∷ xs) ys =
    let f : Bool = v_finite t.0 && v_finite t.1 && v_finite t.2 in
    ap (λ (b : Bool). f && b) (every_finite_append xs ys) ∙ sym (and_assoc f (every_finite xs) (every_finite ys))

-- ---- append
no_shift : (ts : List (Tri ℕ)) → map (map_tri (λ (i : ℕ). i + 0)) ts ≡ ts
no_shift [] = refl
no_shift (t ∷ ts) = λ i. (add-zero t.0 i, add-zero t.1 i, add-zero t.2 i) ∷ no_shift ts i

pub append_none : (m : Mesh) → append m no_mesh ≡ m
unfolding append
append_none m = λ i. record { vertices = append-nil m.vertices i; triangles = append-nil m.triangles i }

pub none_append : (m : Mesh) → append no_mesh m ≡ m
unfolding append
none_append m = λ i. record { vertices = m.vertices; triangles = no_shift m.triangles i }
