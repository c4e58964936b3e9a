-- Laws of first sight, of welding and of append, on the definitions of Mesh.antt. Assumes nothing.
use Rattle.std.proofs.Common.{[]}
use Rattle.std.specs.Prelude.{◌≡◌, Bool, true, false, ◌&&◌, cond, length, get_or}
use Rattle.std.proofs.Math.Path.{refl}
use Rattle.std.proofs.Common.{sym, ap, ◌∙◌, ⊎_elim, eq-or-lt_of_le, le_of_suc-le-suc, not-suc-le-zero, arith, length-append}
use mathlib.Core.List.{List, ◌∷◌, ◌++◌}
use Prim.Native.Nat.{ℕ, zero, suc, ◌+◌, ◌≤◌, ◌<◌, suc-le-suc}
use Rattle.slice_law.specs.Bools.{false_unless}
use Rattle.math.specs.declared.Vec3.{Vec3}
use Rattle.mesh_spec.specs.Mesh.{same_point, first_sight, with_point}
use Rattle.mesh_spec.specs.WeldLaws.{sight_le, sight_new, with_new, with_seen}

-- ---- first sight
module _ (p d : Vec3) where
  at_step : (n m : ℕ) (b : Bool) → b ≡ false → n ≡ m → cond b 0 (suc n) ≡ suc m
  at_step n m b e h = rw (e, h)

  -- a vertex that equals p, with none before it that does, is the first
  pub sight_at : (us : List Vec3) (m : ℕ) → m < length us → same_point (get_or us m d) p ≡ true
      → ((j : ℕ) → j < m → same_point (get_or us j d) p ≡ true → ⊥) → first_sight us p ≡ m
  unfolding first_sight
  sight_at [] m l s f = absurd (not-suc-le-zero l)
  sight_at (v ∷ us) zero l s f = rw s
  sight_at (v ∷ us) (suc m) l s f =
      at_step (first_sight us p) m (same_point v p) (false_unless (same_point v p) (f zero (omega arith)))
      (sight_at us m (le_of_suc-le-suc l) s (λ j k. f (suc j) (suc-le-suc k)))

  pub sight_none : (us : List Vec3) → ((m : ℕ) → m < length us → same_point (get_or us m d) p ≡ true → ⊥) → first_sight us p ≡ length us
  unfolding first_sight
  sight_none [] f = refl
  sight_none (v ∷ us) f =
      at_step (first_sight us p) (length us) (same_point v p) (false_unless (same_point v p) (f zero (omega arith)))
      (sight_none us (λ m k. f (suc m) (suc-le-suc k)))

-- a point that equals itself has the same number once it is a vertex
pub sight_with : (us : List Vec3) (p : Vec3) → same_point p p ≡ true → first_sight (with_point us p) p ≡ first_sight us p
sight_with us p r =
    ⊎_elim
    (λ e. ap (λ (l : List Vec3). first_sight l p) (with_new us p e) ∙ sight_new us p r e ∙ sym e)
    (λ l. ap (λ (l : List Vec3). first_sight l p) (with_seen us p l))
    (eq-or-lt_of_le (sight_le us p))

-- the number of a point names a vertex
pub sight_there : (us : List Vec3) (p : Vec3) → first_sight us p < length (with_point us p)
sight_there us p =
    ⊎_elim
    (λ e. omega (arith, ap length (with_new us p e), length-append us (p ∷ [])))
    (λ l. omega (arith, ap length (with_seen us p l)))
    (eq-or-lt_of_le (sight_le us p))
