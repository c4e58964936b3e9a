-- What `from_soup` gives: a proper mesh for every soup, and a closed one for a finite soup that is balanced after `+ 0.0`. Assumes nothing.
use Rattle.std.specs.Prelude.{◌≡◌, refl, ◌⊎◌, Bool, not, ◌&&◌, cond, List, [], ◌∷◌, ◌++◌, map, ℕ, ◌≤◌, ◌<◌, length, T, eqb}
use Rattle.std.proofs.Common.{sym, ap, ◌∙◌, subst, inl, inr, true≢false, append-nil, append_assoc, arith, eqb-true}
use Rattle.std.proofs.Math.Bool.{true, false}
use Rattle.std.specs.Float.Ieee.Fits.{and_i}
use Rattle.ieee.specs.Same.{true_T, T_true}
use Rattle.math.specs.declared.Vec3.{Vec3}
use Rattle.mesh_balance_spec.specs.Soup.{Tri, map_tri, Balanced, Flat}
use Rattle.mesh_balance_spec.specs.Count.{EdgesBalance, keep_if}
use Rattle.mesh_balance_spec.proofs.CountLaws.{welded_edges}
use Rattle.math.specs.Vec.{v_finite}
use Rattle.mesh_spec.specs.Mesh.{Mesh, no_mesh, plus_zero_v, same_point, first_sight, with_point, distinct, weld_triangle, weld_soup, from_soup, every_finite}
use Rattle.mesh_spec.specs.Closed.{all_of, below, Closed, Proper}
use Rattle.mesh_spec.specs.ProperLaws.{all_weaken}
use Rattle.mesh_spec.specs.WeldLaws.{with_longer, with_front, sight_stays}
use Rattle.mesh_spec.specs.SelfSame.{same_self}

-- ---- closed
-- us is the front of vs
pub record Front (us vs : List Vec3) : Type 0 where
  pub rest : List Vec3
  pub splits : vs ≡ us ++ rest

pub front_then : {us vs ws : List Vec3} → Front us vs → Front vs ws → Front us ws
front_then {us} f g = record {
  rest = f.rest ++ g.rest;
  splits = g.splits ∙ ap (λ (l : List Vec3). l ++ g.rest) f.splits ∙ append_assoc us f.rest g.rest;
}

one_of : (a b c : Bool) → (not a && not b && not c) ≡ false → (a ≡ true) ⊎ ((b ≡ true) ⊎ (c ≡ true))
one_of true b c e = inl refl
one_of false true c e = inr (inl refl)
one_of false false true e = inr (inr refl)
one_of false false false e = absurd (true≢false e)

-- a triangle that is dropped has two equal numbers
pub not_distinct : (t : Tri ℕ) → distinct t ≡ false → Flat t
not_distinct t e = elim (one_of (eqb t.0 t.1) (eqb t.1 t.2) (eqb t.0 t.2) e) [
  | inl p ↦ inl (eqb-true _ _ p)
  | inr (inl p) ↦ inr (inl (eqb-true _ _ p))
  | inr (inr p) ↦ inr (inr (sym (eqb-true _ _ p)))
]

offered : (ts ks : List (Tri ℕ)) (t : Tri ℕ) (b : Bool) → cond b (ts ++ (t ∷ [])) ts ++ ks ≡ ts ++ cond b (t ∷ ks) ks
offered ts ks t true = append_assoc ts (t ∷ []) ks
offered ts ks t false = refl

-- the triangles after one turn of the loop, and what follows: t is the triangle by the numbers of the turn, u by the final numbers
pub turn : (ts ks : List (Tri ℕ)) (t u : Tri ℕ) → t ≡ u → cond (distinct t) (ts ++ (t ∷ [])) ts ++ ks ≡ ts ++ cond (distinct u) (u ∷ ks) ks
turn ts ks t u e =
    offered ts ks t (distinct t) ∙ ap (λ (x : Tri ℕ). ts ++ cond (distinct x) (x ∷ ks) ks) e

pub four : (a b c d : Bool) → (a && b && c && d) ≡ true → (a ≡ true) × (b ≡ true) × (c ≡ true) × (d ≡ true)
four true true true d h = (refl, refl, refl, h)
four true true false d h = (refl, refl, h, T_true d (absurd (true_T false h)))
four true false c d h = (refl, h, T_true c (absurd (true_T false h)), T_true d (absurd (true_T false h)))
four false b c d h = (h, T_true b (absurd (true_T false h)), T_true c (absurd (true_T false h)), T_true d (absurd (true_T false h)))
