-- Spheres and spherical shells are balanced after + 0.0 where every point is finite.
use mathlib.Core.Path.{◌≡◌, refl, sym, ap, ◌∙◌, subst}
use mathlib.Core.Logic.{inl, inr}
use mathlib.Core.List.{[], ◌++◌, map}
use mathlib.Core.Bool.{Bool, true, false, cond}
use Prim.Native.Nat.{ℕ, zero, suc, ◌≤◌, ◌<◌, max}
use native.Mathlib.Nat.{zero-mod, mod_self, eq-or-lt_of_le}
use native.Mathlib.Omega.{arith}
use lib.IntN.{pos}
use lib.Dec.{T, eqb, eqb_refl, eqb-suc-zero}
use lib.Ieee.{Float, binary64, add, sub, mul, div, neg, of_int, le, lt, fits}
use Rattle.ieee.specs.Number.{plus_zero, pi, tau}
use Rattle.ieee.specs.Finite.{finite_add_r, finite_mul_l, finite_mul_r}
use Rattle.ieee.specs.Same.{T_true}
use Rattle.ieee.specs.Ends.{pole}
use Rattle.trig_spec.specs.declared.SinCos.{SinCos}
use Rattle.trig_spec.specs.Trig.{sin_cos}
use Rattle.math.specs.declared.Vec3.{Vec3}
use Rattle.math.specs.Vec.{new, one, v_add, v_mul}
use Rattle.mesh_balance_spec.specs.Soup.{Balanced, map_tri}
use Rattle.mesh_balance_spec.specs.Grid as Plain
use Rattle.mesh_spec.specs.Mesh.{plus_zero_v, every_finite}
use Rattle.solid_spec.specs.Grid.{grid}
use Rattle.solid_spec.specs.Coords.{to_cartesian}
use Rattle.solid_spec.specs.Sphere.{latitude, longitude, on_sphere, sphere_point, sphere, half, sphere_soup, spherical_shell_soup}
use Rattle.solid_spec.proofs.Points.{SameV, plus_zeroV_same}
use Rattle.solid_spec.proofs.Every.{Sound, sound_of, every_grid, balanced_grid, map_grid}
use Rattle.solid_spec.proofs.Closes.{Closes, unless, with_another}
use Rattle.solid_spec.proofs.Maps.{to_cartesian_fits}
use Rattle.solid_spec.specs.Fits.{FiniteV, FitsV}

-- a pole: the sine +0.0
abbrev pole_at : Float → SinCos
pole_at ct = record { sin = plus_zero; cos = ct }

pole_point : (c : Vec3) (r ct : Float) (p : SinCos) → T (fits binary64 c.x) → T (fits binary64 c.y) → FiniteV (on_sphere c r (pole_at ct) p)
    → SameV (on_sphere c r (pole_at ct) p) (new c.x c.y (add binary64 c.z (mul binary64 ct r)))
unfolding on_sphere v_add v_mul
pole_point c r ct p u v h =
    let a = mul binary64 plus_zero p.cos in
    let b = mul binary64 plus_zero p.sin in
    let fa = finite_add_r binary64 c.x (mul binary64 a r) h.x in
    let fb = finite_add_r binary64 c.y (mul binary64 b r) h.y in
    let fr = finite_mul_r binary64 a r fa in
    record {
      x = pole binary64 c.x p.cos r u (finite_mul_r binary64 plus_zero p.cos (finite_mul_l binary64 a r fa)) fr;
      y = pole binary64 c.y p.sin r v (finite_mul_r binary64 plus_zero p.sin (finite_mul_l binary64 b r fb)) fr;
      z = inl refl;
    }

longitude_wraps : (np : ℕ) → longitude np np ≡ longitude np 0
unfolding longitude
longitude_wraps np =
    ap (λ (j : ℕ). sin_cos (div binary64 (mul binary64 tau (of_int binary64 (pos j))) (of_int binary64 (pos np)))) (mod_self np ∙ sym (zero-mod np))

latitude_first : (nt : ℕ) → latitude nt 0 ≡ pole_at one
unfolding latitude
latitude_first nt = refl

latitude_last : (nt : ℕ) → latitude (suc nt) (suc nt) ≡ pole_at (neg one)
unfolding latitude
latitude_last nt =
    let t = sin_cos (div binary64 (mul binary64 pi (of_int binary64 (pos (suc nt)))) (of_int binary64 (pos (suc nt)))) in
    ap (λ (b : Bool). cond b (pole_at one) (cond (eqb (suc nt) (suc nt)) (pole_at (neg one)) t)) (eqb-suc-zero nt)
    ∙ ap (λ (b : Bool). cond b (pole_at (neg one)) t) (T_true (eqb (suc nt) (suc nt)) (eqb_refl (suc nt)))

module _ (c : Vec3) (r : Float) (u : T (fits binary64 c.x)) (v : T (fits binary64 c.y)) where
  -- a row of one point: it is finite below its end, and its end is its start
  pole_row : (nt np i : ℕ) (ct : Float) → 1 ≤ np → latitude nt i ≡ pole_at ct → ((j : ℕ) → j < np → FiniteV (sphere_point c r nt np i j))
      → (j : ℕ) → j ≤ np → plus_zero_v (sphere_point c r nt np i j) ≡ plus_zero_v (new c.x c.y (add binary64 c.z (mul binary64 ct r)))
  unfolding sphere_point
  pole_row nt np i ct some e h j l = elim (eq-or-lt_of_le l) [
    | inl k ↦ ap (λ (j : ℕ). plus_zero_v (sphere_point c r nt np i j)) k
        ∙ ap (λ (p : SinCos). plus_zero_v (on_sphere c r (latitude nt i) p)) (longitude_wraps np) ∙ below 0 some
    | inr k ↦ below j k
  ]
    where
      below : (j : ℕ) → j < np → plus_zero_v (sphere_point c r nt np i j) ≡ plus_zero_v (new c.x c.y (add binary64 c.z (mul binary64 ct r)))
      below j k =
          ap (λ (t : SinCos). plus_zero_v (on_sphere c r t (longitude np j))) e
          ∙ plus_zeroV_same _ _ (pole_point c r ct (longitude np j) u v (subst (λ (t : SinCos). FiniteV (on_sphere c r t (longitude np j))) e (h j k)))

  -- the last segment is the first
  meets : (nt np i : ℕ) → plus_zero_v (sphere_point c r nt np i np) ≡ plus_zero_v (sphere_point c r nt np i 0)
  unfolding sphere_point
  meets nt np i = ap (λ (p : SinCos). plus_zero_v (on_sphere c r (latitude nt i) p)) (longitude_wraps np)

  ball_closes : (nt np : ℕ) (flip : Bool) → 1 ≤ np → Sound (grid (suc nt) np flip (sphere_point c r (suc nt) np)) → Closes (grid (suc nt) np flip (sphere_point c r (suc nt) np))
  ball_closes nt np flip some h =
      let f = sphere_point c r (suc nt) np in
      rw (map_grid plus_zero_v (suc nt) np flip f)
      (balanced_grid (suc nt) np flip (λ i j. plus_zero_v (f i j))
      (Plain.sphere (suc nt) np (λ i j. plus_zero_v (f i j)) _ _ (λ i l. meets (suc nt) np i)
      (pole_row (suc nt) np 0 one some (latitude_first (suc nt)) (λ j l. (every_grid FiniteV (suc nt) np flip f h 0 j (omega arith) l).0))
      (pole_row (suc nt) np (suc nt) (neg one) some (latitude_last nt) (λ j l. (every_grid FiniteV (suc nt) np flip f h nt j (omega arith) l).1))))

  rows_close : (nt np : ℕ) (flip : Bool) → 1 ≤ nt → 1 ≤ np → Sound (grid nt np flip (sphere_point c r nt np)) → Closes (grid nt np flip (sphere_point c r nt np))
  rows_close zero np flip a b = absurd (none a)
    where
      none : 1 ≤ 0 → ⊥
      none h = omega arith
  rows_close (suc nt) np flip a b = ball_closes nt np flip b

  pub sphere_closes : (segments rings : ℕ) (flip : Bool) → Sound (sphere c r segments rings flip) → Closes (sphere c r segments rings flip)
  unfolding sphere
  sphere_closes segments rings flip =
      unless (grid (max rings 2) (max segments 3) flip (sphere_point c r (max rings 2) (max segments 3))) (le r plus_zero)
      (λ e. rows_close (max rings 2) (max segments 3) flip (omega arith) (omega arith))

-- `sphere`, either way round
pub sphere_balanced : (c : Vec3) (r : Float) (segments rings : ℕ) (flip : Bool) → FitsV c
    → every_finite (sphere c r segments rings flip) ≡ true → Balanced (map (map_tri plus_zero_v) (sphere c r segments rings flip))
sphere_balanced c r segments rings flip f h = sphere_closes c r f.x f.y segments rings flip (sound_of (sphere c r segments rings flip) h)

-- the solid Sphere
pub sphere_soup_balanced : (cylindrical : Bool) (center : Vec3) (radius : Float) (segments rings : ℕ) → FitsV center
    → every_finite (sphere_soup cylindrical center radius segments rings) ≡ true
    → Balanced (map (map_tri plus_zero_v) (sphere_soup cylindrical center radius segments rings))
unfolding sphere_soup
sphere_soup_balanced cylindrical center radius segments rings f =
    sphere_balanced (to_cartesian cylindrical center) radius segments rings false (to_cartesian_fits cylindrical center f)

-- the solid SphericalShell, of any width
pub spherical_shell_soup_balanced : (cylindrical : Bool) (center : Vec3) (radius width : Float) (segments rings : ℕ) → FitsV center
    → every_finite (spherical_shell_soup cylindrical center radius width segments rings) ≡ true
    → Balanced (map (map_tri plus_zero_v) (spherical_shell_soup cylindrical center radius width segments rings))
unfolding spherical_shell_soup
spherical_shell_soup_balanced cylindrical center radius width segments rings f h =
    let c = to_cartesian cylindrical center in
    let w = half width in
    let g : FitsV c = to_cartesian_fits cylindrical center f in
    let outer = sphere c (add binary64 radius w) segments rings false in
    let inner = sphere c (sub binary64 radius w) segments rings true in
    with_another outer inner (lt plus_zero w)
    (sphere_closes c (add binary64 radius w) g.x g.y segments rings false)
    (sphere_closes c (sub binary64 radius w) g.x g.y segments rings true)
    (sound_of (outer ++ cond (lt plus_zero w) inner []) h)
