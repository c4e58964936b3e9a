-- The maps of the parameter boxes respect the same numbers, and send only finite points to finite points; the converted points are of the format.
use mathlib.Core.Path.{subst}
use mathlib.Core.Logic.{inl}
use mathlib.Core.Bool.{Bool, true, false}
use lib.Dec.{T}
use lib.Ieee.{Float, nan, inf, fin, binary64, add, mul}
use lib.Ieee.Fits.{mul-fits}
use lib.Ieee.Scale.{finite}
use Rattle.ieee.specs.Finite.{finite_add_l, finite_add_r, finite_mul_l, finite_mul_r}
use Rattle.ieee.specs.Same.{mul_same}
use Rattle.trig_spec.specs.Trig.{sin_cos}
use Rattle.trig_spec.specs.TrigLaws.{at_nan, at_inf, sin_same, cos_same}
use Rattle.math.specs.declared.Vec3.{Vec3}
use Rattle.math.specs.Vec.{v_add, v_mul}
use Rattle.solid_spec.specs.Coords.{cylindrical_to_cartesian, to_cartesian}
use Rattle.solid_spec.specs.Cylinder.{around_axis}
use Rattle.solid_spec.specs.Boxes.{as_is}
use Rattle.solid_spec.proofs.Points.{sameV_refl, v_add_same, v_mul_same}
use Rattle.solid_spec.proofs.ParamBoxBalanced.{Respects, Shows}
use Rattle.solid_spec.specs.Fits.{FitsV}

-- an angle with a finite cosine is finite
cos_finite : (x : Float) → T (finite (sin_cos x).cos) → T (finite x)
cos_finite nan h = absurd (subst (λ t. T (finite t.cos)) at_nan h)
cos_finite (inf s) h = absurd (subst (λ t. T (finite t.cos)) (at_inf s) h)
cos_finite (fin s m e) h = tt

pub as_is_respects : Respects as_is
as_is_respects p q s = s

pub as_is_shows : Shows as_is
as_is_shows p h = h

pub cylindrical_respects : Respects cylindrical_to_cartesian
unfolding cylindrical_to_cartesian
cylindrical_respects p q s = record {
  x = mul_same binary64 p.x q.x (sin_cos p.y).cos (sin_cos q.y).cos s.x (inl (cos_same p.y q.y s.y));
  y = mul_same binary64 p.x q.x (sin_cos p.y).sin (sin_cos q.y).sin s.x (inl (sin_same p.y q.y s.y));
  z = s.z;
}

pub cylindrical_shows : Shows cylindrical_to_cartesian
unfolding cylindrical_to_cartesian
cylindrical_shows p h = record {
  x = finite_mul_l binary64 p.x (sin_cos p.y).cos h.x;
  y = cos_finite p.y (finite_mul_r binary64 p.x (sin_cos p.y).cos h.x);
  z = h.z;
}

module _ (a d e1 e2 : Vec3) where
  pub around_respects : Respects (around_axis a d e1 e2)
  unfolding around_axis
  around_respects p q s =
      v_add_same _ _ _ _ (v_add_same a a _ _ (sameV_refl a) (v_mul_same d d p.z q.z (sameV_refl d) s.z))
      (v_mul_same _ _ p.x q.x
      (v_add_same _ _ _ _ (v_mul_same e1 e1 _ _ (sameV_refl e1) (inl (cos_same p.y q.y s.y)))
      (v_mul_same e2 e2 _ _ (sameV_refl e2) (inl (sin_same p.y q.y s.y)))) s.x)

  pub around_shows : Shows (around_axis a d e1 e2)
  unfolding around_axis v_add v_mul
  around_shows p h =
      let c = (sin_cos p.y).cos in
      let s = add binary64 a.x (mul binary64 d.x p.z) in
      let e = add binary64 (mul binary64 e1.x c) (mul binary64 e2.x (sin_cos p.y).sin) in
      let r : T (finite (mul binary64 e p.x)) = finite_add_r binary64 s (mul binary64 e p.x) h.x in
      record {
        x = finite_mul_r binary64 e p.x r;
        y = cos_finite p.y
            (finite_mul_r binary64 e1.x c (finite_add_l binary64 (mul binary64 e1.x c) (mul binary64 e2.x (sin_cos p.y).sin) (finite_mul_l binary64 e p.x r)));
        z = finite_mul_r binary64 d.x p.z (finite_add_r binary64 a.x (mul binary64 d.x p.z) (finite_add_l binary64 s (mul binary64 e p.x) h.x));
      }

pub to_cartesian_fits : (cylindrical : Bool) (p : Vec3) → FitsV p → FitsV (to_cartesian cylindrical p)
unfolding to_cartesian cylindrical_to_cartesian
to_cartesian_fits true p f = record { x = mul-fits binary64 p.x (sin_cos p.y).cos; y = mul-fits binary64 p.x (sin_cos p.y).sin; z = f.z }
to_cartesian_fits false p f = f
