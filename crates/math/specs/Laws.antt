-- Where a vector is finite: its components, and the operands of a result that is. Assumes nothing.
use Rattle.std.specs.Prelude.{◌&&◌, T, Float}
use Rattle.std.specs.Float.Ieee.{binary64}
use Rattle.std.specs.Float.Ieee.Fits.{and_i, and_l, and_r}
use Rattle.std.specs.Float.Ieee.Scale.{finite}
use Rattle.ieee.specs.Finite.{finite_add_l, finite_add_r, finite_sub_l, finite_sub_r, finite_mul_l, finite_mul_r, finite_div_l}
use Rattle.math.specs.declared.Vec3.{Vec3}
use Rattle.math.specs.Vec.{v_add, v_sub, v_mul, v_div, v_finite}

-- ---- the components
module _ (v : Vec3) where
  pub finite_x : T (v_finite v) → T (finite v.x)
  unfolding v_finite
  finite_x t = and_l (finite v.x) (finite v.y) (and_l (finite v.x && finite v.y) (finite v.z) t)

  pub finite_y : T (v_finite v) → T (finite v.y)
  unfolding v_finite
  finite_y t = and_r (finite v.x) (finite v.y) (and_l (finite v.x && finite v.y) (finite v.z) t)

  pub finite_z : T (v_finite v) → T (finite v.z)
  unfolding v_finite
  finite_z t = and_r (finite v.x && finite v.y) (finite v.z) t

  pub finite_all : T (finite v.x) → T (finite v.y) → T (finite v.z) → T (v_finite v)
  unfolding v_finite
  finite_all a b c = and_i (finite v.x && finite v.y) (finite v.z) (and_i (finite v.x) (finite v.y) a b) c

-- ---- the operands
module _ (a b : Vec3) where
  pub v_add_l : T (v_finite (v_add a b)) → T (v_finite a)
  unfolding v_add
  v_add_l t =
      finite_all a
      (finite_add_l binary64 a.x b.x (finite_x (v_add a b) t))
      (finite_add_l binary64 a.y b.y (finite_y (v_add a b) t))
      (finite_add_l binary64 a.z b.z (finite_z (v_add a b) t))

  pub v_add_r : T (v_finite (v_add a b)) → T (v_finite b)
  unfolding v_add
  v_add_r t =
      finite_all b
      (finite_add_r binary64 a.x b.x (finite_x (v_add a b) t))
      (finite_add_r binary64 a.y b.y (finite_y (v_add a b) t))
      (finite_add_r binary64 a.z b.z (finite_z (v_add a b) t))

  pub v_sub_l : T (v_finite (v_sub a b)) → T (v_finite a)
  unfolding v_sub
  v_sub_l t =
      finite_all a
      (finite_sub_l binary64 a.x b.x (finite_x (v_sub a b) t))
      (finite_sub_l binary64 a.y b.y (finite_y (v_sub a b) t))
      (finite_sub_l binary64 a.z b.z (finite_z (v_sub a b) t))

  pub v_sub_r : T (v_finite (v_sub a b)) → T (v_finite b)
  unfolding v_sub
  v_sub_r t =
      finite_all b
      (finite_sub_r binary64 a.x b.x (finite_x (v_sub a b) t))
      (finite_sub_r binary64 a.y b.y (finite_y (v_sub a b) t))
      (finite_sub_r binary64 a.z b.z (finite_z (v_sub a b) t))

module _ (a : Vec3) (s : Float) where
  pub v_mul_l : T (v_finite (v_mul a s)) → T (v_finite a)
  unfolding v_mul
  v_mul_l t =
      finite_all a
      (finite_mul_l binary64 a.x s (finite_x (v_mul a s) t))
      (finite_mul_l binary64 a.y s (finite_y (v_mul a s) t))
      (finite_mul_l binary64 a.z s (finite_z (v_mul a s) t))

  pub v_mul_r : T (v_finite (v_mul a s)) → T (finite s)
  unfolding v_mul
  v_mul_r t = finite_mul_r binary64 a.x s (finite_x (v_mul a s) t)

  -- whatever the divisor is
  pub v_div_l : T (v_finite (v_div a s)) → T (v_finite a)
  unfolding v_div
  v_div_l t =
      finite_all a
      (finite_div_l binary64 a.x s (finite_x (v_div a s) t))
      (finite_div_l binary64 a.y s (finite_y (v_div a s) t))
      (finite_div_l binary64 a.z s (finite_z (v_div a s) t))
