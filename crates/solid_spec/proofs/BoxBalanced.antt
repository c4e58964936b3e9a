-- Boxes of three unequal pairs of bounds are balanced after + 0.0 where every point is finite: in the Cartesian system, and in the cylindrical one with a part
-- turn or a full turn.
use mathlib.Core.Path.{◌≡◌}
use mathlib.Core.List.{map}
use mathlib.Core.Bool.{Bool, true, false}
use Prim.Native.Nat.{ℕ, ◌≤◌}
use native.Mathlib.Omega.{arith}
use lib.Ieee.{binary64, add, sub, eq}
use Rattle.ieee.specs.Number.{tau}
use Rattle.math.specs.declared.Vec3.{Vec3}
use Rattle.math.specs.Vec.{v_min, v_max}
use Rattle.mesh_balance_spec.specs.Soup.{Balanced, map_tri}
use Rattle.mesh_spec.specs.Mesh.{plus_zero_v, every_finite}
use Rattle.shape_arc.specs.Arc.{arc_segments, is_full}
use Rattle.solid_spec.specs.Coords.{cylindrical_to_cartesian}
use Rattle.solid_spec.specs.Boxes.{as_is, turned_to, cylindrical_box, box_shape, box_soup}
use Rattle.solid_spec.proofs.Every.{Sound, sound_of}
use Rattle.solid_spec.proofs.Closes.{Closes}
use Rattle.solid_spec.proofs.Coord.{AxisWithin}
use Rattle.solid_spec.proofs.Unequal.{ends_unequal, minimum_fits}
use Rattle.shape_arc.specs.ArcLaws.{arc_segments_some}
use Rattle.shape_arc.proofs.ArcLawsHeld.{arc_segments_few}
use Rattle.solid_spec.proofs.ParamBoxBalanced.{boxed, six_faces, four_faces_lem}
use Rattle.solid_spec.proofs.Maps.{as_is_respects, as_is_shows, cylindrical_respects, cylindrical_shows}
use Rattle.solid_spec.specs.Fits.{UnequalEnds}

module _ (a b : Vec3) (g : UnequalEnds a b) where
  apart_x : eq (v_max a b).x (v_min a b).x ≡ false
  unfolding v_min v_max
  apart_x = ends_unequal binary64 a.x b.x g.fits_a.x g.fits_b.x g.finite_a.x g.finite_b.x g.unequal_x

  apart_y : eq (v_max a b).y (v_min a b).y ≡ false
  unfolding v_min v_max
  apart_y = ends_unequal binary64 a.y b.y g.fits_a.y g.fits_b.y g.finite_a.y g.finite_b.y g.unequal_y

  apart_z : eq (v_max a b).z (v_min a b).z ≡ false
  unfolding v_min v_max
  apart_z = ends_unequal binary64 a.z b.z g.fits_a.z g.fits_b.z g.finite_a.z g.finite_b.z g.unequal_z

  axis_x : (n : ℕ) → 1 ≤ n → n ≤ 1024 → AxisWithin (v_min a b).x n
  unfolding v_min
  axis_x n p q = record { fit = minimum_fits binary64 a.x b.x g.fits_a.x g.fits_b.x; some = p; few = q }

  axis_y : (n : ℕ) → 1 ≤ n → n ≤ 1024 → AxisWithin (v_min a b).y n
  unfolding v_min
  axis_y n p q = record { fit = minimum_fits binary64 a.y b.y g.fits_a.y g.fits_b.y; some = p; few = q }

  axis_z : (n : ℕ) → 1 ≤ n → n ≤ 1024 → AxisWithin (v_min a b).z n
  unfolding v_min
  axis_z n p q = record { fit = minimum_fits binary64 a.z b.z g.fits_a.z g.fits_b.z; some = p; few = q }

  cartesian_closes : Sound (boxed (v_min a b) (v_max a b) 1 1 1 false as_is) → Closes (boxed (v_min a b) (v_max a b) 1 1 1 false as_is)
  cartesian_closes =
      six_faces (v_min a b) (v_max a b) 1 1 1 as_is as_is_respects as_is_shows
      (axis_x 1 (omega arith) (omega arith)) (axis_y 1 (omega arith) (omega arith)) (axis_z 1 (omega arith) (omega arith)) apart_x apart_z apart_y

  cylindrical_closes : (segments : ℕ) → segments ≤ 1024 → (full : Bool) → Sound (cylindrical_box full (v_min a b) (v_max a b) segments)
      → Closes (cylindrical_box full (v_min a b) (v_max a b) segments)
  unfolding cylindrical_box turned_to
  cylindrical_closes segments few true =
      let n = arc_segments segments (sub binary64 (add binary64 (v_min a b).y tau) (v_min a b).y) in
      four_faces_lem (v_min a b) (turned_to true (v_min a b) (v_max a b)) 1 n 1 cylindrical_to_cartesian cylindrical_respects cylindrical_shows
      (axis_x 1 (omega arith) (omega arith)) (axis_y n (arc_segments_some segments _) (arc_segments_few segments _ few)) (axis_z 1 (omega arith) (omega arith)) apart_x apart_z
  cylindrical_closes segments few false =
      let n = arc_segments segments (sub binary64 (v_max a b).y (v_min a b).y) in
      six_faces (v_min a b) (v_max a b) 1 n 1 cylindrical_to_cartesian cylindrical_respects cylindrical_shows
      (axis_x 1 (omega arith) (omega arith)) (axis_y n (arc_segments_some segments _) (arc_segments_few segments _ few)) (axis_z 1 (omega arith) (omega arith)) apart_x apart_z apart_y

  pub box_shape_closes : (cylindrical : Bool) (segments : ℕ) → segments ≤ 1024 → Sound (box_shape a b cylindrical segments) → Closes (box_shape a b cylindrical segments)
  unfolding box_shape
  box_shape_closes true segments few = cylindrical_closes segments few (is_full (sub binary64 (v_max a b).y (v_min a b).y))
  box_shape_closes false segments few = cartesian_closes

-- `box_shape`: each box of a multi-box, and the solid Box
pub box_shape_balanced : (a b : Vec3) (cylindrical : Bool) (segments : ℕ) → segments ≤ 1024 → UnequalEnds a b
    → every_finite (box_shape a b cylindrical segments) ≡ true → Balanced (map (map_tri plus_zero_v) (box_shape a b cylindrical segments))
box_shape_balanced a b cylindrical segments few g h = box_shape_closes a b g cylindrical segments few (sound_of (box_shape a b cylindrical segments) h)

pub box_soup_balanced : (cylindrical : Bool) (start stop : Vec3) (segments : ℕ) → segments ≤ 1024 → UnequalEnds start stop
    → every_finite (box_soup cylindrical start stop segments) ≡ true → Balanced (map (map_tri plus_zero_v) (box_soup cylindrical start stop segments))
box_soup_balanced cylindrical start stop segments = box_shape_balanced start stop cylindrical segments
