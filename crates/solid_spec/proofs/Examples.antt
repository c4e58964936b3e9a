-- The soups of a few solids, computed: docs/SCOPE.md's figures as far as they are soups, and that what the theorems ask for is met.
use mathlib.Core.Path.{◌≡◌, refl}
use mathlib.Core.List.{[], ◌∷◌, map}
use mathlib.Core.Bool.{true, false}
use Prim.Native.Nat.{ℕ}
use lib.IntN.{pos}
use lib.ListN.{length, take}
use lib.Dec.{lit≤}
use lib.Ieee.{fin, add, sub, mul, div, neg, of_int, of_bits, eq, lt, le, is_nan, fits}
use Rattle.ieee.specs.Number.{plus_zero, minimum, maximum, absolute, tau}
use Rattle.ieee_whole.specs.Whole.{ceiling}
use Rattle.trig_spec.specs.Trig.{sin_cos}
use Rattle.math.specs.declared.Vec3.{Vec3}
use Rattle.math.specs.Vec.{new, one, zero_v, v_add, v_mul, v_min, v_max, v_finite}
use Rattle.mesh_balance_spec.specs.Soup.{Balanced, map_tri}
use Rattle.mesh_spec.specs.Mesh.{plus_zero_v, every_finite}
use Rattle.solid_spec.specs.Grid.{Soup, grid}
use Rattle.solid_spec.specs.ParamBox.{coord, face, faces, param_box}
use Rattle.solid_spec.specs.Coords.{to_cartesian}
use Rattle.solid_spec.specs.Sphere.{latitude, longitude, on_sphere, sphere_point, sphere, sphere_soup}
use Rattle.shape_arc.specs.Arc.{counted_span, arc_share, arc_segments, full_span, is_full}
use Rattle.solid_spec.specs.Boxes.{turned_to, cylindrical_box, box_shape, box_soup}
use Rattle.solid_spec.proofs.SphereBalanced.{sphere_soup_balanced}
use Rattle.solid_spec.proofs.BoxBalanced.{box_soup_balanced}
use Rattle.solid_spec.specs.Fits.{FitsV, UnequalEnds}

-- (P) a sphere of radius 0: nothing
pub no_sphere : (c : Vec3) (segments rings : ℕ) → sphere_soup false c plus_zero segments rings ≡ []
unfolding sphere_soup sphere le
no_sphere c segments rings = refl

-- the unit sphere at the origin with 3 segments and 2 rings
abbrev pub ball : Soup
ball = sphere_soup false zero_v one 3 2

pub ball_size : length ball ≡ 12
unfolding sphere_soup sphere le grid
ball_size = refl

pub ball_finite : every_finite ball ≡ true
unfolding sphere_soup to_cartesian sphere le grid sphere_point on_sphere v_add v_mul latitude longitude sin_cos every_finite v_finite of_bits mul add sub neg div of_int
ball_finite = refl

zero_fits : FitsV zero_v
unfolding fits
zero_fits = record { x = tt; y = tt; z = tt }

pub ball_balanced : Balanced (map (map_tri plus_zero_v) ball)
ball_balanced = sphere_soup_balanced false zero_v one 3 2 zero_fits ball_finite

-- (P) the box (0,0,0) to (1,2,3)
abbrev pub far_corner : Vec3
far_corner = new one (fin false 1 (pos 1)) (fin false 3 (pos 0))

abbrev pub block : Soup
block = box_soup false zero_v far_corner 32

pub block_size : length block ≡ 12
unfolding box_shape param_box faces face grid v_min v_max minimum maximum is_nan lt eq
block_size = refl

-- its first two triangles
pub block_first : take 2 (map (map_tri plus_zero_v) block)
    ≡ (zero_v, new plus_zero plus_zero (fin false 3 (pos 0)), new plus_zero (fin false 1 (pos 1)) (fin false 3 (pos 0)))
    ∷ (zero_v, new plus_zero (fin false 1 (pos 1)) (fin false 3 (pos 0)), new plus_zero (fin false 1 (pos 1)) plus_zero) ∷ []
unfolding box_shape param_box faces face grid coord v_min v_max minimum maximum is_nan lt eq plus_zero_v add sub mul div of_int of_bits
block_first = refl

pub block_finite : every_finite block ≡ true
unfolding box_shape param_box faces face grid coord v_min v_max minimum maximum is_nan lt eq every_finite v_finite add sub mul div of_int
block_finite = refl

block_bounded : UnequalEnds zero_v far_corner
unfolding fits eq
block_bounded = record {
  fits_a = record { x = tt; y = tt; z = tt };
  fits_b = record { x = tt; y = tt; z = tt };
  finite_a = record { x = tt; y = tt; z = tt };
  finite_b = record { x = tt; y = tt; z = tt };
  unequal_x = refl;
  unequal_y = refl;
  unequal_z = refl;
}

pub block_balanced : Balanced (map (map_tri plus_zero_v) block)
block_balanced = box_soup_balanced false zero_v far_corner 32 (lit≤ tt) block_bounded block_finite

-- the cylindrical box (0,0,0) to (1,TAU,1) with 3 segments: a full turn, with no end faces
pub full_size : length (box_soup true zero_v (new one tau one) 3) ≡ 24
unfolding box_shape cylindrical_box turned_to is_full full_span param_box faces face grid v_min v_max minimum maximum is_nan lt le eq
    arc_segments arc_share counted_span ceiling absolute add sub mul div of_int of_bits
full_size = refl

-- (P) the box (0,0,0) to (1,2,0): the low face of the flat axis is there, the high one is not
pub flat_size : length (box_soup false zero_v (new one (fin false 1 (pos 1)) plus_zero) 32) ≡ 10
unfolding box_shape param_box faces face grid v_min v_max minimum maximum is_nan lt eq
flat_size = refl
