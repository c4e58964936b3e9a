-- How many triangles the soup of each part of a shape has, by computation: a line for each line of `parts_of`. Assumes nothing.
use Rattle.std.specs.Prelude.{◌≡◌, refl, Bool, false, List, [], ◌∷◌, ℕ, pos, length, Float}
use Rattle.std.specs.Float.{binary64}
use Rattle.std.specs.Float.Ieee.{add, sub, mul, div, neg, of_int, of_bits, eq, ne, lt, le, is_nan}
use Rattle.ieee.specs.Number.{minimum, maximum, absolute, tau}
use Rattle.ieee_whole.specs.Whole.{ceiling}
use Rattle.root.specs.Sqrt.{sqrt}
use Rattle.math.specs.declared.Vec3.{Vec3}
use Rattle.math.specs.Vec.{new, v_sub, v_min, v_max, dot, norm_sq, norm}
use Rattle.outline.specs.Corners.{point, same}
use Rattle.outline.specs.Axes.{plane_axes}
use Rattle.outline.specs.Clean.{ends_in, pushed, gathered, stay, clean_polygon}
use Rattle.outline.specs.Ccw.{swapped, reversed, ccw_polygon, prepared}
use Rattle.outline.specs.Area.{wedge, sides, signed_area}
use Rattle.outline_triangle.specs.Triangle.{cross as turn, largest, scale, tolerance, in_triangle, blocks}
use Rattle.outline_ears.specs.Ears.{any, blocked, ip, inx}
use Rattle.outline_ears.specs.Ears.{triangle_at, cross_at, is_ear, is_flat, counting, find, first_ear, first_flat}
use Rattle.outline_remaining.specs.Without.{without}
use Rattle.outline_triangulate.specs.Triangulate.{clipped, dropped, fans, fan, fanned, by_found, pass, passes, finished, start}
use Rattle.outline_triangulate.specs.Triangulate.{triangulated, triangulate_polygon}
use Rattle.mesh_spec.specs.Parts.{Soup}
use Rattle.shape_arc.specs.Arc.{counted_span, arc_share, arc_segments, full_span, is_full}
use Rattle.shape.specs.declared.Shape.{Shape}
use Rattle.shape.specs.declared.Shape.TheVariants.{Box, MultiBox, Sphere, SphericalShell, Cylinder, CylindricalShell, Polygon, LinPoly, RotPoly, Wire}
use Rattle.solid_spec.specs.Grid.{grid}
use Rattle.solid_spec.specs.ParamBox.{face, faces, param_box}
use Rattle.solid_spec.specs.Coords.{to_cartesian}
use Rattle.solid_spec.specs.Boxes.{box_shape, multi_box_parts}
use Rattle.solid_spec.specs.Sphere.{sphere, sphere_soup, spherical_shell_soup}
use Rattle.solid_spec.specs.Cylinder.{tube, cylinder, cylinder_soup, cylindrical_shell_soup}
use Rattle.solid_spec.specs.Outline.{extruded_sides, extruded_from, turned_sides, turned_from, rotated_from}
use Rattle.solid_spec.specs.Polygons.{cap_triangles, swaps, extruded_polygon, polygon_soup, lin_poly_soup, rotpoly, rot_poly_soup}
use Rattle.solid_spec.specs.Wire.{wire_point, wire_tubes, wire_joints, wire_parts}
use Rattle.solid_spec.specs.Solid.{parts_of}

abbrev float : ℕ → Float
float n = of_int binary64 (pos n)

abbrev at : ℕ → ℕ → ℕ → Vec3
at a b c = new (float a) (float b) (float c)

-- what it takes to prepare and cap an outline
unfoldable outlines : ℕ → List Float → Float → Float → Soup
unfolding extruded_polygon extruded_from extruded_sides cap_triangles ccw_polygon reversed signed_area sides wedge clean_polygon gathered pushed ends_in stay point same
    triangulate_polygon triangulated passes finished start pass by_found fanned dropped clipped without fan fans counting
    first_ear first_flat is_ear is_flat triangle_at cross_at blocked blocks in_triangle turn tolerance scale largest any find ip inx
    minimum maximum absolute is_nan eq ne lt le neg add sub mul div of_int of_bits
outlines = extruded_polygon

-- and to rotate one
unfoldable rotated : Bool → List Float → List Float
unfolding prepared swapped swaps plane_axes rotated_from turned_from turned_sides is_full full_span arc_segments arc_share counted_span ceiling outlines
rotated = prepared

-- a list of small whole numbers
abbrev floats : List ℕ → List Float
floats [] = []
floats (n ∷ ns) = float n ∷ floats ns

abbrev each : List Soup → List ℕ
each [] = []
each (s ∷ ss) = length s ∷ each ss

-- the sizes of a shape's parts, Cartesian, with 5 segments and 4 rings
abbrev sizes : Shape → List ℕ → List ℕ
sizes shape list = each (parts_of false shape (floats list) (record { segments = 5; sphere_rings = 4 }))

-- a box that is flat in z: two triangles for each face of the other axes, and for the low one of z
box_size : sizes (Box (at 0 0 0) (at 1 2 0)) [] ≡ 10 ∷ []
unfolding parts_of box_shape param_box faces face grid v_min v_max minimum maximum is_nan lt eq of_int of_bits
box_size = refl

-- two boxes
multi_box_size : sizes MultiBox (0 ∷ 0 ∷ 0 ∷ 1 ∷ 2 ∷ 3 ∷ 4 ∷ 4 ∷ 4 ∷ 5 ∷ 5 ∷ 5 ∷ []) ≡ 12 ∷ 12 ∷ []
unfolding parts_of multi_box_parts box_shape param_box faces face grid v_min v_max minimum maximum is_nan lt eq of_int
multi_box_size = refl

-- 4 × 5 cells of two triangles
sphere_size : sizes (Sphere (at 0 0 0) (float 1)) [] ≡ 40 ∷ []
unfolding parts_of sphere_soup sphere le grid of_int
sphere_size = refl

-- two skins
spherical_shell_size : sizes (SphericalShell (at 0 0 0) (float 2) (float 1)) [] ≡ 80 ∷ []
unfolding parts_of spherical_shell_soup sphere le lt grid add sub div of_int of_bits
spherical_shell_size = refl

-- 5 segments: the outer and the inner side, which is the axis, and two caps
cylinder_size : sizes (Cylinder (at 0 0 0) (at 0 0 1) (float 1)) [] ≡ 40 ∷ []
unfolding parts_of cylinder_soup to_cartesian cylinder tube norm norm_sq dot v_sub sqrt param_box faces face grid maximum is_nan lt le eq add sub mul of_int of_bits
cylinder_size = refl

cylindrical_shell_size : sizes (CylindricalShell (at 0 0 0) (at 0 0 1) (float 2) (float 1)) [] ≡ 40 ∷ []
unfolding parts_of cylindrical_shell_soup to_cartesian cylinder tube norm norm_sq dot v_sub sqrt param_box faces face grid maximum is_nan
    lt le eq add sub mul div of_int of_bits
cylindrical_shell_size = refl

-- a triangle: a sheet
polygon_size : sizes (Polygon 2 (float 0)) (0 ∷ 0 ∷ 1 ∷ 0 ∷ 0 ∷ 1 ∷ []) ≡ 1 ∷ []
unfolding parts_of polygon_soup outlines
polygon_size = refl

-- the same triangle at both ends, and a quad over each side
extruded_size : sizes (LinPoly 2 (float 0) (float 1)) (0 ∷ 0 ∷ 1 ∷ 0 ∷ 0 ∷ 1 ∷ []) ≡ 8 ∷ []
unfolding parts_of lin_poly_soup outlines
extruded_size = refl

-- a full turn: a strip of 5 quads over each side
rotated_size : sizes (RotPoly 2 (float 0) 0 (float 0) tau) (1 ∷ 1 ∷ 2 ∷ 1 ∷ 1 ∷ 2 ∷ []) ≡ 30 ∷ []
unfolding parts_of rot_poly_soup rotpoly rotated
rotated_size = refl

-- three points: two tubes, and a sphere at the inner point
wire_size : sizes (Wire (float 1)) (0 ∷ 0 ∷ 0 ∷ 0 ∷ 0 ∷ 1 ∷ 0 ∷ 1 ∷ 1 ∷ []) ≡ 40 ∷ 40 ∷ 40 ∷ []
unfolding parts_of wire_parts wire_tubes wire_joints wire_point to_cartesian cylinder tube norm norm_sq dot v_sub sqrt sphere
    param_box faces face grid maximum is_nan lt le eq add sub mul of_int of_bits
wire_size = refl
