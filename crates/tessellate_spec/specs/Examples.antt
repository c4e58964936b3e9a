-- Outcomes of `tessellate` by computation: docs/SCOPE.md's figures on refusals, the order of the checks, and what the slices hold. Assumes nothing.
use Rattle.std.specs.Prelude.{◌≡◌, refl, Bool, false, List, [], ◌∷◌, ℕ, pos, take, drop, replicate, Float, Option, None, Some}
use Rattle.std.specs.Float.{nan, binary64}
use Rattle.std.specs.Float.Ieee.{add, sub, mul, div, neg, of_int, of_bits, eq, ne, lt, le, is_nan}
use Rattle.ieee.specs.Number.{minimum, maximum, absolute}
use Rattle.math.specs.declared.Vec3.{Vec3}
use Rattle.math.specs.Vec.{new, v_min, v_max, v_finite}
use Rattle.math.specs.Box.{empty_box, include}
use Rattle.math_matrix.specs.Mat.{from_rows, identity, scaling, times_rows, product_row, product, along, over_w, transform_point, det_rows, determinant}
use Rattle.refusal.specs.Answer.{Accepted, NotFinite, AngleTooLarge, TooManySegments, BadList, PointNotFinite, ShortWork, NoRoom}
use Rattle.transform.specs.declared.TransformOp.{TransformOp}
use Rattle.transform.specs.declared.TransformOp.TheVariants.{Scale}
use Rattle.transform.specs.Angle.{within1000}
use Rattle.transform.specs.Ops.{no_op, no_ops, op_matrix, fold_from, folded}
use Rattle.transform.specs.Checks.{op_finite, ops_finite, op_angle_within, ops_angles_within}
use Rattle.mesh_spec.specs.Mesh.{plus_zero_v, same_point, first_sight, with_point, weld_triangle, weld_soup, from_soup, every_finite, append, flip, append_parts}
use Rattle.mesh_spec.specs.Mesh.{from_parts}
use Rattle.mesh_spec.specs.Edits.{moved, transform}
use Rattle.mesh_spec.specs.Measures.{including, plus_zero_box, box_of, bounding_box}
use Rattle.solid_spec.specs.Grid.{grid}
use Rattle.solid_spec.specs.ParamBox.{coord, face, faces, param_box}
use Rattle.solid_spec.specs.Boxes.{box_shape, multi_box_parts}
use Rattle.shape.specs.declared.Shape.TheVariants.{Box, MultiBox}
use Rattle.shape.specs.declared.CoordSystem.{CoordSystem}
use Rattle.shape.specs.declared.CoordSystem.TheVariants.{Cartesian, Cylindrical}
use Rattle.shape.specs.declared.TessellationOptions.{TessellationOptions}
use Rattle.shape.specs.Drawing.{effective_cs, shape_cs, cylindrical, too_many_segments, items_of, bad_items, bad_list, list_of}
use Rattle.shape.specs.Drawing.{shape_finite, point_within, points_within, shape_within, list_within, numbers_bad, angles_bad, drawing_refusal}
use Rattle.slice.specs.Every.{counted_places, every}
use Rattle.mesh_spec.specs.Parts.{parts_finite}
use Rattle.mesh_check.specs.State.{record_of, empty_record, no_room}
use Rattle.mesh_made.specs.Made.{Lent, short_work, Ending, refused_as, accepted_as, made_as}
use Rattle.shape.specs.Rotated.{is_rot_poly}
use Rattle.solid_spec.specs.Solid.{parts_of, solid_mesh}
use Rattle.tessellate_spec.specs.Outcome.{Job, job_parts, welded_mesh, placed, final_mesh, job_refusal, bad_soup, bad_placed}
use Rattle.refusal.specs.Accepted.{or_else}
use Rattle.tessellate_spec.specs.Outcome.{bad_vertex, refusal_of, tessellate_of}

abbrev float : ℕ → Float
float n = of_int binary64 (pos n)

-- slices of so many floats and numbers
abbrev of : ℕ → ℕ → ℕ → Lent
of nv nt nw = record { vertices = nv; triangles = nt; work = nw }

-- a box between two points, in a system, with a number of segments, operations and their count
abbrev box_between : Vec3 → Vec3 → CoordSystem → ℕ → List TransformOp → ℕ → Job
box_between a b system segments ops count = record {
  shape = Box a b;
  list = [];
  own = None;
  default = system;
  options = record { segments = segments; sphere_rings = 16 };
  degrees = false;
  ops = ops;
  count = count;
}

abbrev origin : Vec3
origin = new (float 0) (float 0) (float 0)

abbrev corner : Vec3
corner = new (float 1) (float 2) (float 3)

-- the box (0,0,0) to (1,2,3)
abbrev box : Job
box = box_between origin corner Cartesian 32 no_ops 0

-- tessellate_of, with what it takes to compute it
unfoldable computed : Job → Lent → Ending
unfolding tessellate_of made_as refusal_of or_else short_work job_refusal bad_soup no_room bad_vertex bad_placed placed accepted_as refused_as counted_places every
    parts_finite every_finite drawing_refusal too_many_segments bad_items bad_list numbers_bad angles_bad items_of list_of shape_finite v_finite point_within points_within
    within1000 shape_within list_within ops_finite op_finite ops_angles_within op_angle_within final_mesh welded_mesh job_parts parts_of solid_mesh is_rot_poly from_parts
    append_parts append from_soup weld_soup weld_triangle with_point first_sight same_point plus_zero_v shape_cs effective_cs cylindrical box_shape param_box faces face
    grid coord v_min v_max folded fold_from op_matrix scaling identity product product_row times_rows from_rows transform moved flip transform_point along over_w
    determinant det_rows minimum maximum absolute bounding_box box_of including include empty_box plus_zero_box is_nan lt le eq ne neg add sub mul div of_int of_bits
computed = tessellate_of

-- ---- what the slices hold

-- 8 vertices and 12 triangles, which just fit; 16 numbers of work are enough
pub fits_exactly : (tessellate_of box (of 24 36 16)).refusal ≡ Accepted
unfolding computed
fits_exactly = refl

-- so does the box (0,0,0) to (1,2,0): 4 vertices and 2 triangles
pub flat_fits_exactly : (tessellate_of (box_between origin (new (float 1) (float 2) (float 0)) Cartesian 32 no_ops 0) (of 12 6 8)).refusal ≡ Accepted
unfolding computed
flat_fits_exactly = refl

-- the record: the counts, and the box of the vertices
box_record : (tessellate_of box (of 24 36 16)).state.mesh ≡ record_of 8 12 (record { min = origin; max = corner })
unfolding computed
box_record = refl

-- scaled by 2: the box of the vertices under the operations
scaled_bounds : (tessellate_of (box_between origin corner Cartesian 32 (Scale (float 2) ∷ replicate 15 no_op) 1) (of 24 36 16)).state.mesh.bounds
    ≡ record { min = origin; max = new (float 2) (float 4) (float 6) }
unfolding computed
scaled_bounds = refl

first_floats : take 6 (tessellate_of box (of 24 36 16)).state.vertices ≡ float 0 ∷ float 0 ∷ float 0 ∷ float 0 ∷ float 0 ∷ float 3 ∷ []
unfolding computed
first_floats = refl

first_numbers : take 6 (tessellate_of box (of 24 36 16)).state.triangles ≡ 0 ∷ 1 ∷ 2 ∷ 0 ∷ 2 ∷ 3 ∷ []
unfolding computed
first_numbers = refl

-- later elements are zero, those of a last place that is not whole too
rest_of_vertices : drop 24 (tessellate_of box (of 28 37 18)).state.vertices ≡ float 0 ∷ float 0 ∷ float 0 ∷ float 0 ∷ []
unfolding computed
rest_of_vertices = refl

rest_of_triangles : drop 36 (tessellate_of box (of 28 37 18)).state.triangles ≡ 0 ∷ []
unfolding computed
rest_of_triangles = refl

work_zero : (tessellate_of box (of 24 36 16)).work ≡ replicate 16 0
unfolding computed
work_zero = refl

-- refused: counts 0, the empty box, and every slice zero
refused_zero : tessellate_of box (of 4 5 2)
    ≡ record {
      refusal = NoRoom;
      state = record {
        mesh = empty_record;
        vertices = float 0 ∷ float 0 ∷ float 0 ∷ float 0 ∷ [];
        triangles = 0 ∷ 0 ∷ 0 ∷ 0 ∷ 0 ∷ [];
      };
      work = 0 ∷ 0 ∷ [];
    }
unfolding computed
refused_zero = refl

-- ---- the refusals, each at its edge

-- 6: 8 vertex places ask for 16 numbers of work, a broken ninth place for no more
work_enough : (tessellate_of box (of 26 36 16)).refusal ≡ Accepted
unfolding computed
work_enough = refl

work_short : (tessellate_of box (of 24 36 15)).refusal ≡ ShortWork
unfolding computed
work_short = refl

-- 3: 1,024 segments, 1,025
segments_most : (tessellate_of (box_between origin corner Cartesian 1024 no_ops 0) (of 24 36 16)).refusal ≡ Accepted
unfolding computed
segments_most = refl

segments_above : (tessellate_of (box_between origin corner Cartesian 1025 no_ops 0) (of 24 36 16)).refusal ≡ TooManySegments
unfolding computed
segments_above = refl

-- 2: the angle 1,000 and the next float above it
angle_most : job_refusal (box_between origin (new (float 1) (float 1000) (float 1)) Cylindrical 3 no_ops 0) ≡ Accepted
unfolding computed
angle_most = refl

above_1000 : Float
above_1000 = of_bits binary64 0x408F_4000_0000_0001

angle_above : job_refusal (box_between origin (new (float 1) above_1000 (float 1)) Cylindrical 3 no_ops 0) ≡ AngleTooLarge
unfolding computed above_1000
angle_above = refl

-- the same number is no angle in the Cartesian system
no_angle : job_refusal (box_between origin (new (float 1) above_1000 (float 1)) Cartesian 3 no_ops 0) ≡ Accepted
unfolding computed above_1000
no_angle = refl

-- 5: a box from −1e308 to 1e308 on an axis
huge : Float
huge = of_bits binary64 0x7FE1_CCF3_85EB_C8A0

soup_not_finite : (tessellate_of (box_between (new (neg huge) (float 0) (float 0)) (new huge (float 2) (float 3)) Cartesian 32 no_ops 0) (of 24 36 16)).refusal
    ≡ PointNotFinite
unfolding computed huge
soup_not_finite = refl

-- 7: a 7-place vertex slice is short by one vertex, and a broken eighth place does not count; an 11-place triangle slice by one triangle
vertices_short : (tessellate_of box (of 23 36 14)).refusal ≡ NoRoom
unfolding computed
vertices_short = refl

triangles_short : (tessellate_of box (of 24 35 16)).refusal ≡ NoRoom
unfolding computed
triangles_short = refl

-- 16 operations, the first of which scales by the huge number
abbrev huge_ops : List TransformOp
huge_ops = Scale huge ∷ replicate 15 no_op

-- 5: transformed vertices
vertex_not_finite : (tessellate_of (box_between origin corner Cartesian 32 huge_ops 1) (of 24 36 16)).refusal ≡ PointNotFinite
unfolding computed huge
vertex_not_finite = refl

-- an operation beyond the count is not read
beyond_count : (tessellate_of (box_between origin corner Cartesian 32 huge_ops 0) (of 24 36 16)).refusal ≡ Accepted
unfolding computed huge
beyond_count = refl

-- ---- the order of the checks: where two are due, the first one answers

6-before-3 : (tessellate_of (box_between origin corner Cartesian 1025 no_ops 0) (of 24 36 15)).refusal ≡ ShortWork
unfolding computed
6-before-3 = refl

3-before-4 : (tessellate_of (box_between origin corner Cartesian 1025 [] 17) (of 24 36 16)).refusal ≡ TooManySegments
unfolding computed
3-before-4 = refl

4-before-1 : (tessellate_of (box_between origin (new nan (float 2) (float 3)) Cartesian 32 [] 17) (of 24 36 16)).refusal ≡ BadList
unfolding computed
4-before-1 = refl

1-before-2 : (tessellate_of (box_between origin (new nan above_1000 (float 3)) Cylindrical 3 no_ops 0) (of 24 36 16)).refusal ≡ NotFinite
unfolding computed above_1000
1-before-2 = refl

2-before-5 : (tessellate_of (box_between (new (neg huge) (float 0) (float 0)) (new huge above_1000 (float 3)) Cylindrical 3 no_ops 0) (of 24 36 16)).refusal
    ≡ AngleTooLarge
unfolding computed above_1000 huge
2-before-5 = refl

5-before-7 : (tessellate_of (box_between (new (neg huge) (float 0) (float 0)) (new huge (float 2) (float 3)) Cartesian 32 no_ops 0) (of 0 0 0)).refusal
    ≡ PointNotFinite
unfolding computed huge
5-before-7 = refl

7-before-5 : (tessellate_of (box_between origin corner Cartesian 32 huge_ops 1) (of 23 36 16)).refusal ≡ NoRoom
unfolding computed huge
7-before-5 = refl

-- ---- systems

-- a multi-box is taken in the default system, whatever its own is
multi_box_system : (own : Option CoordSystem) (default : CoordSystem) (v : List Float) (o : TessellationOptions) (degrees : Bool)
    → job_parts (record { shape = MultiBox; list = v; own = own; default = default; options = o; degrees = degrees; ops = []; count = 0 })
    ≡ multi_box_parts (cylindrical default) v o.segments
unfolding job_parts parts_of shape_cs
multi_box_system own default v o degrees = refl

-- a box its own where it has one
box_system : (own default : CoordSystem) (a b : Vec3) (o : TessellationOptions)
    → job_parts (record { shape = Box a b; list = []; own = Some own; default = default; options = o; degrees = false; ops = []; count = 0 })
    ≡ box_shape a b (cylindrical own) o.segments ∷ []
unfolding job_parts parts_of shape_cs effective_cs
box_system own default a b o = refl
