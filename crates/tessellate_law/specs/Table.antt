-- docs/SCOPE.md, "Figures": every figure marked (P), as one table that one theorem proves, by computation on the definitions that the contracts cite.
-- Assumes nothing.
use Rattle.std.specs.Prelude.{◌≡◌, refl, false, List, [], ◌∷◌, ℕ, pos, negsuc, length, take, Float, None}
use Rattle.std.proofs.Common.{ap, ◌∙◌, subst, arith}
use Rattle.std.specs.Float.{fin, binary64}
use Rattle.std.specs.Float.Ieee.{add, sub, mul, div, neg, of_int, of_bits, eq, lt, le, is_nan}
use Rattle.ieee.specs.Number.{minimum, maximum, absolute, pi, tau}
use Rattle.ieee_whole.specs.Whole.{ceiling}
use Rattle.root.specs.Sqrt.{sqrt}
use Rattle.math.specs.declared.Vec3.{Vec3}
use Rattle.math.specs.Vec.{v_sub, v_min, v_max, dot, cross, norm_sq, norm}
use Rattle.outline.specs.Corners.{point, same}
use Rattle.outline.specs.Clean.{ends_in, pushed, gathered, stay, clean_polygon}
use Rattle.outline_triangle.specs.Triangle.{cross as turn, largest, scale, tolerance, in_triangle, blocks}
use Rattle.outline_ears.specs.Ears.{any, blocked, ip, inx, triangle_at, cross_at, is_ear, is_flat}
use Rattle.outline_ears.specs.Ears.{counting, find, first_ear, first_flat}
use Rattle.outline_remaining.specs.Without.{without}
use Rattle.outline_triangulate.specs.Triangulate.{Clipping, clipped, dropped, fans, fan, fanned, by_found, pass, passes, finished, start, triangulated}
use Rattle.outline_triangulate.specs.Triangulate.{triangulate_polygon}
use Rattle.mesh_spec.specs.Mesh.{Mesh, no_mesh, plus_zero_v, same_point, first_sight, with_point, weld_triangle, weld_soup, from_soup, append, append_parts, from_parts}
use Rattle.mesh_spec.specs.Measures.{triangle_soup, sum_of, volume_term, area_term, signed_volume, area}
use Rattle.mesh_balance_spec.specs.Count.{EdgesBalance}
use Rattle.solid_spec.specs.Grid.{grid}
use Rattle.solid_spec.specs.ParamBox.{coord, face, faces, param_box}
use Rattle.solid_spec.specs.Sphere.{sphere, sphere_soup}
use Rattle.transform.specs.Ops.{no_ops}
use Rattle.shape_arc.specs.Arc.{counted_span, arc_share, arc_segments}
use Rattle.solid_spec.specs.Boxes.{box_shape}
use Rattle.shape.specs.declared.Shape.{Shape}
use Rattle.shape.specs.declared.Shape.TheVariants.{Box, Sphere}
use Rattle.shape.specs.declared.CoordSystem.TheVariants.{Cartesian}
use Rattle.shape.specs.declared.TessellationOptions.{TessellationOptions}
use Rattle.shape.specs.Drawing.{effective_cs, shape_cs, cylindrical}
use Rattle.shape.specs.Rotated.{is_rot_poly}
use Rattle.solid_spec.specs.Solid.{parts_of, solid_mesh}
use Rattle.tessellate_spec.specs.Outcome.{Job, job_parts, welded_mesh, placed, final_mesh}
use Rattle.tessellate_spec.specs.Examples.{fits_exactly, flat_fits_exactly}
use Rattle.mesh_made.specs.Made.{Lent}
use Rattle.tessellate_law.specs.Words.{Accepts, given}
use Rattle.tessellate_law.specs.AcceptedLaws.{given_final}

-- ---- the drawings

-- the float n
abbrev pub float : ℕ → Float
float n = of_int binary64 (pos n)

-- the point (a, b, c)
abbrev pub at : ℕ → ℕ → ℕ → Vec3
at a b c = record { x = float a; y = float b; z = float c }

-- a shape without a list, Cartesian, with no operations
abbrev pub drawn : Shape → TessellationOptions → Job
drawn s o = record { shape = s; list = []; own = None; default = Cartesian; options = o; degrees = false; ops = no_ops; count = 0 }

-- 32 segments and 16 rings
abbrev pub usual : TessellationOptions
usual = record { segments = 32; sphere_rings = 16 }

-- slices of so many floats, numbers and numbers of work
abbrev pub slices : ℕ → ℕ → ℕ → Lent
slices nv nt nw = record { vertices = nv; triangles = nt; work = nw }

-- the box (0,0,0) to (1,2,3), and the mesh that the call leaves in slices that it just fits
abbrev pub box_job : Job
box_job = drawn (Box (at 0 0 0) (at 1 2 3)) usual

abbrev pub box : Mesh
box = given box_job (slices 24 36 16)

-- the box (0,0,0) to (1,2,0), and the same
abbrev pub flat_job : Job
flat_job = drawn (Box (at 0 0 0) (at 1 2 0)) usual

abbrev pub flat_box : Mesh
flat_box = given flat_job (slices 12 6 8)

-- corners (x, y), two floats each
abbrev pub corners : List (ℕ × ℕ) → List Float
corners [] = []
corners (c ∷ cs) = float c.0 ∷ float c.1 ∷ corners cs

abbrev pub square : Clipping
square = triangulate_polygon (corners ((0, 0) ∷ (1, 0) ∷ (1, 1) ∷ (0, 1) ∷ []))

abbrev pub line : Clipping
line = triangulate_polygon (corners ((0, 0) ∷ (1, 0) ∷ (2, 0) ∷ (3, 0) ∷ []))

-- ---- the table

pub record Figures : Type 0 where
  -- F1: the box is accepted, and has so many vertices and triangles
  pub box_accepted : Accepts box_job (slices 24 36 16)
  pub box_vertices : length box.vertices ≡ 8
  pub box_triangles : length box.triangles ≡ 12
  -- F1: those that it begins with
  pub box_first_vertices : take 4 box.vertices ≡ at 0 0 0 ∷ at 0 0 3 ∷ at 0 2 3 ∷ at 0 2 0 ∷ []
  pub box_first_triangles : take 2 box.triangles ≡ (0, 1, 2) ∷ (0, 2, 3) ∷ []
  -- F1: its measures
  pub box_area : area box ≡ float 22
  pub box_volume : signed_volume box ≡ float 6
  -- F2: the flat box is accepted, has one sheet of two triangles, and is open
  pub flat_accepted : Accepts flat_job (slices 12 6 8)
  pub flat_vertices : length flat_box.vertices ≡ 4
  pub flat_triangles : length flat_box.triangles ≡ 2
  pub flat_area : area flat_box ≡ float 2
  pub flat_open : EdgesBalance flat_box.triangles → ⊥
  -- F3: a corner that is given twice, and the closing corner, are cleaned away
  pub cleans_to_three : clean_polygon (corners ((0, 0) ∷ (0, 0) ∷ (1, 0) ∷ (1, 1) ∷ (0, 0) ∷ [])) ≡ corners ((0, 0) ∷ (1, 0) ∷ (1, 1) ∷ [])
  -- F4: the triangles of the square, and its number of corners removed singly
  pub square_triangles : square.triangles ≡ 3 ∷ 0 ∷ 1 ∷ 1 ∷ 2 ∷ 3 ∷ []
  pub square_removed : square.removed ≡ 1
  -- F5: corners on a line
  pub line_triangles : line.triangles ≡ []
  pub line_removed : line.removed ≡ 1
  -- F5: any two corners
  pub two_corners : (a b c d : Float) → (triangulate_polygon (a ∷ b ∷ c ∷ d ∷ [])).triangles ≡ []
  -- F6: arcs of four spans
  pub span_zero : arc_segments 32 (float 0) ≡ 1
  pub span_pi : arc_segments 32 pi ≡ 16
  pub span_minus_pi : arc_segments 32 (neg pi) ≡ 16
  pub span_tau : arc_segments 32 tau ≡ 32
  -- F7: three roots; `fin s m e` is m × 2^e, negative where s says so, and `negsuc n` is -(n + 1)
  pub root_four : sqrt binary64 (float 4) ≡ float 2
  pub root_minus_zero : sqrt binary64 (neg (float 0)) ≡ neg (float 0)
  pub root_least : sqrt binary64 (fin false 1 (negsuc 1073)) ≡ fin false 1 (negsuc 536)
  -- F8: a sphere of radius 0 has no mesh, for any centre, segments, rings and slices with which it is accepted
  pub no_sphere : (center : Vec3) (o : TessellationOptions) (n : Lent) → Accepts (drawn (Sphere center (float 0)) o) n
      → given (drawn (Sphere center (float 0)) o) n ≡ no_mesh

-- ---- what it takes to compute them

unfoldable meshes : Job → Mesh
unfolding final_mesh placed welded_mesh job_parts parts_of solid_mesh is_rot_poly from_parts append_parts append from_soup weld_soup weld_triangle with_point first_sight
    same_point plus_zero_v shape_cs effective_cs cylindrical box_shape param_box faces face grid coord v_min v_max minimum maximum sphere_soup sphere is_nan lt le eq
    add sub mul div of_int of_bits
meshes = final_mesh

unfoldable areas : Mesh → Float
unfolding area triangle_soup sum_of area_term v_sub cross norm norm_sq dot sqrt add sub mul div of_int of_bits
areas = area

unfoldable clips : List Float → Clipping
unfolding triangulate_polygon triangulated passes finished start pass by_found fanned dropped clipped without fan fans counting first_ear first_flat is_ear
    is_flat triangle_at cross_at blocked blocks in_triangle turn tolerance scale largest any find ip inx point same maximum absolute is_nan eq lt le neg add sub mul
    of_int of_bits
clips = triangulate_polygon

unfoldable arcs : ℕ → Float → ℕ
unfolding arc_segments arc_share counted_span ceiling minimum absolute is_nan lt neg mul div of_int of_bits
arcs = arc_segments

-- ---- the proofs

-- the whole mesh of the box
abbrev box_mesh : Mesh
box_mesh = record {
  vertices = at 0 0 0 ∷ at 0 0 3 ∷ at 0 2 3 ∷ at 0 2 0 ∷ at 1 0 0 ∷ at 1 2 0 ∷ at 1 2 3 ∷ at 1 0 3 ∷ [];
  triangles =
      (0, 1, 2) ∷ (0, 2, 3) ∷ (4, 5, 6) ∷ (4, 6, 7) ∷ (0, 4, 7) ∷ (0, 7, 1) ∷ (3, 2, 6) ∷ (3, 6, 5) ∷ (0, 3, 5) ∷ (0, 5, 4) ∷ (1, 7, 6) ∷ (1, 6, 2) ∷ [];
}

box_final : final_mesh box_job ≡ box_mesh
unfolding meshes
box_final = refl

box_is : box ≡ box_mesh
box_is = given_final box_job (slices 24 36 16) fits_exactly ∙ box_final

abbrev flat_mesh : Mesh
flat_mesh = record { vertices = at 0 0 0 ∷ at 0 2 0 ∷ at 1 0 0 ∷ at 1 2 0 ∷ []; triangles = (0, 1, 3) ∷ (0, 3, 2) ∷ [] }

flat_final : final_mesh flat_job ≡ flat_mesh
unfolding meshes
flat_final = refl

flat_is : flat_box ≡ flat_mesh
flat_is = given_final flat_job (slices 12 6 8) flat_fits_exactly ∙ flat_final

area_is : area box_mesh ≡ float 22
unfolding areas
area_is = refl

volume_is : signed_volume box_mesh ≡ float 6
unfolding signed_volume triangle_soup sum_of volume_term cross dot add sub mul div of_int of_bits
volume_is = refl

flat_area_is : area flat_mesh ≡ float 2
unfolding areas
flat_area_is = refl

-- the directed edge (0, 1) is used once, its reverse not at all
open_is : EdgesBalance flat_mesh.triangles → ⊥
open_is c = let h : ◌≡◌ {A = ℕ} 1 0 = c 0 1 in omega (arith, h)

cleans : clean_polygon (corners ((0, 0) ∷ (0, 0) ∷ (1, 0) ∷ (1, 1) ∷ (0, 0) ∷ [])) ≡ corners ((0, 0) ∷ (1, 0) ∷ (1, 1) ∷ [])
unfolding clean_polygon gathered pushed ends_in stay point same eq of_int
cleans = refl

square_is : square ≡ record { idx = []; triangles = 3 ∷ 0 ∷ 1 ∷ 1 ∷ 2 ∷ 3 ∷ []; removed = 1 }
unfolding clips
square_is = refl

line_is : line ≡ record { idx = 1 ∷ 2 ∷ 3 ∷ []; triangles = []; removed = 1 }
unfolding clips
line_is = refl

two_is : (a b c d : Float) → (triangulate_polygon (a ∷ b ∷ c ∷ d ∷ [])).triangles ≡ []
unfolding clips
two_is a b c d = refl

zero_span : arc_segments 32 (float 0) ≡ 1
unfolding arcs
zero_span = refl

pi_span : arc_segments 32 pi ≡ 16
unfolding arcs
pi_span = refl

minus_pi_span : arc_segments 32 (neg pi) ≡ 16
unfolding arcs
minus_pi_span = refl

tau_span : arc_segments 32 tau ≡ 32
unfolding arcs
tau_span = refl

four_root : sqrt binary64 (float 4) ≡ float 2
unfolding sqrt of_int
four_root = refl

minus_zero_root : sqrt binary64 (neg (float 0)) ≡ neg (float 0)
unfolding sqrt of_int neg
minus_zero_root = refl

least_root : sqrt binary64 (fin false 1 (negsuc 1073)) ≡ fin false 1 (negsuc 536)
unfolding sqrt
least_root = refl

sphere_none : (center : Vec3) (o : TessellationOptions) → final_mesh (drawn (Sphere center (float 0)) o) ≡ no_mesh
unfolding meshes
sphere_none center o = refl

pub figures : Figures
figures = record {
  box_accepted = fits_exactly;
  box_vertices = ap (λ (m : Mesh). length m.vertices) box_is;
  box_triangles = ap (λ (m : Mesh). length m.triangles) box_is;
  box_first_vertices = ap (λ (m : Mesh). take 4 m.vertices) box_is;
  box_first_triangles = ap (λ (m : Mesh). take 2 m.triangles) box_is;
  box_area = ap area box_is ∙ area_is;
  box_volume = ap signed_volume box_is ∙ volume_is;
  flat_accepted = flat_fits_exactly;
  flat_vertices = ap (λ (m : Mesh). length m.vertices) flat_is;
  flat_triangles = ap (λ (m : Mesh). length m.triangles) flat_is;
  flat_area = ap area flat_is ∙ flat_area_is;
  flat_open = λ c. open_is (subst (λ (m : Mesh). EdgesBalance m.triangles) flat_is c);
  cleans_to_three = cleans;
  square_triangles = ap (λ (s : Clipping). s.triangles) square_is;
  square_removed = ap (λ (s : Clipping). s.removed) square_is;
  line_triangles = ap (λ (s : Clipping). s.triangles) line_is;
  line_removed = ap (λ (s : Clipping). s.removed) line_is;
  two_corners = two_is;
  span_zero = zero_span;
  span_pi = pi_span;
  span_minus_pi = minus_pi_span;
  span_tau = tau_span;
  root_four = four_root;
  root_minus_zero = minus_zero_root;
  root_least = least_root;
  no_sphere = λ center o n a. given_final (drawn (Sphere center (float 0)) o) n a ∙ sphere_none center o;
}
