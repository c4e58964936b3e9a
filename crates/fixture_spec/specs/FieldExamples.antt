-- Files by computation: what they decode to, the refusals 9, 10 and 11 at their edges, the order of two of them, and settings that hold or do not.
-- Assumes nothing.
use Rattle.std.specs.Prelude.{◌≡◌, refl, Bool, true, false, List, [], ◌∷◌, ◌++◌, map, ℕ, pos, length, take, replicate, Float}
use Rattle.std.specs.Float.{binary64}
use Rattle.std.specs.Float.Ieee.{of_int, of_bits}
use Rattle.slice_bytes.specs.Bytes.{word_at, long_at}
use Rattle.slice_byte_lists.specs.Lists.{floats_of}
use Rattle.math.specs.Vec.{new}
use Rattle.transform.specs.declared.TransformOp.TheVariants.{RotateX, Scale}
use Rattle.transform.specs.Ops.{no_op}
use Rattle.transform_bytes.specs.Layout.{op_floats, op_of_kind}
use Rattle.shape.specs.declared.Shape.TheVariants.{Box, RotPoly, Wire}
use Rattle.shape.specs.declared.CoordSystem.{CoordSystem}
use Rattle.std.specs.Prelude.{None, Option, Some}
use Rattle.shape.specs.declared.CoordSystem.TheVariants.{Cartesian, Cylindrical}
use Rattle.shape.specs.Drawing.{items_of}
use Rattle.shape.specs.declared.Items.{Items}
use Rattle.shape.specs.declared.Items.TheVariants.{NoItems, Corners, Points, Boxes}
use Rattle.shape_fields.specs.Fields.{pointed, shape_of}
use Rattle.tessellate_spec.specs.Outcome.{Job}
use Rattle.refusal.specs.Answer.{Answer}
use Rattle.refusal.specs.Answer.{Accepted, BrokenField, UnknownField, NoSolid}
use Rattle.refusal.specs.Accepted.{or_else}
use Rattle.fixture_spec.specs.Fields.{count_at, size_of, payload_of, fields_from, is_solid, known_tag, known_first, layout_of, fixed_bytes, right_size}
use Rattle.fixture_spec.specs.Fields.{field_refusal, first_refusal, any_solid, file_refusal}
use Rattle.fixture_spec.specs.Solids.{system_of, op_of, settings_after, numbers_of, solid_of, list_bytes, sixteen, job_of, jobs_from, jobs_of}

abbrev Bytes : Type 0
Bytes = List ℕ

-- the floats 0, 1, 2 and 3 as eight bytes
abbrev f0 : Bytes
f0 = 0 ∷ 0 ∷ 0 ∷ 0 ∷ 0 ∷ 0 ∷ 0 ∷ 0 ∷ []

abbrev f1 : Bytes
f1 = 0 ∷ 0 ∷ 0 ∷ 0 ∷ 0 ∷ 0 ∷ 0xF0 ∷ 0x3F ∷ []

abbrev f2 : Bytes
f2 = 0 ∷ 0 ∷ 0 ∷ 0 ∷ 0 ∷ 0 ∷ 0 ∷ 0x40 ∷ []

abbrev f3 : Bytes
f3 = 0 ∷ 0 ∷ 0 ∷ 0 ∷ 0 ∷ 0 ∷ 8 ∷ 0x40 ∷ []

abbrev float : ℕ → Float
float n = of_int binary64 (pos n)

-- the box (0,0,0) to (1,2,3): tag 10, 48 bytes
abbrev box_file : Bytes
box_file = 0x10 ∷ 48 ∷ 0 ∷ f0 ++ f0 ++ f0 ++ f1 ++ f2 ++ f3

-- a rotation about x by 1, an operation of 9 bytes
abbrev turn : Bytes
turn = 0x05 ∷ 9 ∷ 0 ∷ 3 ∷ f1

-- a field of one byte
abbrev one : ℕ → ℕ → Bytes
one tag x = tag ∷ 1 ∷ 0 ∷ x ∷ []

-- segments 258, rings 5
abbrev counts : Bytes
counts = 0x01 ∷ 4 ∷ 0 ∷ 2 ∷ 1 ∷ 5 ∷ 0 ∷ []

-- file_refusal and jobs_of, with what it takes to compute them
unfoldable judged : Bytes → Answer
unfolding file_refusal or_else first_refusal any_solid field_refusal fields_from count_at size_of payload_of is_solid known_tag known_first op_floats layout_of fixed_bytes
    right_size
judged = file_refusal

unfoldable decoded : Bytes → List Job
unfolding jobs_of jobs_from job_of sixteen list_bytes numbers_of solid_of shape_of pointed settings_after system_of op_of op_of_kind fields_from count_at size_of payload_of
    is_solid op_floats layout_of fixed_bytes floats_of long_at word_at of_int of_bits
decoded = jobs_of

-- ---- lengths

abbrev solids : List ℕ
solids = 0x10 ∷ 0x11 ∷ 0x12 ∷ 0x13 ∷ 0x14 ∷ 0x15 ∷ 0x16 ∷ 0x17 ∷ 0x18 ∷ 0x19 ∷ []

-- the bytes of a solid before its list, and of an operation of each kind
solid_bytes : map (λ (t : ℕ). fixed_bytes (layout_of t 0)) solids ≡ 48 ∷ 0 ∷ 32 ∷ 40 ∷ 56 ∷ 64 ∷ 9 ∷ 17 ∷ 26 ∷ 8 ∷ []
unfolding judged
solid_bytes = refl

operation_bytes : map (λ (k : ℕ). fixed_bytes (layout_of 5 k)) (1 ∷ 2 ∷ 3 ∷ 4 ∷ 5 ∷ 6 ∷ 7 ∷ 8 ∷ []) ≡ 25 ∷ 33 ∷ 9 ∷ 9 ∷ 9 ∷ 9 ∷ 25 ∷ 129 ∷ []
unfolding judged
operation_bytes = refl

-- a corner has two floats, a point three, a box six
abbrev item_floats : Items → ℕ
item_floats NoItems = 0
item_floats Corners = 2
item_floats Points = 3
item_floats Boxes = 6

-- an item of a list has the floats that tessellation takes an item to have
item_floats_lem : (p : Bytes) → map (λ (t : ℕ). item_floats (items_of (solid_of t p))) solids ≡ map (λ (t : ℕ). (layout_of t 0).item) solids
unfolding solid_of shape_of pointed layout_of items_of
item_floats_lem p = refl

-- ---- what a file decodes to

box_accepted : file_refusal box_file ≡ Accepted
unfolding judged
box_accepted = refl

box_job : jobs_of box_file
    ≡ record {
      shape = Box (new (float 0) (float 0) (float 0)) (new (float 1) (float 2) (float 3));
      list = [];
      own = None;
      default = Cartesian;
      options = record { segments = 32; sphere_rings = 16 };
      degrees = false;
      ops = replicate 16 no_op;
      count = 0;
    } ∷ []
unfolding decoded
box_job = refl

-- every field once, on a rotated outline of one corner: its two directions, then its three numbers, then the corner
rotated_job : jobs_of (counts ++ one 0x02 1 ++ one 0x03 0 ++ one 0x04 1 ++ turn ++ (0x18 ∷ 42 ∷ 0 ∷ 2 ∷ 1 ∷ f1 ++ f2 ++ f3 ++ f0 ++ f1))
    ≡ record {
      shape = RotPoly 2 (float 1) 1 (float 2) (float 3);
      list = float 0 ∷ float 1 ∷ [];
      own = Some Cartesian;
      default = Cylindrical;
      options = record { segments = 258; sphere_rings = 5 };
      degrees = true;
      ops = RotateX (float 1) ∷ replicate 15 no_op;
      count = 1;
    } ∷ []
unfolding decoded
rotated_job = refl

-- a wire without points is a solid, with an empty list
wire : map (λ (j : Job). j.shape) (jobs_of (0x19 ∷ 8 ∷ 0 ∷ f2)) ≡ Wire (float 2) ∷ []
unfolding decoded
wire = refl

-- ---- 11, 9 and 10 at their edges

empty_file : file_refusal [] ≡ NoSolid
unfolding judged
empty_file = refl

settings_only : file_refusal (counts ++ turn) ≡ NoSolid
unfolding judged
settings_only = refl

-- a byte too few in the file; a length of 47; a length byte missing, and both
cut_off : file_refusal (take 50 box_file) ≡ BrokenField
unfolding judged
cut_off = refl

wrong_length : file_refusal (0x10 ∷ 47 ∷ 0 ∷ replicate 47 0) ≡ BrokenField
unfolding judged
wrong_length = refl

half_length : file_refusal (0x10 ∷ 48 ∷ []) ≡ BrokenField
unfolding judged
half_length = refl

bare_tag : file_refusal (0x10 ∷ []) ≡ BrokenField
unfolding judged
bare_tag = refl

-- the high byte counts: 48 + 256 bytes
high_byte : file_refusal (0x10 ∷ 48 ∷ 1 ∷ replicate 304 0) ≡ BrokenField
unfolding judged
high_byte = refl

-- an outline of half a corner, a wire of one float beside its radius
half_corner : file_refusal (0x16 ∷ 17 ∷ 0 ∷ 2 ∷ f0 ++ f1) ≡ BrokenField
unfolding judged
half_corner = refl

-- no kind: a length that no kind has
no_kind : file_refusal (0x05 ∷ 0 ∷ 0 ∷ box_file) ≡ BrokenField
unfolding judged
no_kind = refl

unknown_tag : file_refusal (0x1A ∷ []) ≡ UnknownField
unfolding judged
unknown_tag = refl

unknown_between : file_refusal (0x06 ∷ 0 ∷ 0 ∷ box_file) ≡ UnknownField
unfolding judged
unknown_between = refl

unknown_system : file_refusal (one 0x03 2 ++ box_file) ≡ UnknownField
unfolding judged
unknown_system = refl

unknown_mark : file_refusal (one 0x04 2 ++ box_file) ≡ UnknownField
unfolding judged
unknown_mark = refl

unknown_kind : file_refusal (0x05 ∷ 9 ∷ 0 ∷ 9 ∷ f1 ++ box_file) ≡ UnknownField
unfolding judged
unknown_kind = refl

-- a direction is any byte
any_direction : file_refusal (0x16 ∷ 9 ∷ 0 ∷ 200 ∷ f0) ≡ Accepted
unfolding judged
any_direction = refl

-- ---- the order

-- the length of the file first, whatever its fields
too_long : (file : Bytes) → length file ≡ 65536 → file_refusal file ≡ BrokenField
unfolding file_refusal
too_long file h = rw h

-- 65,535 bytes are not too long as such: a system, and a wire of 2,730 points
not_too_long : file_refusal (one 0x02 0 ++ (0x19 ∷ 248 ∷ 255 ∷ replicate 65528 0)) ≡ Accepted
unfolding judged
not_too_long = refl

length_65535 : length (one 0x02 0 ++ (0x19 ∷ 248 ∷ 255 ∷ replicate 65528 0)) ≡ 65535
length_65535 = refl

-- in a field 10 before 9: a system of two bytes, a kind in a field that runs past the end
10-before-length : file_refusal (0x02 ∷ 2 ∷ 0 ∷ 2 ∷ 0 ∷ box_file) ≡ UnknownField
unfolding judged
10-before-length = refl

10-before-end : file_refusal (0x05 ∷ 9 ∷ 0 ∷ 0 ∷ []) ≡ UnknownField
unfolding judged
10-before-end = refl

-- the system lies behind the end of the file: 9
10-not-there : file_refusal (0x02 ∷ 1 ∷ 0 ∷ []) ≡ BrokenField
unfolding judged
10-not-there = refl

-- the earlier field answers
9-in-an-earlier-field : file_refusal (0x02 ∷ 2 ∷ 0 ∷ 1 ∷ 0 ∷ one 0x02 2) ≡ BrokenField
unfolding judged
9-in-an-earlier-field = refl

10-in-an-earlier-field : file_refusal (one 0x02 2 ++ (0x02 ∷ 2 ∷ 0 ∷ 1 ∷ 0 ∷ [])) ≡ UnknownField
unfolding judged
10-in-an-earlier-field = refl

-- 9 before 11
9-before-11 : file_refusal (one 0x02 0 ++ (0x03 ∷ [])) ≡ BrokenField
unfolding judged
9-before-11 = refl

-- ---- settings that hold, and that serve one solid

-- 01 holds for both boxes, 03, 04 and 05 for the first
abbrev two_boxes : List Job
two_boxes = jobs_of (counts ++ one 0x03 1 ++ turn ++ one 0x04 1 ++ box_file ++ box_file)

segments_hold : map (λ (j : Job). j.options.segments) two_boxes ≡ 258 ∷ 258 ∷ []
unfolding decoded
segments_hold = refl

own_serves_one : map (λ (j : Job). j.own) two_boxes ≡ Some Cylindrical ∷ None ∷ []
unfolding decoded
own_serves_one = refl

mark_serves_one : map (λ (j : Job). j.degrees) two_boxes ≡ true ∷ false ∷ []
unfolding decoded
mark_serves_one = refl

operations_serve_one : map (λ (j : Job). j.count) two_boxes ≡ 1 ∷ 0 ∷ []
unfolding decoded
operations_serve_one = refl

-- a second 03 or 04 replaces the first; 02 replaces 02 from there on
replaced : map {B = CoordSystem × Option CoordSystem × Bool} (λ (j : Job). (j.default, j.own, j.degrees))
    (jobs_of (box_file ++ one 0x02 1 ++ one 0x03 1 ++ one 0x03 0 ++ one 0x04 1 ++ one 0x04 0 ++ box_file))
    ≡ (Cartesian, None, false) ∷ (Cylindrical, Some Cartesian, false) ∷ []
unfolding decoded
replaced = refl

-- operations in order: a rotation, a scaling by 2
operations_in_order : map (λ (j : Job). take 2 j.ops) (jobs_of (turn ++ (0x05 ∷ 9 ∷ 0 ∷ 6 ∷ f2) ++ box_file)) ≡ (RotateX (float 1) ∷ Scale (float 2) ∷ []) ∷ []
unfolding decoded
operations_in_order = refl

-- seventeen operations: the file is read, the count says 17
seventeen : map {B = ℕ × ℕ} (λ (j : Job). (length j.ops, j.count))
    (jobs_of (turn ++ turn ++ turn ++ turn ++ turn ++ turn ++ turn ++ turn ++ turn ++ turn ++ turn ++ turn ++ turn ++ turn ++ turn ++ turn ++ turn ++ box_file))
    ≡ (16, 17) ∷ []
unfolding decoded
seventeen = refl

-- fields after the last solid are not used, and judged like any other
after_the_last : length (jobs_of (box_file ++ one 0x03 1 ++ turn)) ≡ 1
unfolding decoded
after_the_last = refl

after_the_last_judged : file_refusal (box_file ++ one 0x03 2) ≡ UnknownField
unfolding judged
after_the_last_judged = refl
