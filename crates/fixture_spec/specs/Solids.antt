-- The solids of a file with their settings, from its fields (docs/SCOPE.md, "Fixtures in a file"). Definitions only.
--
-- A file that `file_refusal` lets pass has sound fields only: here a tag is one of 01 to 05 or a solid's, and a payload has the length that its tag asks for.
-- `Settings` is what the fields so far have set: 01 and 02 hold until they are replaced; 03, 04 and 05 serve the next solid and start afresh after it.
-- Floats are given by their bits; every NaN pattern is the NaN.
use Rattle.std.specs.Prelude.{ℕ, ◌+◌, ◌-◌, ◌/◌, Bool, false, cond, List, [], ◌∷◌, ◌++◌, length, get_or, take, drop, replicate, eqb, Float}
use Rattle.std.specs.Float.{binary64}
use Rattle.std.specs.Float.Ieee.{of_bits}
use Rattle.slice_byte_lists.specs.Lists.{floats_of}
use Rattle.transform.specs.declared.TransformOp.{TransformOp}
use Rattle.transform.specs.Ops.{no_ops}
use Rattle.transform_bytes.specs.Layout.{op_of_kind}
use Rattle.shape.specs.declared.Shape.{Shape}
use Rattle.shape.specs.declared.CoordSystem.{CoordSystem}
use Rattle.shape.specs.declared.CoordSystem.TheVariants.{Cartesian, Cylindrical}
use Rattle.std.specs.Prelude.{None, Option, Some}
use Rattle.shape.specs.declared.TessellationOptions.{TessellationOptions}
use Rattle.shape_fields.specs.Fields.{shape_of}
use Rattle.tessellate_spec.specs.Outcome.{Job}
use Rattle.fixture_spec.specs.declared.Layout.{Layout}
use Rattle.fixture_spec.specs.Fields.{Field, count_at, payload_of, fields_of, is_solid, layout_of, fixed_bytes}

-- ---- settings

pub record Settings : Type 0 where
  pub options : TessellationOptions
  pub default : CoordSystem
  pub own : Option CoordSystem
  pub degrees : Bool
  pub ops : List TransformOp

abbrev pub settings : TessellationOptions → CoordSystem → Option CoordSystem → Bool → List TransformOp → Settings
settings options default own degrees ops = record { options = options; default = default; own = own; degrees = degrees; ops = ops }

-- nothing yet for the next solid: no system of its own, radians, no operations
abbrev pub fresh_settings : TessellationOptions → CoordSystem → Settings
fresh_settings options default = settings options default None false []

-- the settings at the start of a file: 32 segments, 16 rings, Cartesian
abbrev pub start_settings : Settings
start_settings = fresh_settings (record { segments = 32; sphere_rings = 16 }) Cartesian

-- a system by its byte: 0 is Cartesian, 1 cylindrical
unfoldable pub system_of : ℕ → CoordSystem
system_of x = cond (eqb x 1) Cylindrical Cartesian

-- the operation of a payload: its kind, then its floats
unfoldable pub op_of : List ℕ → TransformOp
op_of p = op_of_kind (get_or p 0 0) p 1

-- the settings after a field with payload p: 01, 02, 03, 04, 05, and else a solid, which uses up what serves one solid
unfoldable pub settings_after : Settings → ℕ → List ℕ → Settings
unfolding count_at
settings_after s tag p =
    cond (eqb tag 0x01) (settings (record { segments = count_at p 0; sphere_rings = count_at p 2 }) s.default s.own s.degrees s.ops)
    (cond (eqb tag 0x02) (settings s.options (system_of (get_or p 0 0)) s.own s.degrees s.ops)
    (cond (eqb tag 0x03) (settings s.options s.default (Some (system_of (get_or p 0 0))) s.degrees s.ops)
    (cond (eqb tag 0x04) (settings s.options s.default s.own (eqb (get_or p 0 0) 1) s.ops)
    (cond (eqb tag 0x05) (settings s.options s.default s.own s.degrees (s.ops ++ (op_of p ∷ [])))
    (fresh_settings s.options s.default)))))

-- ---- a solid

-- the single numbers of a solid, which stand behind its directions, and zeros up to ten
unfoldable pub numbers_of : Layout → List ℕ → List Float
numbers_of l p = floats_of l.floats (drop l.bytes p) ++ replicate (10 - l.floats) (of_bits binary64 0)

-- the solid of tag 10 to 19: the kind of that place in the order of `Shape`, its directions `norm_dir` and `rot_axis_dir` from the first two bytes, its
-- numbers in the Rust's field order. A kind without directions or with fewer numbers does not read them
unfoldable pub solid_of : ℕ → List ℕ → Shape
solid_of tag p = shape_of (tag - 0x10) (get_or p 0 0) (get_or p 1 0) (numbers_of (layout_of tag 0) p)

-- the bytes of its list: what stands behind the directions and the single numbers
unfoldable pub list_bytes : ℕ → List ℕ → List ℕ
list_bytes tag p = drop (fixed_bytes (layout_of tag 0)) p

-- the array of operations: the first sixteen, and in the other places an operation that does not count
unfoldable pub sixteen : List TransformOp → List TransformOp
sixteen ops = take 16 (ops ++ no_ops)

-- what `tessellate` draws; where there are more than sixteen operations the count says so
unfoldable pub job_of : Settings → ℕ → List ℕ → Job
job_of s tag p = record {
  shape = solid_of tag p;
  list = floats_of (length (list_bytes tag p) / 8) (list_bytes tag p);
  own = s.own;
  default = s.default;
  options = s.options;
  degrees = s.degrees;
  ops = sixteen s.ops;
  count = length s.ops;
}

-- ---- the solids in order

-- the solids of fields, from settings on
unfoldable pub jobs_from : Settings → List Field → List Job
jobs_from s [] = []
jobs_from s (f ∷ fs) = cond (is_solid f.tag) (job_of s f.tag (payload_of f.after) ∷ []) [] ++ jobs_from (settings_after s f.tag (payload_of f.after)) fs

-- the solids of a file that is not refused
unfoldable pub jobs_of : List ℕ → List Job
jobs_of file = jobs_from start_settings (fields_of file)
