-- The outcome of the call `tessellate` (src/tessellate.rs) over lent memory, for all arguments and all lent lengths. Definitions only.
--
-- How to read this beside the Rust. The Rust takes a primitive, a default system and options, and returns a mesh. Here:
-- - `Job` holds what the Rust reads: the shape, the list lent beside it, its own system or none, the default system, the options, and the
--   operations of its transform. `ops` is the array of 16, `count` says how many of them count, `degrees` whether their angles are in degrees.
-- - `job_parts` is the Rust's `match` (crate solid_spec, specs/Solid.antt, `parts_of`), in the system of `shape_cs`; points are converted
--   where the Rust's `to_cartesian` converts them.
-- - `welded_mesh` is the `mesh` after the match: `from_soup` of the soup, or of each part with `append`; a rotated outline is flipped where its
--   volume is below 0.
-- - `final_mesh` is the `mesh` that is returned: `mesh.transform(..)` unless the transform is empty.
-- - `refusal_of` has the checks in the order of docs/SCOPE.md, "Order of checks", one line each: 6; 3, 4, 1, 2 (crate shape, `drawing_refusal`); 5 over the
--   whole soup; 7; 5 over the transformed vertices. The first one that is due is the answer; none is `Accepted`.
-- - `tessellate_of` is the outcome: the refusal, the record, and the whole final content of the vertex, the triangle and the work slice, whose
--   lengths are the `Lent` n (crate mesh_made, specs/Made.antt).
use Rattle.std.specs.Prelude.{Bool, not, ◌&&◌, cond, List, ℕ, take, eqb, Float, Option}
use Rattle.math.specs.Vec.{v_finite}
use Rattle.transform.specs.declared.TransformOp.{TransformOp}
use Rattle.transform.specs.Ops.{folded}
use Rattle.refusal.specs.Answer.{Answer, Accepted, PointNotFinite, ShortWork, NoRoom}
use Rattle.refusal.specs.Accepted.{or_else}
use Rattle.mesh_spec.specs.Mesh.{Mesh}
use Rattle.mesh_spec.specs.Parts.{Soup, parts_finite}
use Rattle.mesh_spec.specs.Edits.{transform}
use Rattle.shape.specs.declared.Drawing.{Drawing}
use Rattle.shape.specs.declared.Shape.{Shape}
use Rattle.shape.specs.declared.CoordSystem.{CoordSystem}
use Rattle.shape.specs.declared.TessellationOptions.{TessellationOptions}
use Rattle.shape.specs.Drawing.{cylindrical, shape_cs, drawing_refusal}
use Rattle.slice.specs.Every.{every}
use Rattle.mesh_check.specs.State.{no_room}
use Rattle.mesh_made.specs.Made.{Lent, short_work, Ending, made_as}
use Rattle.solid_spec.specs.Solid.{parts_of, solid_mesh}

-- what `tessellate` draws: what a drawing holds
pub record Job : Type 0 where
  pub shape : Shape
  pub list : List Float
  pub own : Option CoordSystem
  pub default : CoordSystem
  pub options : TessellationOptions
  pub degrees : Bool
  pub ops : List TransformOp
  pub count : ℕ

abbrev pub job : Shape → List Float → Option CoordSystem → CoordSystem → TessellationOptions → Bool → List TransformOp → ℕ → Job
job shape list own default options degrees ops count = record {
  shape = shape;
  list = list;
  own = own;
  default = default;
  options = options;
  degrees = degrees;
  ops = ops;
  count = count;
}

-- what a drawing holds, as a program hands it over
abbrev pub job_of : Drawing → Job
job_of d = job d.shape d.list.now d.own d.default d.options d.operations.degrees d.operations.ops d.operations.count

-- ---- the mesh

-- the parts, in the shape's system: the default one for a multi-box, else the effective one
unfoldable pub job_parts : Job → List Soup
job_parts j = parts_of (cylindrical (shape_cs j.shape j.own j.default)) j.shape j.list j.options

-- the mesh before the transform
unfoldable pub welded_mesh : Job → Mesh
welded_mesh j = solid_mesh j.shape (job_parts j)

-- a mesh under the first operations: none leave it untouched
unfoldable pub placed : Bool → List TransformOp → ℕ → Mesh → Mesh
placed degrees ops count m = cond (eqb count 0) m (transform (folded degrees (take count ops)) m)

-- the mesh
unfoldable pub final_mesh : Job → Mesh
unfolding placed
final_mesh j = placed j.degrees j.ops j.count (welded_mesh j)

-- ---- the refusals

-- 3, 4, 1 and 2
unfoldable pub job_refusal : Job → Answer
job_refusal j = drawing_refusal j.shape j.list j.own j.default j.options j.ops j.count j.degrees

-- 5: a coordinate of a soup point is not finite
unfoldable pub bad_soup : Job → Bool
bad_soup j = not (parts_finite (job_parts j))

-- 5: a coordinate of a vertex under the operations is not finite
unfoldable pub bad_placed : Bool → List TransformOp → ℕ → Mesh → Bool
unfolding placed
bad_placed degrees ops count m = not (eqb count 0) && not (every v_finite (placed degrees ops count m).vertices)

unfoldable pub bad_vertex : Job → Bool
unfolding bad_placed
bad_vertex j = bad_placed j.degrees j.ops j.count (welded_mesh j)

-- the first refusal that is due: 6, then 3, 4, 1, 2, then 5, 7, 5
unfoldable pub refusal_of : Job → Lent → Answer
refusal_of j n =
    cond (short_work n.vertices n.work) ShortWork
    (or_else (job_refusal j)
    (cond (bad_soup j) PointNotFinite
    (cond (no_room (welded_mesh j) n.vertices n.triangles) NoRoom
    (cond (bad_vertex j) PointNotFinite
    Accepted))))

-- ---- the outcome

-- `tessellate`, with slices of the lengths n
unfoldable pub tessellate_of : Job → Lent → Ending
unfolding made_as
tessellate_of j n = made_as (refusal_of j n) (final_mesh j) n
