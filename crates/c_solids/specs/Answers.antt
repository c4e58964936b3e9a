-- What the contracts of `c_solids` cite beside the outcomes of the calls: meshes and answers as plain numbers. Definitions only.
use Rattle.std.specs.Prelude.{◌≡◌, false, List, ℕ, replicate, set, Float}
use Rattle.math.specs.declared.Vec3.{Vec3}
use Rattle.transform.specs.declared.TransformOp.{TransformOp}
use Rattle.transform.specs.declared.TransformOp.TheVariants.{Translate, RotateOrigin}
use Rattle.transform.specs.Ops.{most_ops, no_ops}
use Rattle.refusal.specs.Number.{number_of}
use Rattle.shape.specs.declared.Shape.{Shape}
use Rattle.std.specs.Prelude.{None}
use Rattle.shape.specs.declared.CoordSystem.{CoordSystem}
use Rattle.mesh_check.specs.State.{record_of, State, state, Boxed}
use Rattle.mesh_edit_law.specs.Outcome.{EditOutcome}
use Rattle.mesh_made.specs.Made.{Lent, Ending}
use Rattle.tessellate_spec.specs.Outcome.{job, tessellate_of}
use Rattle.c_solids.specs.Boxes.{six_of, box_in}

-- a point by its numbers
abbrev pub at : Float → Float → Float → Vec3
at x y z = record { x = x; y = y; z = z }

-- a shape in a coordinate system, without operations
abbrev pub solid_in : CoordSystem → Shape → List Float → ℕ → ℕ → Lent → Ending
solid_in system shape list segments rings = tessellate_of (job shape list None system (record { segments = segments; sphere_rings = rings }) false no_ops 0)

-- 16 operations, of which two count: a rotation about an axis through the origin, then a translation
abbrev pub turn_then_move : Vec3 → Float → Vec3 → List TransformOp
turn_then_move axis angle by = set (replicate most_ops (Translate by)) 0 (RotateOrigin axis angle)

-- a mesh by its counts, the six floats of its box and its slices
abbrev pub given : ℕ → ℕ → List Float → List Float → List ℕ → State
given nv nt six vs ts = state (record_of nv nt (box_in six)) vs ts

-- the refusal's number and the six floats are those of an answered box
pub record TellsBox (o : Boxed) (number : ℕ) (six : List Float) : Type 0 where
  pub refusal : number ≡ number_of o.refusal
  pub bounds : six ≡ six_of o.bounds

-- the refusal's number, the counts, the six floats of the box and the slices' final lists are those of the ending of a call that makes a mesh
pub record Tells (o : Ending) (number nv nt : ℕ) (six vs : List Float) (ts ws : List ℕ) : Type 0 where
  pub refusal : number ≡ number_of o.refusal
  pub mesh : record_of nv nt (box_in six) ≡ o.state.mesh
  pub vertices : vs ≡ o.state.vertices
  pub triangles : ts ≡ o.state.triangles
  pub work : ws ≡ o.work

-- the same of an edit
pub record Leaves (o : EditOutcome) (number nv nt : ℕ) (six vs : List Float) (ts : List ℕ) : Type 0 where
  pub refusal : number ≡ number_of o.refusal
  pub mesh : record_of nv nt (box_in six) ≡ o.state.mesh
  pub vertices : vs ≡ o.state.vertices
  pub triangles : ts ≡ o.state.triangles
