-- What the contracts of `tessellate_weld` cite: what a drawing that is welded has passed. Definitions only.
use Rattle.std.specs.Prelude.{◌≡◌, false, List, ◌≤◌, length, Float}
use Rattle.refusal.specs.Answer.{Accepted}
use Rattle.shape.specs.declared.Shape.{Shape}
use Rattle.shape.specs.declared.TessellationOptions.{TessellationOptions}
use Rattle.shape.specs.Drawing.{bad_list, items_of}
use Rattle.mesh_made.specs.Made.{Lent, short_work}
use Rattle.tessellate_spec.specs.Outcome.{Job, job_refusal}

-- what the welding of a shape rests on: docs/SCOPE.md's refusals 3 and 4 do not apply
pub record Drawable (shape : Shape) (list : List Float) (options : TessellationOptions) : Type 0 where
  pub segments : options.segments ≤ 1024
  pub rings : options.sphere_rings ≤ 1024
  pub items : bad_list (items_of shape) (length list) ≡ false

-- refusals 6, 3, 4, 1 and 2 do not apply, for slices of the lengths n
pub record Drawn (j : Job) (n : Lent) : Type 0 where
  pub work : short_work n.vertices n.work ≡ false
  pub drawing : job_refusal j ≡ Accepted
