-- Demand 3 (docs/SCOPE.md, "Words of demand 3"), whole and as one theorem, on the definitions that the contracts of `tessellate`, `append`, `flip` and
-- `transform` cite. Assumes nothing.
-- The words are in specs/Words.antt: `Solid` has the conditions, a line for each shape.
use Rattle.std.proofs.Common.{sym, subst}
use mathlib.Core.List.{◌∷◌}
use Rattle.mesh_spec.specs.Closed.{Closed}
use Rattle.mesh_spec.specs.ClosedLaws.{no_mesh_closed}
use Rattle.mesh_spec.proofs.ClosedLawsHeld.{append_closed, flip_closed, transform_closed}
use Rattle.shape.specs.Drawing.{cylindrical, shape_cs}
use Rattle.mesh_edit_law.proofs.ListsMore.{kept_by_lists}
use Rattle.mesh_made.specs.Made.{Lent}
use Rattle.tessellate_spec.specs.Outcome.{Job, job_parts}
use Rattle.tessellate_law.specs.Words.{Accepts, left, given, FitsSolid, Solid}
use Rattle.tessellate_law.specs.AcceptedLaws.{accepted_says, given_final}
use Rattle.tessellate_law.specs.PartsClosed.{parts_balanced, parts_closed}
use Rattle.tessellate_law.specs.Demand3.{Demand3, final, is_all_there, is_none_twice}

-- ---- the proof

is_closed : (j : Job) (n : Lent) → Accepts j n → FitsSolid j.shape j.list → Solid j.shape j.list → Closed (given j n)
unfolding job_parts
is_closed j n h f s =
    let a = accepted_says j n h in
    let d = a.drawing in
    let cyl = cylindrical (shape_cs j.shape j.own j.default) in
    let b = parts_balanced cyl j.list j.options d.segments_most j.shape f d.shape_finite_lem d.list_finite s in
    subst Closed (sym (given_final j n h))
    (final Closed (record { empty = no_mesh_closed; appended = append_closed; flipped = flip_closed; transformed = transform_closed }) j
    (parts_closed (job_parts j) b a.soup))

pub demand3 : Demand3
demand3 = record {
  closed = is_closed;
  none_twice = is_none_twice;
  all_there = is_all_there;
  lists = kept_by_lists;
  closed_after = λ j n h f s calls b. kept_by_lists.closed (left j n) calls (is_closed j n h f s) b;
  proper_after = λ j n h calls b. kept_by_lists.proper (left j n) calls (record { none_twice = is_none_twice j n h; all_there = is_all_there j n h }) b;
}
