-- `mesh_stay_finite::stay_finite` meets its contract: for vertices within the bounds, for other finite ones, or for any. Assumes nothing.
use mathlib.Core.Path.{sym, ◌∙◌}
use borrow.Author.Rules.{rules}
use Rattle.mesh_move_affine.proofs.BoundedLaws.{tested_small, tested_finite}
use Rattle.mesh_stay_finite.proofs.stay_finite.Goals as goal

pub tested_stay_finite-requires : goal.tested_stay_finite-requires
tested_stay_finite-requires c =
    let a = c.args in
    let p = c.all_bounded in
    tested_small a.vertices.now a.n p.result c.requires p.ensures c.if-all_bounded.true

pub tested_stay_finite-requires-then-all_finite : goal.tested_stay_finite-requires-then-all_finite
tested_stay_finite-requires-then-all_finite c =
    let a = c.args in
    tested_finite a.vertices.now a.n
    (record { within = c.requires; finite = sym c.all_finite.ensures ∙ c.if-all_finite.true })
