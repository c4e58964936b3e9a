-- `mesh_stay_finite::tested_stay_finite` meets its contract: by the bounds, by the loop without a division, or by the one with it. Assumes nothing.
use mathlib.Core.Path.{sym}
use Prim.Native.Nat.{◌*◌}
use lib.ListN.{take}
use borrow.Author.Rules.{rules}
use Rattle.slice_law.specs.Bools.{and_left, and_right}
use Rattle.mesh_move_affine.proofs.BoundedLaws.{keeps}
use Rattle.mesh_stay_finite.proofs.tested_stay_finite.Goals as goal

pub is_bounded-requires : goal.is_bounded-requires
is_bounded-requires c = tt

pub returns-then-small-is_bounded : goal.returns-then-small-is_bounded
returns-then-small-is_bounded c =
    let a = c.args in
    let b = c.is_bounded in
    let h = b.ensures.yes (and_right a.small b.result c.if-small-is_bounded.true) in
    sym (keeps a.a h (take (3 * a.n) a.vertices.now) (c.requires.bounded (and_left a.small b.result c.if-small-is_bounded.true)))

pub is_affine-requires : goal.is_affine-requires
is_affine-requires c = tt

pub stay_finite-requires : goal.stay_finite-requires
stay_finite-requires c = record { vertices = c.requires.vertices; affine = c.is_affine.ensures.yes c.if-is_affine.true }

pub stay_finite_divided-requires : goal.stay_finite_divided-requires
stay_finite_divided-requires c = c.requires.vertices.within
