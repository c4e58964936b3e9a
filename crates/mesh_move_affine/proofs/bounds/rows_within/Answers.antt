-- `mesh_move_affine::bounds::rows_within` meets its contract: the array lent has 16 floats. Assumes nothing.
use mathlib.Core.Path.{◌≡◌}
use lib.ListN.{length}
use native.Mathlib.Omega.{arith}
use borrow.Author.Rules.{rules}
use Rattle.mesh_move_affine.proofs.BoundedLaws.{rows_within}
use Rattle.mesh_move_affine.proofs.bounds.rows_within.Goals as goal

pub all_bounded-requires : goal.all_bounded-requires
all_bounded-requires c =
    let e : 16 ≡ length c.args.a.m = search rules in
    omega arith

pub returns : goal.returns
returns c =
    let a = c.args.a in
    let e : 16 ≡ length a.m = search rules in
    rows_within a c.all_bounded.result (omega arith) c.all_bounded.ensures
