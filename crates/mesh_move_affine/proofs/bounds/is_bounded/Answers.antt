-- `mesh_move_affine::bounds::is_bounded` meets its contract. Assumes nothing.
use Rattle.mesh_move_affine.proofs.BoundedLaws.{is_bounded_lem}
use Rattle.mesh_move_affine.proofs.bounds.is_bounded.Goals as goal

pub is_affine-requires : goal.is_affine-requires
is_affine-requires c = tt

pub rows_within-requires : goal.rows_within-requires
rows_within-requires c = tt

pub returns : goal.returns
returns c =
    let p = c.is_affine in
    let q = c.rows_within in
    is_bounded_lem c.args.a p.result q.result p.ensures q.ensures
