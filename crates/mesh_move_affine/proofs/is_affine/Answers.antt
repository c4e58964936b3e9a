-- `mesh_move_affine::is_affine` meets its contract. Assumes nothing.
use Rattle.mesh_move_affine.proofs.AffineLaws.{is_affine}
use borrow.Author.Rules.{rules}
use Rattle.mesh_move_affine.proofs.is_affine.Goals as goal

pub returns : goal.returns
returns c =
    let x = c.is_zero in
    let y = c.is_zero-2 in
    let z = c.is_zero-3 in
    let w = c.is_one in
    is_affine c.args.a x.result y.result z.result w.result x.ensures y.ensures z.ensures w.ensures
