-- `surface_quad::flat::face` meets its contract. Assumes nothing.
use Rattle.surface_quad.proofs.OneQuad.{face_is}
use borrow.Author.Rules.{rules}
use Rattle.surface_quad.proofs.flat.face.Goals as goal

pub returns : goal.returns
returns c = face_is _ _ _ _ _ _ _ _ _ _ _ _ _ _ c.requires c.in_order.ensures c.face_point.ensures c.face_point-2.ensures c.face_point-3.ensures c.face_point-4.ensures c.end_of-val.ensures c.first_line-a.ensures c.first_line-b.ensures c.axis-c.ensures c.axis-d.ensures
