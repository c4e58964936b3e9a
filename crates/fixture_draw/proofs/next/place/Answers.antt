-- `fixture_draw::next::place` meets its contract. Assumes nothing.
use mathlib.Core.Path.{sym}
use Prim.Native.Nat.{◌*◌}
use lib.Seq.{length-take-le}
use Rattle.fixture_draw.proofs.next.place.Goals as goal

pub slice_bounds-add-end : goal.slice_bounds-add-end
slice_bounds-add-end c =
    let s = c in
    sym (length-take-le (3 * s.args.mesh.vertices) s.args.vertices.now s.requires.vertices)

pub slice_bounds-add-end-2 : goal.slice_bounds-add-end-2
slice_bounds-add-end-2 c =
    let s = c in
    sym (length-take-le (3 * s.args.mesh.triangles) s.args.triangles.now s.requires.triangles)
