-- `mesh_write::turn_all` meets its contract: the triangles before i are turned. Assumes nothing.
use mathlib.Core.Path.{refl, ap, ◌∙◌}
use Prim.Native.Nat.{◌+◌}
use lib.ListN.{length}
use Rattle.mesh_balance_spec.specs.Soup.{flip_tri}
use Rattle.mesh_triples.proofs.Each.{each_none, length_each, each_turn, each_end}
use native.Mathlib.Omega.{arith}
use Rattle.mesh_write.proofs.turn_all.Goals as goal

pub loop-i-init : goal.loop-i-init
loop-i-init c = (omega arith, refl, each_none flip_tri c.args.triangles.now)

pub turn-requires : goal.turn-requires
turn-requires c = omega arith

pub loop-i-preserved : goal.loop-i-preserved
loop-i-preserved c =
    let l = c.loop-i in
    let a = c.args in
    let e = each_turn flip_tri a.triangles.now l.i 0 l.triangles c.turn.new.triangles (omega arith) l.invariant.2 c.turn.ensures in
    (omega arith, ap length e ∙ length_each flip_tri a.triangles.now (l.i + 1) (omega arith), e)

pub shape_of-triangles : goal.shape_of-triangles
shape_of-triangles c = c.loop-i.invariant.1

pub returns : goal.returns
returns c =
    let l = c.loop-i in
    let a = c.args in
    each_end flip_tri a.triangles.now l.i a.count l.triangles (omega arith) l.invariant.2
