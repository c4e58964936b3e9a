-- `mesh_move_affine::all_finite_by` meets its contract: ok and what is left to test decide as the whole does. Assumes nothing.
use mathlib.Core.Path.{◌≡◌, refl, ap, subst, ◌∙◌}
use native.Mathlib.Omega.{arith}
use Rattle.math.specs.declared.Vec3.{Vec3}
use Rattle.math.specs.Vec.{v_finite}
use Rattle.mesh_triples.proofs.PointLoops.{testing_turn, testing_end}
use Rattle.mesh_move_affine.proofs.all_finite_by.Goals as goal

pub loop-i-init : goal.loop-i-init
loop-i-init g c f h = (omega arith, refl)

pub loop-i-preserved : goal.loop-i-preserved
loop-i-preserved g c f h =
    let a = c.args in
    let l = c.loop-i in
    let q = c.value.result in
    let e = h l.i (omega arith) q (subst (λ (x : Vec3). goal.F-post g a.value x q) c.vertex.ensures c.value.ensures) in
    testing_turn f a.vertices.now a.n (omega arith) l.ok c.is_finite-ok.result l.i (omega arith) (c.is_finite-ok.ensures ∙ ap v_finite e) (l.invariant f h)

pub returns : goal.returns
returns g c f h =
    let a = c.args in
    let l = c.loop-i in
    testing_end f a.vertices.now a.n (omega arith) l.ok l.i (omega arith) (l.invariant f h)
