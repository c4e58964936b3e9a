-- `mesh_move_affine::move_by` meets its contract: the vertices before i are replaced, and their box is gathered. Assumes nothing.
use mathlib.Core.Path.{◌≡◌, refl, sym, ap, subst, ◌∙◌}
use lib.ListN.{length, length-set}
use native.Mathlib.Omega.{arith}
use Rattle.math.specs.declared.Vec3.{Vec3}
use Rattle.math_box.specs.NoNan.{NoNan}
use Rattle.math_box.specs.NoNanLaws.{empty_no_nan, include_no_nan}
use Rattle.mesh_move_affine.proofs.Gathering.{unmoved, gathering_start, gathering_turn, gathering_end}
use Rattle.mesh_move_affine.proofs.move_by.Goals as goal

pub loop-i-init : goal.loop-i-init
loop-i-init g c =
    let a = c.args in
    let b = c.empty_box-b in
    (refl, subst NoNan (sym b.ensures) empty_no_nan, λ m h. gathering_start m a.vertices.now a.n b.result b.ensures)

pub loop-i-preserved : goal.loop-i-preserved
loop-i-preserved g c =
    let a = c.args in
    let l = c.loop-i in
    let k = l.invariant in
    let p = c.value-p.result in (
      ap length c.put_vertex.ensures ∙ simp length-set k.0,
      subst NoNan (sym c.include-b.ensures) (include_no_nan l.b p k.1),
      λ m h.
          let t = k.2 m h in
          let v = c.vertex-v.ensures ∙ unmoved m a.vertices.now l.i l.vertices (omega arith) t.moved.2 in
          let e = h l.i (omega arith) p (subst (λ (x : Vec3). goal.F-post g a.value x p) v c.value-p.ensures) in
          gathering_turn m a.vertices.now a.n (omega arith) l.vertices c.put_vertex.new.vertices p l.b c.include-b.result l.i
          (omega arith) e c.put_vertex.ensures c.include-b.ensures t,
    )

pub include-b-requires : goal.include-b-requires
include-b-requires g c = c.loop-i.invariant.1

pub returns : goal.returns
returns g c m h =
    let a = c.args in
    let l = c.loop-i in
    gathering_end m a.vertices.now a.n (omega arith) l.vertices l.b c.plus_zero.result l.i (omega arith) c.plus_zero.ensures (l.invariant.2 m h)
