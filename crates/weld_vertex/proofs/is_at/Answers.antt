-- `weld_vertex::is_at` meets its contract. Assumes nothing.
use borrow.Author.Rules.{rules}
use native.Mathlib.Omega.{arith}
use mathlib.Core.Path.{sym, ap, ◌∙◌}
use Rattle.math.specs.declared.Vec3.{Vec3}
use Rattle.mesh_spec.specs.Mesh.{same_point}
use Rattle.weld_vertex.proofs.At.{at_before, at_past, at_within}
use Rattle.weld_vertex.proofs.is_at.Goals as goal

pub returns-then-m-base : goal.returns-then-m-base
returns-then-m-base c =
    let s = c.args in
    sym (at_before s.vertices.now s.base s.count s.p s.m c.if-m-base.true)

pub returns-then-count-m : goal.returns-then-count-m
returns-then-count-m c =
    let s = c.args in
    sym (at_past s.vertices.now s.base s.count s.p s.m c.if-m-base.false c.if-count-m.true)

pub returns : goal.returns
returns c =
    let s = c.args in
    let q = ap (λ (q : Vec3). same_point q s.p) c.vertex.ensures in
    c.equal.ensures ∙ q ∙ sym (at_within s.vertices.now s.base s.count s.p s.m (omega (arith, c.if-m-base.false)) (omega (arith, c.if-count-m.false)))
