-- `weld_hash::find` meets its contract. Assumes nothing.
use borrow.Author.Rules.{rules}
use native.Mathlib.Omega.{arith}
use mathlib.Core.Path.{refl, sym, ap, ◌∙◌}
use Prim.Native.Nat.{◌-◌}
use Rattle.math.specs.declared.Vec3.{Vec3}
use Rattle.mesh_spec.specs.Mesh.{same_point}
use Rattle.weld_hash.proofs.Chains.{Walk, walk_start, walk_next, walk_less, walk_at, walk_end}
use Rattle.weld_hash.proofs.find.Goals as goal

pub loop-k-init : goal.loop-k-init
loop-k-init c =
    let s = c in
    walk_start s.args.vertices.now s.args.places s.args.base s.args.count s.requires.distinct.0 s.args.p s.requires.bucket_value.2 s.args.work.now s.requires.distinct.1
    s.args.bucket _ s.requires.bucket_value.0 s.requires.bucket_value.1 refl

pub returns-then-equal : goal.returns-then-equal
returns-then-equal c =
    let a = c in
    let s = a in
    (walk_at s.args.vertices.now s.args.places s.args.base s.args.count s.requires.distinct.0 s.args.p s.requires.bucket_value.2 a.loop-k.k
    (a.loop-k.k - 1) a.loop-k.invariant (omega arith) c.loop-k-test.true
    (ap (λ (q : Vec3). same_point q s.args.p) (sym c.vertex.ensures) ∙ sym c.equal.ensures ∙ c.if-equal.true))

pub loop-k-smaller : goal.loop-k-smaller
loop-k-smaller c =
    let a = c in
    let s = a in
    walk_less s.args.vertices.now s.args.places s.args.base s.args.count s.requires.distinct.0 s.args.p s.requires.bucket_value.2 s.args.work.now s.requires.distinct.1 a.loop-k.k
    (a.loop-k.k - 1) _ a.loop-k.invariant c.loop-k-test.true (omega arith) refl

pub loop-k-preserved : goal.loop-k-preserved
loop-k-preserved c =
    let a = c in
    let s = a in
    walk_next s.args.vertices.now s.args.places s.args.base s.args.count s.requires.distinct.0 s.args.p s.requires.bucket_value.2 s.args.work.now s.requires.distinct.1 a.loop-k.k
    (a.loop-k.k - 1) _ a.loop-k.invariant c.loop-k-test.true (omega arith)
    (ap (λ (q : Vec3). same_point q s.args.p) (sym c.vertex.ensures) ∙ sym c.equal.ensures ∙ c.if-equal.false)
    refl

pub returns : goal.returns
returns c =
    let s = c in
    (walk_end s.args.vertices.now s.args.places s.args.base s.args.count s.requires.distinct.0 s.args.p s.requires.bucket_value.2
    c.loop-k.k c.loop-k.invariant c.loop-k-test.false)
