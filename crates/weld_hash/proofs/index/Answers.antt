-- `weld_hash::index` meets its contract: each turn puts one vertex at the head of its bucket. Assumes nothing.
use borrow.Author.Rules.{rules}
use mathlib.Core.Path.{◌≡◌, refl, sym, ap, ◌∙◌, subst}
use native.Mathlib.Omega.{arith}
use Prim.Native.Nat.{ℕ, ◌-◌, ◌≤◌}
use lib.ListN.{length, length-set}
use Rattle.weld_vertex.specs.Points.{Clean}
use Rattle.weld_bucket.specs.Bucket.{bucket_of}
use Rattle.weld_hash.specs.Hash.{Indexed}
use Rattle.weld_hash.proofs.Chains.{chained_next, indexed_next}
use Rattle.weld_hash.proofs.index.Goals as goal

pub loop-m-init : goal.loop-m-init
loop-m-init c = let s = c in (omega arith, s.requires.0.based, refl, record { chained = s.requires.2; beyond = refl })

pub vertex-requires : goal.vertex-requires
vertex-requires c = let s = c in omega (arith, s.requires.0.room, s.requires.0.fits, c.loop-m-test.true)

pub bucket_of-requires : goal.bucket_of-requires
bucket_of-requires c =
    let s = c in
    let t = c.loop-m-test.true in
    (s.requires.1, subst Clean (sym c.vertex.ensures) (s.requires.0.clean _ t))

pub link-requires : goal.link-requires
link-requires c =
    let s = c in
    let l = c.loop-m-test.true in
    (c.loop-m.invariant.3.chained.links, omega (arith, s.requires.0.fits, l), c.bucket_of.ensures.1 (omega (arith, s.requires.0.fits, l)), s.requires.1)

pub loop-m-preserved : goal.loop-m-preserved
loop-m-preserved c =
    let s = c in
    let i = c.loop-m.invariant in
    let t = c.loop-m-test.true in
    let b = c.bucket_of in
    let l = b.ensures.1 (omega (arith, s.requires.0.fits, t)) in (
      omega (arith, i.0),
      omega (arith, t),
      c.link.auto.work ∙ i.2,
      indexed_next b.result i.3 (omega (arith, s.requires.0.fits, t)) l c.link.ensures
          (chained_next s.args.vertices.now _ s.args.places s.args.base c.loop-m.m i.3.chained (omega (arith, s.requires.0.fits, t)) b.result
          (b.ensures.0 ∙ ap (bucket_of s.args.places) c.vertex.ensures) l),
    )

pub shape_of-work : goal.shape_of-work
shape_of-work c = c.loop-m.invariant.2

pub returns : goal.returns
returns c =
    let s = c in
    let m = c.loop-m.m in
    subst (λ (n : ℕ). Indexed s.args.vertices.now s.args.work.now s.args.places s.args.base n c.loop-m.work) (omega (arith, c.loop-m.invariant.1, c.loop-m-test.false)) c.loop-m.invariant.3
