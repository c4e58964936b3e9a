-- `mesh_sums::volume_sum` meets its contract: what is left is added to the sum so far. Assumes nothing.
use mathlib.Core.Path.{refl}
use lib.Ieee.{binary64, of_bits}
use Rattle.mesh_spec.specs.Measures.{sum_of, volume_term}
use Rattle.mesh_triples.specs.Triples.{corners_at, corners_of}
use Rattle.mesh_sums.proofs.Terms.{corners_within, next_corners, length_corners, sum_turn, sum_ended}
use native.Mathlib.Omega.{arith}
use Rattle.mesh_sums.proofs.volume_sum.Goals as goal

pub loop-i-init : goal.loop-i-init
loop-i-init c = (omega arith, refl)

pub volume_term-sum-requires : goal.volume_term-sum-requires
volume_term-sum-requires c =
    let a = c.args in
    corners_within a.vertices.now a.triangles.now a.k c.loop-i.i c.requires (omega arith)

pub loop-i-preserved : goal.loop-i-preserved
loop-i-preserved c =
    let l = c.loop-i in
    let a = c.args in
    let v = a.vertices.now in
    let t = a.triangles.now in
    let n = next_corners v t a.k l.i (omega arith) c.requires.triangles in (
      omega arith,
      sum_turn volume_term (corners_of v t a.k) l.i (corners_at v t l.i) l.sum c.volume_term-sum.result
          (sum_of volume_term (of_bits binary64 0) (corners_of v t a.k)) n c.volume_term-sum.ensures l.invariant.1,
    )

pub returns : goal.returns
returns c =
    let l = c.loop-i in
    let a = c.args in
    let v = a.vertices.now in
    let t = a.triangles.now in
    sum_ended volume_term (corners_of v t a.k) l.i l.sum (sum_of volume_term (of_bits binary64 0) (corners_of v t a.k))
    (omega (arith, length_corners v t a.k c.requires.triangles)) l.invariant.1
