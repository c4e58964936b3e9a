-- `mesh_sums::volume_sum` meets its contract: what is left is added to the sum so far. Assumes nothing.
use mathlib.Core.Path.{◌≡◌}
use Prim.Native.Nat.{◌≤◌}
use lib.ListN.{drop}
use lib.Ieee.{binary64, of_bits}
use Rattle.mesh_spec.specs.Measures.{sum_of, volume_term}
use Rattle.mesh_triples.specs.Triples.{corners_of}
use Rattle.mesh_sums.proofs.volume_sum.Given as goal

abbrev pub invariant-loop-i : goal.invariant-loop-i
invariant-loop-i l = (l.i ≤ l.k) × (sum_of volume_term l.sum (drop l.i (corners_of l.vertices l.triangles l.k)) ≡ sum_of volume_term (of_bits binary64 0)
    (corners_of l.vertices l.triangles l.k))
