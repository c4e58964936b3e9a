-- `weld_hash::index` meets its contract: each turn puts one vertex at the head of its bucket. Assumes nothing.
use borrow.Author.Rules.{rules}
use mathlib.Core.Path.{◌≡◌, refl, sym, ap, ◌∙◌, subst}
use native.Mathlib.Omega.{arith}
use Prim.Native.Nat.{ℕ, ◌≤◌}
use lib.ListN.{length, length-set}
use Rattle.weld_vertex.specs.Points.{Clean}
use Rattle.weld_bucket.specs.Bucket.{bucket_of}
use Rattle.weld_hash.specs.Hash.{Indexed}
use Rattle.weld_hash.proofs.Chains.{chained_next, indexed_next}
use Rattle.weld_hash.proofs.index.Given as goal

abbrev pub invariant-loop-m : goal.invariant-loop-m
invariant-loop-m l = (l.base ≤ l.m) × (l.m ≤ l.count) × (length l.work ≡ length l.initial.work) × Indexed l.vertices l.initial.work l.places l.base l.m l.work
