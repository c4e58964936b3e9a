-- `slice::all_pass` meets its contract: ok and what is left to test decide as the whole does. Assumes nothing.
use Rattle.std.proofs.Common.{◌≡◌, Bool, ◌&&◌, drop}
use Rattle.slice.specs.Every.{every}
use Rattle.slice.proofs.all_pass.Given as goal

abbrev pub invariant-loop-x : goal.invariant-loop-x
invariant-loop-x g l =
    (k : g.row.T.Denot → Bool) → ((x : g.row.T.Denot) (b : Bool) → goal.F-post g l.test x b → b ≡ k x)
    → (l.ok && every k (drop l.x-index l.s)) ≡ every k l.s
