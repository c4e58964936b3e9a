-- `replay_head::asked::allowed` meets its contract. Assumes nothing.
use mathlib.Core.Path.{refl, ap}
use mathlib.Core.Bool.{Bool, ◌&&◌}
use Prim.Native.Nat.{ℕ}
use lib.Dec.{leb}
use borrow.Author.Tests.{ne_eqb}
use Rattle.replay_head.specs.Asked.{allowed_of_call}
use Rattle.slice_law.specs.Arms.{of_kind}
use Rattle.replay_head.proofs.asked.allowed.Goals as goal

pub mesh_allowed-requires : goal.mesh_allowed-requires
mesh_allowed-requires c = tt

pub mesh_allowed-requires-in-8 : goal.mesh_allowed-requires-in-8
mesh_allowed-requires-in-8 c = tt

pub returns-in-1 : goal.returns-in-1
unfolding allowed_of_call
returns-in-1 c =
    let h = c.args.h in
    of_kind (λ (k : ℕ). allowed_of_call k h) 1 c.in-1.is (ap (λ (r : Bool). r && leb h.work_numbers 131072) c.mesh_allowed.ensures)

pub returns-in-2 : goal.returns-in-2
unfolding allowed_of_call
returns-in-2 c = of_kind (λ (k : ℕ). allowed_of_call k c.args.h) 2 c.in-2.is refl

pub returns-in-8 : goal.returns-in-8
unfolding allowed_of_call
returns-in-8 c = of_kind (λ (k : ℕ). allowed_of_call k c.args.h) 8 c.in-8.is c.mesh_allowed-in-8.ensures

pub returns-in_default : goal.returns-in_default
unfolding allowed_of_call
returns-in_default c =
    let n = c.in_default.in_default-own.rest in
    let k = c.args.h.what in
    simp (ne_eqb k 1 n.0.0.1, ne_eqb k 2 n.0.1, ne_eqb k 8 n.1)
