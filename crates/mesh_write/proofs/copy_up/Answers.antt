-- `mesh_write::copy_up` meets its contract. Assumes nothing.
use mathlib.Core.Path.{refl, ap, ◌∙◌}
use mathlib.Core.List.{map}
use Prim.Native.Nat.{ℕ, ◌+◌}
use lib.ListN.{length, length-map}
use lib.Seq.{paste-zero, length-paste}
use Rattle.mesh_write.proofs.Copies.{paste_map_turn, paste_end}
use native.Mathlib.Omega.{arith}
use Rattle.mesh_write.proofs.copy_up.Goals as goal

pub loop-i-init : goal.loop-i-init
loop-i-init c =
    let a = c.args in
    (omega arith, refl, paste-zero a.out.now a.at (map (λ (j : ℕ). j + a.n) a.from.now))

pub overflow_add-out : goal.overflow_add-out
overflow_add-out c = omega (arith, c.requires.2 c.loop-i.i (omega arith))

pub loop-i-preserved : goal.loop-i-preserved
loop-i-preserved c =
    let l = c.loop-i in
    let a = c.args in
    let f : ℕ → ℕ = λ j. j + a.n in
    let e = paste_map_turn f a.out.now a.at a.from.now l.i 0 0 l.out (omega arith) (omega arith) l.invariant.2 in
    (omega arith, ap length e ∙ length-paste a.out.now a.at (map f a.from.now) (l.i + 1) (omega arith) (omega (arith, length-map a.from.now f)), e)

pub shape_of-out : goal.shape_of-out
shape_of-out c = c.loop-i.invariant.1

pub returns : goal.returns
returns c =
    let l = c.loop-i in
    let a = c.args in
    paste_end a.out.now a.at (map (λ (j : ℕ). j + a.n) a.from.now) l.i a.count l.out (omega arith) l.invariant.2
