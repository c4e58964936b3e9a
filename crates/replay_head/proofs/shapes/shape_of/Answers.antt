-- `replay_head::shapes::shape_of` meets its contract. Assumes nothing.
use borrow.Author.Rules.{rules}
use mathlib.Core.Path.{ap, ◌∙◌}
use mathlib.Core.List.{List}
use Prim.Native.Nat.{ℕ, ◌-◌}
use native.Mathlib.Omega.{arith}
use lib.ListN.{length, drop, length-drop}
use lib.Seq.{take_all}
use lib.Ieee.{Float}
use Rattle.slice_byte_lists.specs.Lists.{floats_of}
use Rattle.shape_fields.specs.Fields as Fields
use Rattle.replay_head.specs.Shapes.{shape_in}
use Rattle.replay_head.proofs.shapes.shape_of.Goals as goal

pub returns : goal.returns
unfolding shape_in
returns c =
    let s = c.args in
    let rest = drop 48 s.head.now in
    c.shape_of.ensures
    ∙ ap (λ (n : List Float). Fields.shape_of s.h.shape s.h.norm_dir s.h.rot_axis_dir n)
    (c.get_floats.ensures ∙ ap (λ (l : List ℕ). floats_of 10 l) (take_all (length s.head.now - 48) rest (simp length-drop (omega arith))))
