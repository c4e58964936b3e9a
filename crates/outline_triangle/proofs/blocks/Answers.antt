-- `outline_triangle::blocks` meets its contract. Assumes nothing.
use Rattle.std.proofs.Common.{sym, ◌∙◌}
use Rattle.std.proofs.lemmas.Bool.{false≢true}
use Rattle.outline_triangle.proofs.Laws.{blocks_outside, blocks_named, blocks_touched}
use Rattle.outline_triangle.proofs.blocks.Goals as goal
use Rattle.outline_triangle.proofs.blocks.Goals.{then-in_triangle, else-in_triangle}

pub returns-then-not-names : goal.returns-then-not-names
returns-then-not-names c =
    let a = c.args in
    elim c.if-in_triangle.branch [
      | then-in_triangle w ↦ blocks_touched a.v.now a.eps a.t a.o c.point_of-p.ensures c.in_triangle.ensures w.names.ensures c.touches.ensures
          w.if-in_triangle.true (sym w.value-is ∙ c.if-not-names.true)
      | else-in_triangle w ↦ absurd (false≢true (sym w.if-in_triangle.false ∙ (sym w.value-is ∙ c.if-not-names.true)))
    ]

pub returns-else-not-names : goal.returns-else-not-names
returns-else-not-names c =
    let a = c.args in
    elim c.if-in_triangle.branch [
      | then-in_triangle w ↦ c.if-not-names.false
          ∙ blocks_named a.v.now a.eps a.t a.o c.point_of-p.ensures c.in_triangle.ensures w.names.ensures (sym w.value-is ∙ c.if-not-names.false)
      | else-in_triangle w ↦ c.if-not-names.false
          ∙ blocks_outside a.v.now a.eps a.t a.o c.point_of-p.ensures c.in_triangle.ensures w.if-in_triangle.false
    ]
