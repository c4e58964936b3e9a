-- `mesh_made::judge` meets its contract: a case for each way through. Assumes nothing.
use Rattle.std.specs.Prelude.{Ok}
use mathlib.Core.Path.{ap, ◌∙◌}
use Rattle.math.specs.declared.BoundingBox.{BoundingBox}
use Rattle.mesh_check.specs.State.{record_of}
use Rattle.mesh_made.proofs.Judging.{judged_infinite, judged_full, judged_made}
use Rattle.mesh_made.proofs.judge.Goals as goal

pub returns-then-not-w : goal.returns-then-not-w
returns-then-not-w c = judged_infinite c.args.w c.args.vertices.now c.if-not-w.true

pub returns-then-not-w-2 : goal.returns-then-not-w-2
returns-then-not-w-2 c = judged_full c.args.w c.args.vertices.now c.if-not-w.false c.if-not-w-2.true

pub returns : goal.returns
returns c =
    let a = c.args in
    ap Ok (c.record_of.ensures ∙ ap (λ (b : BoundingBox). record_of a.w.count a.w.faces b) c.box_of-bounds.ensures)
    ∙ judged_made a.w a.vertices.now c.if-not-w.false c.if-not-w-2.false
