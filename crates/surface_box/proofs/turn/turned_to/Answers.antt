-- `surface_box::turn::turned_to` meets its contract. Assumes nothing.
use Rattle.surface_box.proofs.Choices.{turned_full, turned_part}
use Rattle.surface_box.proofs.turn.turned_to.Goals as goal

pub returns-then-full : goal.returns-then-full
returns-then-full c = turned_full _ _ _ c.if-full.true

pub returns-else-full : goal.returns-else-full
returns-else-full c = turned_part _ _ _ c.if-full.false
