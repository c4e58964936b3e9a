-- The case of a head's bytes. Definitions only.
use Rattle.std.specs.Prelude.{List, ℕ}
use Rattle.replay_format.specs.Layout.{head_of}
use Rattle.replay_head.specs.declared.case.Case.{Case}
use Rattle.replay_head.specs.Shapes.{shape_in}

-- its head and its shape
abbrev pub case_of : List ℕ → Case
case_of b = record { head = head_of b; shape = shape_in (head_of b) b }
