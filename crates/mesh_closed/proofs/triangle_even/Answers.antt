-- `mesh_closed::triangle_even` meets its contract. Assumes nothing.
use mathlib.Core.Bool.{◌&&◌}
use Rattle.mesh_closed.specs.Even.{even_triangle}
use Rattle.mesh_closed.proofs.triangle_even.Goals as goal

pub returns : goal.returns
unfolding even_triangle
returns c = λ j. c.even.ensures j && c.even-2.ensures j && c.even-3.ensures j
