-- `figures_points::put_triangles` meets its contract. Assumes nothing.
use Rattle.slice_text.specs.Line.{line, Puts}
use Rattle.figures_points.specs.Lists.{up_to, triangle_at}
use Rattle.figures_points.proofs.put_triangles.Given as goal

abbrev pub invariant-loop-i : goal.invariant-loop-i
invariant-loop-i l = Puts (up_to l.i (triangle_at l.t)) (line l.initial.out l.at) (line l.out l.to)
