-- `weld_triangle::steps::put` meets its contract: a triangle among the whole places of the slice fits. Assumes nothing.
use borrow.Author.Rules.{rules}
use native.Mathlib.Omega.{arith}
use lib.ListN.{length-set}
use Rattle.weld.proofs.Places.{places_fit, places_limit}
use Rattle.weld_triangle.proofs.steps.put.Goals as goal

pub overflow_mul-at : goal.overflow_mul-at
overflow_mul-at c = omega (arith, places_limit c.args.triangles.now, c.requires.0)

pub offset_bounds-triangles-at : goal.offset_bounds-triangles-at
offset_bounds-triangles-at c = omega (arith, places_limit c.args.triangles.now, c.requires.0)

pub bounds-triangles-at : goal.bounds-triangles-at
bounds-triangles-at c = omega (arith, places_fit c.args.triangles.now, c.requires.0)

pub overflow_add-triangles : goal.overflow_add-triangles
overflow_add-triangles c = omega (arith, places_limit c.args.triangles.now, c.requires.0)

pub offset_bounds-triangles-at-2 : goal.offset_bounds-triangles-at-2
offset_bounds-triangles-at-2 c = omega (arith, places_limit c.args.triangles.now, c.requires.0)

pub bounds-triangles-at-2 : goal.bounds-triangles-at-2
bounds-triangles-at-2 c = simp length-set (omega (arith, places_fit c.args.triangles.now, c.requires.0))

pub overflow_add-triangles-2 : goal.overflow_add-triangles-2
overflow_add-triangles-2 c = omega (arith, places_limit c.args.triangles.now, c.requires.0)

pub offset_bounds-triangles-at-3 : goal.offset_bounds-triangles-at-3
offset_bounds-triangles-at-3 c = omega (arith, places_limit c.args.triangles.now, c.requires.0)

pub bounds-triangles-at-3 : goal.bounds-triangles-at-3
bounds-triangles-at-3 c = simp length-set (omega (arith, places_fit c.args.triangles.now, c.requires.0))
