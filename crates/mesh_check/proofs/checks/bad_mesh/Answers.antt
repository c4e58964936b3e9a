-- `mesh_check::checks::bad_mesh` meets its contract: the three tests in their order. Assumes nothing.
use Prim.Native.Nat.{◌≤◌}
use lib.ListN.{length}
use Rattle.slice.specs.Every.{counted_places}
use Rattle.mesh_check.specs.State.{state}
use Rattle.mesh_check.proofs.Sound.{bad_vertices, bad_triangles, bad_numbers, places_three, places_limit}
use native.Mathlib.Omega.{arith}
use Rattle.mesh_check.proofs.checks.bad_mesh.Goals as goal

pub returns-then-counted_places-n : goal.returns-then-counted_places-n
returns-then-counted_places-n c =
    let a = c.args in
    bad_vertices (state a.mesh a.vertices.now a.triangles.now) (omega arith)

pub returns-then-counted_places-k : goal.returns-then-counted_places-k
returns-then-counted_places-k c =
    let a = c.args in
    bad_triangles (state a.mesh a.vertices.now a.triangles.now) (omega arith)

pub overflow_mul-k : goal.overflow_mul-k
overflow_mul-k c =
    let a = c.args in
    let h : a.mesh.triangles ≤ counted_places (length a.triangles.now) = omega arith in
    omega (arith, places_three a.mesh.triangles (length a.triangles.now) h)

pub overflow_cast-n : goal.overflow_cast-n
overflow_cast-n c =
    let a = c.args in
    let h : a.mesh.vertices ≤ counted_places (length a.vertices.now) = omega arith in
    omega (arith, places_limit a.mesh.vertices (length a.vertices.now) h)

pub all_below-requires : goal.all_below-requires
all_below-requires c =
    let a = c.args in
    let h : a.mesh.triangles ≤ counted_places (length a.triangles.now) = omega arith in
    omega (arith, places_three a.mesh.triangles (length a.triangles.now) h)

pub returns : goal.returns
returns c =
    let a = c.args in
    bad_numbers (state a.mesh a.vertices.now a.triangles.now) c.all_below.result (omega arith) (omega arith) c.all_below.ensures
