-- The words of demand 3 (docs/SCOPE.md, "Words of demand 3"), of the outcomes of `tessellate`. Definitions only.
-- `Closed`, with `NoneTwice` and `AllThere`, of a mesh is in crate mesh_spec, specs/Closed.antt; the lists of calls in crate mesh_edit_law, specs/Lists.antt.
use Rattle.std.specs.Prelude.{◌≡◌, ◌⊎◌, true, false, List, ℕ, ◌+◌, ◌-◌, ◌*◌, ◌/◌, ◌<◌, T, length, Float}
use Rattle.std.specs.Float.{binary64}
use Rattle.std.specs.Float.Ieee.{sub, eq, fits}
use Rattle.ieee.specs.Number.{plus_zero, absolute, maximum}
use Rattle.math.specs.declared.Vec3.{Vec3}
use Rattle.refusal.specs.Answer.{Accepted}
use Rattle.outline.specs.Clean.{clean_polygon}
use Rattle.outline.specs.Ccw.{ccw_polygon}
use Rattle.mesh_spec.specs.Mesh.{Mesh}
use Rattle.shape_arc.specs.Arc.{is_full}
use Rattle.mesh_spec.specs.Slices.{vertex_at}
use Rattle.solid_spec.specs.Cylinder.{inner_radius, outer_radius}
use Rattle.solid_spec.specs.Polygons.{cap_triangles, low_end, high_end, radial_corners}
use Rattle.shape.specs.declared.Shape.{Shape}
use Rattle.shape.specs.declared.Shape.TheVariants.{Box, MultiBox, Sphere, SphericalShell, Cylinder, CylindricalShell, Polygon, LinPoly, RotPoly, Wire}
use Rattle.mesh_check.specs.State.{State, mesh_of}
use Rattle.mesh_made.specs.Made.{Lent}
use Rattle.tessellate_spec.specs.Outcome.{Job, tessellate_of}
use Rattle.solid_spec.specs.Fits.{FitsV, FitsAll}

-- ---- accepted, and the mesh

-- `tessellate` returned no refusal
abbrev pub Accepts : Job → Lent → Type 0
Accepts j n = (tessellate_of j n).refusal ≡ Accepted

-- the record and the two mesh slices as the call leaves them, which is how `append`, `flip` and `transform` take them
abbrev pub left : Job → Lent → State
left j n = (tessellate_of j n).state

-- the mesh in them: the counted vertices and triangles
abbrev pub given : Job → Lent → Mesh
given j n = mesh_of (left j n)

-- ---- the floats of a program

-- the floats of a solid whose form the proof uses are floats of binary64, as every f64 is; the type `Float` has others too
abbrev pub FitsSolid : Shape → List Float → Type 0
FitsSolid (Box start stop) v = FitsV start × FitsV stop
FitsSolid MultiBox v = FitsAll v
FitsSolid (Sphere center radius) v = FitsV center
FitsSolid (SphericalShell center radius width) v = FitsV center
FitsSolid (Wire radius) v = FitsAll v
FitsSolid (Cylinder start stop radius) v = Unit
FitsSolid (CylindricalShell start stop radius width) v = Unit
FitsSolid (Polygon normal elevation) v = Unit
FitsSolid (LinPoly normal elevation length) v = Unit
FitsSolid (RotPoly normal elevation axis start stop) v = Unit

-- ---- the conditions

-- they differ as floats: -0.0 equals 0.0
abbrev pub Unequal : Float → Float → Type 0
Unequal x y = eq x y ≡ false

-- three unequal pairs of bounds, as given
pub record UnequalBounds (a b : Vec3) : Type 0 where
  pub x : Unequal a.x b.x
  pub y : Unequal a.y b.y
  pub z : Unequal a.z b.z

-- box i of a multi-box's list is its points 2 i and 2 i + 1
abbrev pub EachUnequal : List Float → Type 0
EachUnequal v = (i : ℕ) → i < length v / 6 → UnequalBounds (vertex_at v (2 * i)) (vertex_at v (2 * i + 1))

-- the inner radius of a shell after clamping, `(r - w).max(0.0)` with w half the width, and the outer one, `r + w`
abbrev pub UnequalRadii : Float → Float → Type 0
UnequalRadii radius width = Unequal (outer_radius radius width) (maximum (inner_radius radius width) plus_zero)

-- the two heights at which an extruded outline's caps are put, `e.min(e + l)` and `e.max(e + l)`
abbrev pub UnequalEnds : Float → Float → Type 0
UnequalEnds elevation length = Unequal (high_end elevation length) (low_end elevation length)

-- a rotated outline makes a full turn: its computed span, `(stop - start).abs()`, is at least TAU - 1e-12
abbrev pub FullTurn : Float → Float → Type 0
FullTurn start stop = is_full (absolute (sub binary64 stop start)) ≡ true

-- n, where clean_polygon leaves n corners of v, two floats each
abbrev pub cleaned : List Float → ℕ
cleaned v = length (clean_polygon v) / 2

-- n - 2 cap triangles, where `clean_polygon` leaves n of the corners v: those that `triangulate_polygon` gives for the corners of `ccw_polygon`.
-- Below three corners there are no cap triangles and n - 2 is 0, also for n of 0 and 1: nothing is drawn of such an outline
abbrev pub Capped : List Float → Type 0
Capped v = length (cap_triangles (ccw_polygon v)) ≡ cleaned v - 2

-- the solids of demand 3, with what it asks of each. A polygon is a sheet and not in its list
abbrev pub Solid : Shape → List Float → Type 0
Solid (Sphere center radius) v = Unit
Solid (SphericalShell center radius width) v = Unit
Solid (Cylinder start stop radius) v = Unit
Solid (Wire radius) v = Unit
Solid (Box start stop) v = UnequalBounds start stop
Solid MultiBox v = EachUnequal v
Solid (CylindricalShell start stop radius width) v = UnequalRadii radius width
Solid (LinPoly normal elevation length) v = UnequalEnds elevation length × Capped v
Solid (RotPoly normal elevation axis start stop) v = FullTurn start stop ⊎ Capped (radial_corners axis normal v)
Solid (Polygon normal elevation) v = ⊥
