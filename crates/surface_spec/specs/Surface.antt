-- The surfaces that the Rust's closures describe, by cases: the point of a surface at the grid indices i and j. Definitions only.
use Rattle.std.specs.Prelude.{List, Bool, ℕ, ◌%◌, Float}
use Rattle.trig_spec.specs.Trig.{sin_cos}
use Rattle.math.specs.declared.Vec3.{Vec3}
use Rattle.math.specs.Vec.{axis}
use Rattle.outline.specs.Corners.{point}
use Rattle.surface_spec.specs.declared.Line.{Line}
use Rattle.surface_spec.specs.declared.Chart.{Chart}
use Rattle.surface_spec.specs.declared.Chart.TheVariants.{Cartesian, Cylindrical, Around}
use Rattle.surface_spec.specs.declared.Surface.{Surface}
use Rattle.surface_spec.specs.declared.Surface.TheVariants.{Face, Sphere, Extruded, Rotated}
use Rattle.solid_spec.specs.ParamBox.{coord}
use Rattle.solid_spec.specs.Coords.{cylindrical_to_cartesian}
use Rattle.solid_spec.specs.Cylinder.{around_axis}
use Rattle.solid_spec.specs.Sphere.{sphere_point}
use Rattle.solid_spec.specs.Boxes.{as_is}
use Rattle.solid_spec.specs.Outline.{plane_point, height, angle, spun}
use Rattle.surface_spec.specs.Faces.{face_point}

-- the maps that are handed to `Soup::param_box`
unfoldable pub mapped : Chart → Vec3 → Vec3
mapped Cartesian = as_is
mapped Cylindrical = cylindrical_to_cartesian
mapped (Around a d e1 e2) = around_axis a d e1 e2

-- `coord` of an axis, at its grid line i
abbrev pub line_at : Line → ℕ → Float
line_at l i = coord l.lo l.hi l.n l.periodic i

-- the point (i, j), for the corners p of an outline, which go round by `i % len`
unfoldable pub surface_at : List Float → Surface → ℕ → ℕ → Vec3
surface_at p (Face chart k val u v) i j = mapped chart (face_point k val (line_at u i) (line_at v j))
surface_at p (Sphere c r nt np) i j = sphere_point c r nt np i j
surface_at p (Extruded n len lo hi) i j = plane_point n (point p (i % len)) (height lo hi j)
surface_at p (Rotated a q len full start span n) i j = spun a q (point p (i % len)) (sin_cos (angle full start span n j))

-- the axis k of a parameter box
abbrev pub line_of : Vec3 → Vec3 → (ℕ → ℕ) → (ℕ → Bool) → ℕ → Line
line_of lo hi divs periodic k = record { lo = axis lo k; hi = axis hi k; n = divs k; periodic = periodic k }
