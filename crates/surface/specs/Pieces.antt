-- Parts of the definitions of `solid_spec`, for the functions that compute them: each is a subterm of the definition that its comment names. Definitions only.
use Rattle.std.specs.Prelude.{List, ℕ, ◌%◌, Float}
use Rattle.trig_spec.specs.declared.SinCos.{SinCos}
use Rattle.trig_spec.specs.Trig.{sin_cos}
use Rattle.math.specs.declared.Vec3.{Vec3}
use Rattle.outline.specs.Corners.{point}
use Rattle.surface_spec.specs.declared.Line.{Line}
use Rattle.surface_spec.specs.declared.Chart.{Chart}
use Rattle.surface_spec.specs.Faces.{face_point}
use Rattle.solid_spec.specs.Outline.{plane_point, spun, height}
use Rattle.surface_spec.specs.Surface.{mapped, line_at}
use Rattle.surface.specs.declared.point.Polar.{Polar}

-- what `cylindrical_to_cartesian` and `around_axis` take from the point of a face on axis k
unfoldable pub polar_on : ℕ → Float → Line → Line → ℕ → ℕ → Polar
polar_on k val u v i j =
    let p = face_point k val (line_at u i) (line_at v j) in
    record { t = sin_cos p.y; x = p.x; z = p.z }

-- the cases of `surface_at`, the last with the sine and cosine t of its angle
unfoldable pub on_face : Chart → ℕ → Float → Line → Line → ℕ → ℕ → Vec3
on_face chart k val u v i j = mapped chart (face_point k val (line_at u i) (line_at v j))

unfoldable pub on_extruded : List Float → ℕ → ℕ → Float → Float → ℕ → ℕ → Vec3
on_extruded p n len lo hi i j = plane_point n (point p (i % len)) (height lo hi j)

unfoldable pub on_rotated : List Float → ℕ → ℕ → ℕ → SinCos → ℕ → Vec3
on_rotated p a q len t i = spun a q (point p (i % len)) t
