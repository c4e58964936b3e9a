-- A part of a definition of `solid_spec`, for the function that computes it: a subterm of the definition that its comment names. Definitions only.
use Rattle.std.specs.Prelude.{ℕ}
use Rattle.trig_spec.specs.declared.SinCos.{SinCos}
use Rattle.math.specs.declared.Vec3.{Vec3}
use Rattle.math.specs.Vec.{unit, v_add, v_mul, cross}

-- `Vec3::unit(q) * cs + w * sn` of `spun`
unfoldable pub radial : ℕ → ℕ → SinCos → Vec3
radial a q t = v_add (v_mul (unit q) t.cos) (v_mul (cross (unit a) (unit q)) t.sin)
