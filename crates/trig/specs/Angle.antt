-- Degrees and radians: docs/SCOPE.md, "Degrees and radians".
use Rattle.std.specs.Prelude.{Float}
use Rattle.std.specs.Float.{binary64}
use Rattle.std.specs.Float.Ieee.{mul, of_bits}
use Rattle.trig.specs.declared.Degrees.{Degrees}
use Rattle.trig.specs.declared.Radians.{Radians}

-- the float PI / 180, by its bits
unfoldable pub per_degree : Float
per_degree = of_bits binary64 0x3F91DF46A2529D39

-- `f64::to_radians`
unfoldable pub to_radians : Degrees → Radians
to_radians d = record { 0 = mul binary64 d.0 per_degree }
