-- `cylindrical_to_cartesian` of src/coords.rs and `CoordSystem::to_cartesian`. A coordinate system is a Bool: true is cylindrical. Definitions only.
use Rattle.std.specs.Prelude.{Bool, cond}
use Rattle.std.specs.Float.{binary64}
use Rattle.std.specs.Float.Ieee.{mul}
use Rattle.trig_spec.specs.Trig.{sin_cos}
use Rattle.math.specs.declared.Vec3.{Vec3}
use Rattle.math.specs.Vec.{new}

-- `cylindrical_to_cartesian`: (ρ, α, z) to (ρ cos α, ρ sin α, z)
unfoldable pub cylindrical_to_cartesian : Vec3 → Vec3
cylindrical_to_cartesian p =
    let t = sin_cos p.y in
    new (mul binary64 p.x t.cos) (mul binary64 p.x t.sin) p.z

-- `CoordSystem::to_cartesian`, by which `Shape::to_cartesian` converts the points of spheres, cylinders, shells and wires
unfoldable pub to_cartesian : Bool → Vec3 → Vec3
to_cartesian cylindrical p = cond cylindrical (cylindrical_to_cartesian p) p
