-- The shape of a case and its coordinate systems, by the bytes of its head (tests/README.md, "A case"). Definitions only.
use Rattle.std.specs.Prelude.{cond, List, ℕ, eqb, drop}
use Rattle.replay_format.specs.declared.head.Head.{Head}
use Rattle.slice_byte_lists.specs.Lists.{floats_of}
use Rattle.shape.specs.declared.Shape.{Shape}
use Rattle.shape_fields.specs.Fields as Fields
use Rattle.shape.specs.declared.CoordSystem.{CoordSystem}
use Rattle.shape.specs.declared.CoordSystem.TheVariants.{Cartesian, Cylindrical}
use Rattle.std.specs.Prelude.{None, Option, Some}

-- the default system: 1 is cylindrical
unfoldable pub system_of : ℕ → CoordSystem
system_of x = cond (eqb x 1) Cylindrical Cartesian

-- the own system: 0 is none, 1 Cartesian
unfoldable pub own_system_of : ℕ → Option CoordSystem
own_system_of x = cond (eqb x 0) None (cond (eqb x 1) (Some Cartesian) (Some Cylindrical))

-- the shape of a case: ten numbers from byte 48 on
unfoldable pub shape_in : Head → List ℕ → Shape
shape_in h b = Fields.shape_of h.shape h.norm_dir h.rot_axis_dir (floats_of 10 (drop 48 b))
