-- The quad of four points. Definitions only.
use Rattle.mesh_balance_spec.specs.Grid.{quad}
use Rattle.solid_spec.specs.Grid.{Soup}
use Rattle.weld.specs.declared.Four.{Four}

-- its two triangles
abbrev pub quad_of : Four → Soup
quad_of f = quad f.a f.b f.c f.d
