-- What one pass over vertices tells. Definitions only.
use Rattle.std.specs.Prelude.{List, Float}
use Rattle.std.specs.Float.Ieee.Scale.{finite}
use Rattle.slice.specs.Every.{every}
use Rattle.mesh_spec.specs.Slices.{points}
use Rattle.mesh_spec.specs.Measures.{box_of}
use Rattle.mesh_box.specs.declared.FiniteBox.{FiniteBox}

-- whether the floats of the vertices are finite, and the vertices' box
unfoldable pub finite_box : List Float → FiniteBox
finite_box vs = record { finite = every finite vs; bounds = box_of (points vs) }
