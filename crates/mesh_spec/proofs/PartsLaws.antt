-- A soup, and the parts of a mesh that are welded each by itself. Definitions, and their laws for lists that are joined. Assumes nothing.
use Rattle.std.proofs.Common.{[]}
use Rattle.std.specs.Prelude.{◌≡◌, ◌&&◌, List, ◌∷◌, ◌++◌}
use Rattle.std.proofs.Common.{◌∙◌}
use Rattle.mesh_spec.specs.Mesh.{Mesh, no_mesh, append, from_soup, append_parts, from_parts}
use Rattle.mesh_spec.specs.Closed.{all_of, AllThere}
use Rattle.mesh_spec.proofs.ProperLawsHeld.{append_all_there}
use Rattle.mesh_spec.specs.WeldLaws.{none_append}
use Rattle.mesh_spec.proofs.WeldedLaws.{from_soup_proper}
use Rattle.mesh_spec.specs.Parts.{Soup}

-- one part: `s.finish()`, the same as appending it to nothing
pub from_parts_one : (s : Soup) → from_parts (s ∷ []) ≡ from_soup s
unfolding from_parts append_parts
from_parts_one s = none_append (from_soup s)

-- the triangles of a mesh of parts name vertices that are there
parts_there : (m : Mesh) (parts : List Soup) → AllThere m → AllThere (append_parts m parts)
unfolding append_parts
parts_there m [] h = h
parts_there m (p ∷ ps) h = parts_there (append m (from_soup p)) ps (append_all_there m (from_soup p) h (from_soup_proper p).all_there)

pub from_parts_there : (parts : List Soup) → AllThere (from_parts parts)
unfolding from_parts all_of
from_parts_there parts = parts_there no_mesh parts tt
