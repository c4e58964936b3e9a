-- The text on a mesh without a vertex, and on one with the vertex (0,-1,0), by computation. Assumes nothing.
use Rattle.std.specs.Prelude.{◌≡◌, refl, [], ◌∷◌}
use Rattle.std.specs.Float.Ieee.{of_bits, to_bits, neg, add, sub, of_int, lt, eq}
use Rattle.ieee_whole.specs.Whole.{whole_of, ceiling}
use Rattle.mesh_spec.specs.Mesh.{same_point}
use Rattle.weld_vertex.specs.Points.{is_at}
use Rattle.slice_text.specs.Ascii.{ascii}
use Rattle.slice_text.specs.Numbers.{decimal_within}
use Rattle.figures_text.specs.Floats.{is_whole, magnitude_of, float_bits_of}
use Rattle.figures_same.specs.Vertices.{has_vertex}
use Rattle.figures_quarters.specs.Quarters.{zero, one, minus_one, if_vertex, none_of, quarters_of}

no_mesh : quarters_of [] 0 ≡ ascii "vertices at none\n"
unfolding if_vertex none_of has_vertex
no_mesh = refl

minus_y_alone : quarters_of (zero ∷ minus_one ∷ zero ∷ zero ∷ one ∷ zero ∷ []) 1 ≡ ascii "vertices at (0,-1,0)\n"
unfolding if_vertex none_of has_vertex is_at same_point float_bits_of magnitude_of is_whole whole_of ceiling decimal_within lt eq add sub of_int neg to_bits of_bits
minus_y_alone = refl
