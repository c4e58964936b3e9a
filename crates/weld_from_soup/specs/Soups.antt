-- A soup in a lent slice, nine floats a triangle, and what welding it answers. Definitions only.
use Rattle.std.specs.Prelude.{Bool, not, cond, List, [], ◌∷◌, ℕ, ◌+◌, ◌*◌, ◌/◌, ◌%◌, length, eqb, Float}
use Rattle.math.specs.declared.Vec3.{Vec3}
use Rattle.refusal.specs.Answer.{Answer, BadList, ShortWork}
use Rattle.mesh_balance_spec.specs.Soup.{Tri}
use Rattle.mesh_balance_spec.specs.Grid.{upto}
use Rattle.mesh_spec.specs.Mesh.{from_soup}
use Rattle.mesh_spec.specs.Parts.{Soup}
use Rattle.mesh_made.specs.Made.{Lent, short_work, Ending, made_as}
use Rattle.mesh_made.specs.Steps.{parts_refusal}
use Rattle.mesh_spec.specs.Slices.{vertex_at}

-- triangle i of the slice
abbrev pub triangle_at : List Float → ℕ → Tri Vec3
triangle_at l i = (vertex_at l (3 * i), vertex_at l (3 * i + 1), vertex_at l (3 * i + 2))

-- the first n triangles, in their order
abbrev pub first_of : List Float → ℕ → Soup
first_of l n = upto n (λ i. triangle_at l i ∷ [])

-- the soup of a slice: nine floats a triangle
abbrev pub soup_of : List Float → Soup
soup_of l = first_of l (length l / 9)

-- 4: the slice has floats beyond whole triangles
unfoldable pub broken_soup : List Float → Bool
broken_soup l = not (eqb (length l % 9) 0)

-- the first refusal that is due: 6, then 4, then 5 and 7, the soup being one part
unfoldable pub soup_refusal : List Float → Lent → Answer
soup_refusal l n =
    cond (short_work n.vertices n.work) ShortWork
    (cond (broken_soup l) BadList
    (parts_refusal (soup_of l ∷ []) n))

-- from_soup, with slices of the lengths n
unfoldable pub from_soup_of : List Float → Lent → Ending
from_soup_of l n = made_as (soup_refusal l n) (from_soup (soup_of l)) n
