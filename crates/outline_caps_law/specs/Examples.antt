-- docs/SCOPE.md's figures on clipping, by computation. Assumes nothing.
use Rattle.std.specs.Prelude.{◌≡◌, refl, false, [], ◌∷◌, pos, Float}
use Rattle.std.specs.Float.{fin}
use Rattle.std.specs.Float.Ieee.{sub, mul, neg, add, sum, round, size, span, climb, units, odd, lt, le, eq, is_nan, of_bits, of_fields}
use Rattle.std.specs.Int.Count.{count_trailing_zeros}
use Rattle.ieee.specs.Number.{absolute, maximum}
use Rattle.outline.specs.Corners.{point, same}
use Rattle.outline_triangle.specs.Triangle.{cross, largest, scale, tolerance, in_triangle, blocks}
use Rattle.outline_ears.specs.Ears.{any, blocked, ip, inx, triangle_at, cross_at, is_ear, is_flat, counting, find}
use Rattle.outline_ears.specs.Ears.{first_ear, first_flat}
use Rattle.outline_remaining.specs.Without.{without}
use Rattle.outline_triangulate.specs.Triangulate.{clipped, dropped, fans, fan, fanned, by_found, pass, passes, finished, start, triangulated}
use Rattle.outline_triangulate.specs.Triangulate.{triangulate_polygon}

abbrev n0 : Float
n0 = fin false 0 (pos 0)

abbrev n1 : Float
n1 = fin false 1 (pos 0)

abbrev n2 : Float
n2 = fin false 1 (pos 1)

abbrev n3 : Float
n3 = fin false 3 (pos 0)

-- docs/SCOPE.md, F4: the square
pub square : triangulate_polygon (n0 ∷ n0 ∷ n1 ∷ n0 ∷ n1 ∷ n1 ∷ n0 ∷ n1 ∷ []) ≡ record { idx = []; triangles = 3 ∷ 0 ∷ 1 ∷ 1 ∷ 2 ∷ 3 ∷ []; removed = 1 }
unfolding triangulate_polygon triangulated passes finished start pass by_found fanned dropped clipped without first_ear first_flat is_ear is_flat triangle_at cross_at
    blocked blocks point same eq in_triangle cross tolerance scale maximum absolute largest is_nan any find counting ip inx fan fans sub mul neg add sum round
    size span climb units odd lt le of_bits of_fields count_trailing_zeros
square = refl

-- docs/SCOPE.md, F5: corners on a line
pub line : triangulate_polygon (n0 ∷ n0 ∷ n1 ∷ n0 ∷ n2 ∷ n0 ∷ n3 ∷ n0 ∷ []) ≡ record { idx = 1 ∷ 2 ∷ 3 ∷ []; triangles = []; removed = 1 }
unfolding triangulate_polygon triangulated passes finished start pass by_found fanned dropped clipped without first_ear first_flat is_ear is_flat triangle_at cross_at
    blocked blocks point same eq in_triangle cross tolerance scale maximum absolute largest is_nan any find counting ip inx fan fans sub mul neg add sum round
    size span climb units odd lt le of_bits of_fields count_trailing_zeros
line = refl

-- docs/SCOPE.md, F5: any two corners
pub two : (a b c d : Float) → triangulate_polygon (a ∷ b ∷ c ∷ d ∷ []) ≡ record { idx = []; triangles = []; removed = 0 }
unfolding triangulate_polygon triangulated
two a b c d = refl
