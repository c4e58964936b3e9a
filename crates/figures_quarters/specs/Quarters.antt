-- Which of the four points of the unit circle on the axes x and y are vertices of a mesh. Definitions only.
use Rattle.std.specs.Prelude.{Bool, ◌||◌, cond, List, [], ◌++◌, ℕ, Float}
use Rattle.std.specs.Float.{binary64}
use Rattle.std.specs.Float.Ieee.{of_bits, neg}
use Rattle.math.specs.declared.Vec3.{Vec3}
use Rattle.slice_text.specs.Ascii.{ascii}
use Rattle.figures_same.specs.Vertices.{has_vertex}
use Rattle.figures_points.specs.Lists.{point_of}

-- 0.0
abbrev pub zero : Float
zero = of_bits binary64 0

-- 1.0
abbrev pub one : Float
one = of_bits binary64 0x3FF0000000000000

-- -1.0
abbrev pub minus_one : Float
minus_one = neg one

-- a point at height 0
abbrev pub flat : Float → Float → Vec3
flat x y = record { x = x; y = y; z = zero }

-- a point at height 0 after a blank where it is one of the first n vertices; else nothing
unfoldable pub if_vertex : List Float → ℕ → Float → Float → List ℕ
if_vertex v n x y = cond (has_vertex v n (flat x y)) (ascii " " ++ point_of (flat x y)) []

-- one of the four points is one of the first n vertices
abbrev pub has_quarter : List Float → ℕ → Bool
has_quarter v n =
    (has_vertex v n (flat one zero) || has_vertex v n (flat minus_one zero)) || (has_vertex v n (flat zero one) || has_vertex v n (flat zero minus_one))

-- a word where none of them is; else nothing
unfoldable pub none_of : List Float → ℕ → List ℕ
none_of v n = cond (has_quarter v n) [] (ascii " none")

-- those of the four points that are vertices, in the order of their angles, to the end of the line
abbrev pub quarters_of : List Float → ℕ → List ℕ
quarters_of v n =
    ascii "vertices at"
    ++ (if_vertex v n one zero
    ++ (if_vertex v n zero one
    ++ (if_vertex v n minus_one zero
    ++ (if_vertex v n zero minus_one
    ++ (none_of v n
    ++ ascii "\n")))))
