-- The text of points, corners and triangles. Definitions only.
use Rattle.std.specs.Prelude.{cond, List, [], ◌++◌, ℕ, zero, suc, ◌+◌, ◌*◌, ◌/◌, eqb, leb, length, get_or, Float}
use Rattle.std.specs.Float.{binary64, nan}
use Rattle.std.specs.Float.Ieee.{to_bits}
use Rattle.math.specs.declared.Vec3.{Vec3}
use Rattle.slice_text.specs.Ascii.{ascii}
use Rattle.slice_text.specs.Numbers.{decimal_of}
use Rattle.figures_text.specs.Floats.{float_bits_of}

-- the texts of the first n items, one after the other
unfoldable pub up_to : ℕ → (ℕ → List ℕ) → List ℕ
up_to zero f = []
up_to (suc n) f = up_to n f ++ f n

-- a float after a comma
abbrev pub next_of : Float → List ℕ
next_of x = ascii "," ++ float_bits_of (to_bits binary64 x)

-- a point, as (1,2,3)
abbrev pub point_of : Vec3 → List ℕ
point_of p = ascii "(" ++ (float_bits_of (to_bits binary64 p.x) ++ (next_of p.y ++ (next_of p.z ++ ascii ")")))

-- point i of a list that has three floats a point, after a blank; nothing where there is none
unfoldable pub point_at : List Float → ℕ → List ℕ
point_at v i =
    cond (leb (length v / 3) i) []
    (ascii " " ++ point_of (record { x = get_or v (3 * i) nan; y = get_or v (3 * i + 1) nan; z = get_or v (3 * i + 2) nan }))

-- a corner after a blank, as (1,2)
abbrev pub corner_of : Float → Float → List ℕ
corner_of x y = ascii " (" ++ (float_bits_of (to_bits binary64 x) ++ (next_of y ++ ascii ")"))

-- corner i of a list that has two floats a corner; nothing where there is none
unfoldable pub corner_at : List Float → ℕ → List ℕ
corner_at v i = cond (leb (length v / 2) i) [] (corner_of (get_or v (2 * i) nan) (get_or v (2 * i + 1) nan))

-- a number after a blank
abbrev pub number_after_blank : ℕ → List ℕ
number_after_blank n = ascii " " ++ decimal_of n

-- the three numbers of a triangle, each after a blank
abbrev pub triangle_of : ℕ → ℕ → ℕ → List ℕ
triangle_of a b c = number_after_blank a ++ (number_after_blank b ++ number_after_blank c)

-- triangle i of a list that has three numbers a triangle, after a comma where it is not the first; nothing where there is none
unfoldable pub triangle_at : List ℕ → ℕ → List ℕ
triangle_at t i =
    cond (leb (length t / 3) i) []
    (cond (eqb i 0) (triangle_of (get_or t (3 * i) 0) (get_or t (3 * i + 1) 0) (get_or t (3 * i + 2) 0))
    (ascii "," ++ triangle_of (get_or t (3 * i) 0) (get_or t (3 * i + 1) 0) (get_or t (3 * i + 2) 0)))
