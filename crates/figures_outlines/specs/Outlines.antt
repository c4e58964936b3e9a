-- Lines of outlines (docs/SCOPE.md, "Figures"). Definitions only.
use Rattle.std.specs.Prelude.{cond, List, ◌++◌, ℕ, ◌/◌, eqb, length, Float}
use Rattle.slice_text.specs.Ascii.{ascii}
use Rattle.slice_text.specs.Numbers.{decimal_of}
use Rattle.figures_points.specs.Lists.{up_to, corner_at, triangle_at}

-- the corners of an outline, two floats each
abbrev pub corners_of : List Float → List ℕ
corners_of v = ascii "corners" ++ up_to (length v / 2) (corner_at v)

-- an outline, and the first n corners of another
abbrev pub cleaned_of : List Float → List Float → ℕ → List ℕ
cleaned_of v w n = corners_of v ++ (ascii " clean to " ++ (decimal_of n ++ (ascii ":" ++ (up_to n (corner_at w) ++ ascii "\n"))))

-- how many triangles a clipping gave and how many corners it removed
abbrev pub removed_of : ℕ → ℕ → List ℕ
removed_of n removed = ascii ": " ++ (decimal_of n ++ (ascii " triangles, " ++ (decimal_of removed ++ ascii " removed")))

-- the first n triangles after a colon, and nothing where there are none; then the end of the line
unfoldable pub triangles_of : List ℕ → ℕ → List ℕ
triangles_of t n = cond (eqb n 0) (ascii "\n") (ascii ":" ++ (up_to n (triangle_at t) ++ ascii "\n"))

-- an outline, and the n triangles that clipping gives of it
abbrev pub clipped_of : List Float → List ℕ → ℕ → ℕ → List ℕ
clipped_of v t n removed = corners_of v ++ (removed_of n removed ++ triangles_of t n)
