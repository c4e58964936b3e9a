-- Lines of arcs, roots and meshes (docs/SCOPE.md, "Figures"). Definitions only.
use Rattle.std.specs.Prelude.{Bool, cond, List, ◌++◌, ℕ, Result, Float}
use Rattle.std.specs.Float.{binary64}
use Rattle.std.specs.Float.Ieee.{to_bits}
use Rattle.root_case.specs.declared.RootCase.{RootCase}
use Rattle.root_case.specs.declared.RootCase.TheVariants.{Zero, NotFinite, Negative, Subnormal, EvenExponent, OddExponent}
use Rattle.refusal.specs.declared.Refusal.{Refusal}
use Rattle.slice_text.specs.Ascii.{ascii}
use Rattle.slice_text.specs.Numbers.{decimal_of}
use Rattle.figures_text.specs.Counts.{measured_of}
use Rattle.figures_text.specs.Floats.{float_bits_of}
use Rattle.math.specs.declared.BoundingBox.{BoundingBox}
use Rattle.figures_points.specs.Lists.{up_to, point_of, point_at, triangle_at}

-- the segments of an arc at 32 segments a turn, with its span by name
abbrev pub arc_of : List ℕ → ℕ → List ℕ
arc_of name n = ascii "32 segments, span " ++ (name ++ (ascii ": " ++ (decimal_of n ++ ascii "\n")))

-- the name of a case of the root
abbrev pub case_name : RootCase → List ℕ
case_name Zero = ascii "zero"
case_name NotFinite = ascii "not finite"
case_name Negative = ascii "negative"
case_name Subnormal = ascii "subnormal"
case_name EvenExponent = ascii "even exponent"
case_name OddExponent = ascii "odd exponent"

-- a root, with its number by name and that number's case
abbrev pub root_of : List ℕ → RootCase → Float → List ℕ
root_of name k x =
    ascii "root of " ++ (name ++ (ascii ", " ++ (case_name k ++ (ascii ": " ++ (float_bits_of (to_bits binary64 x) ++ ascii "\n")))))

-- whether a mesh is closed
unfoldable pub border_of : Bool → List ℕ
border_of closed = cond closed (ascii ", closed\n") (ascii ", open\n")

-- the area and the signed volume of a mesh
abbrev pub measures_of : Result ℕ Refusal → Result ℕ Refusal → List ℕ
measures_of area volume = ascii "  area " ++ (measured_of area ++ (ascii ", signed volume " ++ (measured_of volume ++ ascii "\n")))

-- the first four vertices and the first two triangles of a mesh
abbrev pub first_of : List Float → List ℕ → List ℕ
first_of v t = ascii "  first vertices" ++ (up_to 4 (point_at v) ++ (ascii "\n  first triangles" ++ (up_to 2 (triangle_at t) ++ ascii "\n")))

-- the box in the record of a mesh, by the name of the mesh
abbrev pub bounds_of : List ℕ → BoundingBox → List ℕ
bounds_of name b = name ++ (ascii "box in the record " ++ (point_of b.min ++ (ascii " to " ++ (point_of b.max ++ ascii "\n"))))
