-- What is drawn, before the counts (docs/SCOPE.md, "Figures"). Definitions only.
use Rattle.std.specs.Prelude.{List, ◌++◌, ℕ, Float}
use Rattle.std.specs.Float.{binary64}
use Rattle.std.specs.Float.Ieee.{to_bits}
use Rattle.math.specs.declared.Vec3.{Vec3}
use Rattle.slice_text.specs.Ascii.{ascii}
use Rattle.slice_text.specs.Numbers.{decimal_of}
use Rattle.figures_text.specs.Floats.{float_bits_of}
use Rattle.figures_points.specs.Lists.{point_of}

-- a box from the origin
abbrev pub box_of : Vec3 → List ℕ
box_of stop = ascii "box (0,0,0) to " ++ (point_of stop ++ ascii ": ")

-- the segments and rings of a sphere
abbrev pub fineness_of : ℕ → ℕ → List ℕ
fineness_of segments rings = ascii ", " ++ (decimal_of segments ++ (ascii " segments, " ++ (decimal_of rings ++ ascii " rings: ")))

-- a sphere, with its radius by name
abbrev pub sphere_of : Vec3 → List ℕ → ℕ → ℕ → List ℕ
sphere_of center name segments rings = ascii "sphere at " ++ (point_of center ++ (ascii ", r = " ++ (name ++ fineness_of segments rings)))

-- a cylinder along z from the origin, of length 1
abbrev pub cylinder_of : Float → ℕ → List ℕ
cylinder_of radius segments =
    ascii "cylinder (0,0,0) to (0,0,1), r = " ++ (float_bits_of (to_bits binary64 radius) ++ (ascii ", " ++ (decimal_of segments ++ ascii " segments: ")))

-- a cylindrical shell of 3 segments
abbrev pub shell_of : Float → List ℕ
shell_of width = ascii "shell (0,0,0) to (0,0,1), r = 1, width " ++ (float_bits_of (to_bits binary64 width) ++ ascii ", 3 segments: ")

-- a turned box, with its angle by name
abbrev pub turned_box_of : List ℕ → List ℕ
turned_box_of name = ascii "box (0,0,0) to (1,2,3) turned about z by " ++ (name ++ ascii ": ")
