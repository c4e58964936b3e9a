-- The text of each case, from what is put in that case. Assumes nothing.
use mathlib.Core.Path.{◌≡◌}
use mathlib.Core.Bool.{true, false}
use mathlib.Core.List.{List, ◌++◌}
use Prim.Native.Nat.{ℕ}
use lib.Dec.{eqb}
use Rattle.slice_text.specs.Ascii.{ascii}
use Rattle.slice_text.specs.Line.{Line, Puts}
use Rattle.figures_points.specs.Lists.{up_to, triangle_at}
use Rattle.figures_outlines.specs.Outlines.{triangles_of}

pub none_text : (t : List ℕ) (n : ℕ) {l m : Line} → eqb n 0 ≡ true → Puts (ascii "\n") l m → Puts (triangles_of t n) l m
unfolding triangles_of
none_text t n e p = rw e p

pub given_text : (t : List ℕ) (n : ℕ) {l m : Line} → eqb n 0 ≡ false → Puts (ascii ":" ++ (up_to n (triangle_at t) ++ ascii "\n")) l m
    → Puts (triangles_of t n) l m
unfolding triangles_of
given_text t n e p = rw e p
