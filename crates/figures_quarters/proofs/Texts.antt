-- The text on each point, and on none, from what is put in that case. Assumes nothing.
use mathlib.Core.Path.{◌≡◌, sym, ◌∙◌}
use mathlib.Core.Bool.{Bool, true, false, ◌||◌}
use mathlib.Core.List.{List, ◌++◌}
use Prim.Native.Nat.{ℕ}
use lib.Ieee.{Float}
use Rattle.slice_text.specs.Ascii.{ascii}
use Rattle.slice_text.specs.Line.{Line, Puts}
use Rattle.slice_text.specs.LineLaws.{no_text, then}
use Rattle.figures_same.specs.Vertices.{has_vertex}
use Rattle.figures_points.specs.Lists.{point_of}
use Rattle.figures_quarters.specs.Quarters.{zero, one, minus_one, flat, if_vertex, has_quarter, none_of, quarters_of}

module _ (v : List Float) (n : ℕ) where
  -- whether the point is a vertex is known as b
  module _ (x y : Float) {b : Bool} (is : b ≡ has_vertex v n (flat x y)) where
    pub vertex_text : {l m : Line} → b ≡ true → Puts (ascii " " ++ point_of (flat x y)) l m → Puts (if_vertex v n x y) l m
    unfolding if_vertex
    vertex_text e t = rw (sym is ∙ e) t

    pub no_vertex_text : b ≡ false → (l : Line) → Puts (if_vertex v n x y) l l
    unfolding if_vertex
    no_vertex_text e l = rw (sym is ∙ e) (no_text l)

  -- what is known of the four points, in the order in which the code asks
  module _ {e w u d : Bool} (at_x : e ≡ has_vertex v n (flat one zero)) (at-minus-x : w ≡ has_vertex v n (flat minus_one zero))
      (at_y : u ≡ has_vertex v n (flat zero one)) (at-minus-y : d ≡ has_vertex v n (flat zero minus_one)) where
    any_quarter : has_quarter v n ≡ ((e || w) || (u || d))
    any_quarter = rw (at_x, at-minus-x, at_y, at-minus-y)

    pub some_text : ((e || w) || (u || d)) ≡ true → (l : Line) → Puts (none_of v n) l l
    unfolding none_of
    some_text q l = rw (any_quarter ∙ q) (no_text l)

    pub none_text : {l m : Line} → ((e || w) || (u || d)) ≡ false → Puts (ascii " none") l m → Puts (none_of v n) l m
    unfolding none_of
    none_text q t = rw (any_quarter ∙ q) t

  -- the parts of the line, one after the other
  pub quarters_text : {a b c d e f g h : Line} → Puts (ascii "vertices at") a b
      → Puts (if_vertex v n one zero) b c → Puts (if_vertex v n zero one) c d → Puts (if_vertex v n minus_one zero) d e → Puts (if_vertex v n zero minus_one) e f
      → Puts (none_of v n) f g → Puts (ascii "\n") g h → Puts (quarters_of v n) a h
  quarters_text begin at_x at_y at-minus-x at-minus-y word end = then begin (then at_x (then at_y (then at-minus-x (then at-minus-y (then word end)))))
