-- The states of the welder, and what the rows of vertices show of a point. Definitions only.
use Rattle.std.specs.Prelude.{◌≡◌, Bool, true, false, cond, List, ◌+◌, ◌-◌, ◌<◌, eqb, Float, Option, Some, None}
use Rattle.std.specs.Float.{binary64}
use Rattle.std.specs.Float.Ieee.{of_bits}
use Rattle.math.specs.declared.Vec3.{Vec3}
use Rattle.weld_hash.specs.Hash.{Sought}
use Rattle.mesh_spec.specs.Slices.{vertex_at}
use Rattle.weld_order.specs.declared.Row.{Row}
use Rattle.weld_order.specs.Rows.{among, first_row, next_row}
use Rattle.weld.specs.declared.Welder.{Welder}
use Rattle.weld.specs.Rep.{row_of, InRow, indexed}

-- the state after a point that is not finite
abbrev pub unfinite : Welder → Welder
unfinite w = record {
  base = w.base;
  count = w.count;
  places = w.places;
  faces = w.faces;
  near = w.near;
  finite = false;
  room = w.room;
  ordered = w.ordered;
  rising = w.rising;
}

-- the state after the mesh did not fit
abbrev pub shut : Welder → Welder
shut w = record {
  base = w.base;
  count = w.count;
  places = w.places;
  faces = w.faces;
  near = w.near;
  finite = w.finite;
  room = false;
  ordered = w.ordered;
  rising = w.rising;
}

-- what is seen of p before a search: the row after it where it is new, or none. The first point of a part is new; so is one that cannot be among the vertices
-- that came row by row.
unfoldable pub foreseen : Welder → List Float → Vec3 → Option Row
foreseen w vs p =
    let last = vertex_at vs (w.count - 1) in
    cond (eqb w.base w.count) (Some (first_row p))
    (cond w.ordered (cond (among (row_of w) last p) None (Some (next_row (row_of w) last p)))
    None)

-- p is new: it equals no vertex of this part, none of which is in a chain yet, and r is the row after it
pub record Fresh (w : Welder) (vs : List Float) (p : Vec3) (r : Row) : Type 0 where
  pub missing : Sought vs w.base w.count p None
  pub row : InRow w.base w.count vs p r
  pub loose : indexed w ≡ w.base

-- what the rows show is so: p is new, or, where that is not known, there are vertices to search
abbrev pub Shows : Welder → List Float → Vec3 → Option Row → Type 0
Shows w vs p (Some r) = Fresh w vs p r
Shows w vs p None = w.base < w.count

-- the rows show f of p, and it is so
pub record Foresees (w : Welder) (vs : List Float) (p : Vec3) (f : Option Row) : Type 0 where
  pub answer : f ≡ foreseen w vs p
  pub shows : Shows w vs p f

-- the state after a new vertex, r being the row of the last one where the vertices of this part came row by row
abbrev pub more_at : Welder → Row → Bool → Welder
more_at w r ordered = record {
  base = w.base;
  count = w.count + 1;
  places = w.places;
  faces = w.faces;
  near = r.near;
  finite = w.finite;
  room = w.room;
  ordered = ordered;
  rising = r.rising;
}

-- the row of no vertex
abbrev pub no_row : Row
no_row = record { near = of_bits binary64 0; rising = false }

-- the state after a new vertex of which f was foreseen
abbrev pub more : Welder → Option Row → Welder
more w (Some r) = more_at w r true
more w None = more_at w no_row false

-- the state after a new triangle
abbrev pub more_faces : Welder → Welder
more_faces w = record {
  base = w.base;
  count = w.count;
  places = w.places;
  faces = w.faces + 1;
  near = w.near;
  finite = w.finite;
  room = w.room;
  ordered = w.ordered;
  rising = w.rising;
}

-- the state after all vertices of this part went into the chains
abbrev pub settled : Welder → Welder
settled w = record {
  base = w.base;
  count = w.count;
  places = w.places;
  faces = w.faces;
  near = w.near;
  finite = w.finite;
  room = w.room;
  ordered = false;
  rising = w.rising;
}
