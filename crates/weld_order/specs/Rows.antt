-- Points that came row by row: where they lie, seen from the last of them. Definitions only.
use Rattle.std.specs.Prelude.{◌≡◌, Bool, true, false, not, ◌&&◌, ◌||◌, cond}
use Rattle.std.specs.Float.Ieee.{lt, le, eq}
use Rattle.math.specs.declared.Vec3.{Vec3}
use Rattle.weld_vertex.specs.Points.{Clean}
use Rattle.weld_order.specs.declared.Row.{Row}

-- where the points of the last point's row lie
unfoldable pub beside : Row → Vec3 → Vec3 → Bool
beside r v q = cond r.rising (le r.near q.y || le q.x v.x) (le v.x q.x && le r.near q.y)

-- where all points so far lie, v being the last: q may be among them where it lies above v's row, or beside it
unfoldable pub among : Row → Vec3 → Vec3 → Bool
unfolding beside
among r v q = lt v.z q.z || (eq v.z q.z && beside r v q)

-- the row of a single point
abbrev pub first_row : Vec3 → Row
first_row p = record { near = p.y; rising = false }

-- the row after p, which is none of the points so far: lower, a new row; left of the last point, the same row; on the other side, a rising one
unfoldable pub next_row : Row → Vec3 → Vec3 → Row
next_row r v p = cond (eq v.z p.z) (record { near = r.near; rising = not (le r.near p.y) }) (first_row p)

-- s is the row after p: with p as the last point, p itself and all points that may be among those so far still may
pub record Follows (r : Row) (v p : Vec3) (s : Row) : Type 0 where
  pub has : among s p p ≡ true
  pub keeps : (q : Vec3) → Clean q → among r v q ≡ true → among s p q ≡ true
