-- A cell of `Soup::grid` of src/tessellate.rs of which two points are known. Definitions only.
use Rattle.std.specs.Prelude.{ℕ}
use Rattle.math.specs.declared.Vec3.{Vec3}
use Rattle.weld.specs.declared.Welding.{Welding}
use Rattle.weld.specs.declared.Four.{Four}
use Rattle.weld.specs.declared.FourNumbers.{FourNumbers}
use Rattle.weld.specs.Rep.{Held}
use Rattle.weld.specs.Welding.{SameSlices, held_by}
use Rattle.weld_quad.specs.Quads.{Given, CornersRun}

-- a quad's points, or their numbers, with the second and the fourth exchanged
abbrev pub turned : Four → Four
turned p = record { a = p.a; b = p.d; c = p.c; d = p.b }

abbrev pub exchanged : FourNumbers → FourNumbers
exchanged n = record { a = n.a; b = n.d; c = n.c; d = n.b }

-- the triangles a, b, c and a, c, d were welded, of which a and d had the numbers na and nd
abbrev pub SideRuns : Vec3 → Vec3 → ℕ → ℕ → Held → Held → FourNumbers → Type 0
SideRuns b c na nd h k n =
    (a d : Vec3) → Given h.st h.vertices a na → Given h.st h.vertices d nd → CornersRun (record { a = a; b = b; c = c; d = d }) h k n

-- the same for the triangles a, d, c and a, c, b
abbrev pub TurnedSideRuns : Vec3 → Vec3 → ℕ → ℕ → Held → Held → FourNumbers → Type 0
TurnedSideRuns b c na nd h k n =
    (a d : Vec3) → Given h.st h.vertices a na → Given h.st h.vertices d nd
    → CornersRun (record { a = a; b = d; c = c; d = b }) h k (exchanged n)

-- the same, in the same slices
pub record WeldsSide (b c : Vec3) (na nd : ℕ) (w r : Welding) (n : FourNumbers) : Type 0 where
  pub same : SameSlices w r
  pub runs : SideRuns b c na nd (held_by w) (held_by r) n

pub record WeldsTurnedSide (b c : Vec3) (na nd : ℕ) (w r : Welding) (n : FourNumbers) : Type 0 where
  pub same : SameSlices w r
  pub runs : TurnedSideRuns b c na nd (held_by w) (held_by r) n
