-- The cases of `Within`, `Tabled` and `surface_at` at a surface of which the variant is known, and that smaller indices are within. Assumes nothing.
use mathlib.Core.Path.{◌≡◌, refl, sym, ap, ◌∙◌, subst}
use mathlib.Core.Bool.{Bool}
use mathlib.Core.List.{List}
use Prim.Native.Nat.{ℕ, zero, suc, ◌+◌, ◌*◌, ◌%◌, ◌≤◌, ◌<◌}
use native.Mathlib.Nat.{mod-lt}
use native.Mathlib.Omega.{arith}
use lib.Ieee.{Float}
use Rattle.trig_spec.specs.declared.SinCos.{SinCos}
use Rattle.trig_spec.specs.Trig.{sin_cos}
use Rattle.math.specs.declared.Vec3.{Vec3}
use Rattle.surface_spec.specs.declared.Line.{Line}
use Rattle.surface_spec.specs.declared.Chart.{Chart}
use Rattle.surface_spec.specs.declared.Chart.TheVariants.{Cartesian, Cylindrical, Around}
use Rattle.surface_spec.specs.declared.Surface.{Surface}
use Rattle.surface_spec.specs.declared.Surface.TheVariants.{Face, Sphere, Extruded, Rotated}
use Rattle.surface_spec.specs.Faces.{face_point}
use Rattle.solid_spec.specs.Coords.{cylindrical_to_cartesian}
use Rattle.solid_spec.specs.Cylinder.{around_axis}
use Rattle.solid_spec.specs.Sphere.{sphere_point, on_sphere}
use Rattle.surface_spec.specs.Surface.{mapped, line_at, surface_at}
use Rattle.surface.specs.declared.point.Polar.{Polar}
use Rattle.surface.specs.declared.turns.Turns.{Turns}
use Rattle.surface.specs.declared.turns.Turns.TheVariants.{Latitudes, Longitudes, OnLine, Angles}
use Rattle.surface_coords.specs.Pieces.{in_frame, cylindrical_by, around_axis_by}
use Rattle.surface.specs.Pieces.{polar_on, on_face, on_extruded, on_rotated}
use Rattle.surface.specs.Within.{FaceWithin, SphereWithin, ExtrudedWithin, RotatedWithin, Within}
use Rattle.surface.specs.Turns.{turn_at, entry, Filled, RoundTabled, Tabled}
use Rattle.surface_axis.proofs.Cases.{face_0, face_1, face_2}
use Rattle.surface.proofs.Tables.{turn_latitude, turn_longitude, turn_on_line, turn_angle, filled_less}

-- the last entry of a table
pub last_entry : {t : Turns} {n : ℕ} {tab : List SinCos} → Filled t n tab → entry tab n ≡ turn_at t n
last_entry {n = n} w = w.holds n (omega arith)

-- on_face, at a chart that is known
module _ (h : Chart) (k : ℕ) (val : Float) (u v : Line) (i j : ℕ) where
  pub face_plain : (r : Vec3) → h ≡ Cartesian → r ≡ face_point k val (line_at u i) (line_at v j) → r ≡ on_face h k val u v i j
  unfolding on_face mapped
  face_plain r e x = x ∙ ap (λ (t : Chart). on_face t k val u v i j) (sym e)

  pub face_cylindrical : (p : Polar) (r : Vec3) → h ≡ Cylindrical → p ≡ polar_on k val u v i j → r ≡ cylindrical_by p.t p.x p.z → r ≡ on_face h k val u v i j
  unfolding on_face mapped cylindrical_to_cartesian cylindrical_by polar_on
  face_cylindrical p r e q x = x ∙ ap (λ (y : Polar). cylindrical_by y.t y.x y.z) q ∙ ap (λ (t : Chart). on_face t k val u v i j) (sym e)

  pub face_around : (a d e1 e2 : Vec3) (p : Polar) (r : Vec3) → h ≡ Around a d e1 e2 → p ≡ polar_on k val u v i j → r ≡ around_axis_by a d e1 e2 p.t p.x p.z → r ≡ on_face h k val u v i j
  unfolding on_face mapped around_axis around_axis_by in_frame polar_on
  face_around a d e1 e2 p r e q x =
      x ∙ ap (λ (y : Polar). around_axis_by a d e1 e2 y.t y.x y.z) q ∙ ap (λ (t : Chart). on_face t k val u v i j) (sym e)

  pub chart_tabled : (g : Chart) (rows cols : List SinCos) → h ≡ g → Tabled (Face h k val u v) rows cols i j → Tabled (Face g k val u v) rows cols i j
  chart_tabled g rows cols e w = subst (λ (t : Chart). Tabled (Face t k val u v) rows cols i j) e w

-- RoundTabled, by the axis
module _ (k : ℕ) (u v : Line) (rows cols : List SinCos) (i j : ℕ) where
  pub round_rows : k ≡ 0 → RoundTabled k u v rows cols i j → Filled (OnLine u) i rows
  round_rows e w = subst (λ (n : ℕ). RoundTabled n u v rows cols i j) e w

  pub round_cols : k < 3 → (k ≡ 0 → ⊥) → (k ≡ 1 → ⊥) → RoundTabled k u v rows cols i j → Filled (OnLine v) j cols
  round_cols l p q w = let e : k ≡ 2 = omega (arith, p, q) in subst (λ (n : ℕ). RoundTabled n u v rows cols i j) e w

-- polar_on, by the axis
module _ (k : ℕ) (val : Float) (u v : Line) (i j : ℕ) where
  -- the fields of polar_on, of any point
  abbrev polar : Vec3 → Polar
  polar p = record { t = sin_cos p.y; x = p.x; z = p.z }

  pub polar_0 : (rows : List SinCos) (t : SinCos) (z : Float) → k ≡ 0 → Filled (OnLine u) i rows → t ≡ entry rows i → z ≡ line_at v j →
      record { t = t; x = val; z = z } ≡ polar_on k val u v i j
  unfolding polar_on
  polar_0 rows t z e w a b =
      (λ n. record { t = (a ∙ last_entry w ∙ sym (turn_on_line u i)) n; x = val; z = b n }) ∙ ap polar (face_0 k val (line_at u i) (line_at v j) e)

  pub polar_1 : (t : SinCos) (x z : Float) → k ≡ 1 → t ≡ sin_cos val → x ≡ line_at v j → z ≡ line_at u i → record { t = t; x = x; z = z } ≡ polar_on k val u v i j
  unfolding polar_on
  polar_1 t x z e a b c = (λ n. record { t = a n; x = b n; z = c n }) ∙ ap polar (face_1 k val (line_at u i) (line_at v j) e)

  pub polar_2 : (cols : List SinCos) (t : SinCos) (x : Float) → k < 3 → (k ≡ 0 → ⊥) → (k ≡ 1 → ⊥) → Filled (OnLine v) j cols → t ≡ entry cols j → x ≡ line_at u i →
      record { t = t; x = x; z = val } ≡ polar_on k val u v i j
  unfolding polar_on
  polar_2 cols t x l p q w a b =
      (λ n. record { t = (a ∙ last_entry w ∙ sym (turn_on_line v j)) n; x = b n; z = val }) ∙ ap polar (face_2 k val (line_at u i) (line_at v j) l p q)

-- surface_at
module _ (p : List Float) (s t : Surface) (i j : ℕ) where
  pub within_as : s ≡ t → Within p s i j → Within p t i j
  within_as e w = subst (λ (x : Surface). Within p x i j) e w

  pub point_as : (r : Vec3) → s ≡ t → r ≡ surface_at p t i j → r ≡ surface_at p s i j
  point_as r e x = x ∙ ap (λ (y : Surface). surface_at p y i j) (sym e)

pub tabled_as : (s t : Surface) (rows cols : List SinCos) (i j : ℕ) → s ≡ t → Tabled s rows cols i j → Tabled t rows cols i j
tabled_as s t rows cols i j e w = subst (λ (x : Surface). Tabled x rows cols i j) e w

pub on_face_lem : (p : List Float) (chart : Chart) (k : ℕ) (val : Float) (u v : Line) (i j : ℕ) → on_face chart k val u v i j ≡ surface_at p (Face chart k val u v) i j
unfolding on_face surface_at
on_face_lem p chart k val u v i j = refl

pub on_sphere_lem : (p : List Float) (rows cols : List SinCos) (c : Vec3) (r : Float) (nt np i j : ℕ) (v : Vec3) (t q : SinCos) → Tabled (Sphere c r nt np) rows cols i j →
    t ≡ entry rows i → q ≡ entry cols j → v ≡ on_sphere c r t q → v ≡ surface_at p (Sphere c r nt np) i j
unfolding surface_at sphere_point
on_sphere_lem p rows cols c r nt np i j v t q w a b x =
    x
    ∙ (λ n. on_sphere c r ((a ∙ last_entry w.0 ∙ sym (turn_latitude nt i)) n) ((b ∙ last_entry w.1 ∙ sym (turn_longitude np j)) n))

pub on_extruded_lem : (p : List Float) (n len : ℕ) (lo hi : Float) (i j : ℕ) → on_extruded p n len lo hi i j ≡ surface_at p (Extruded n len lo hi) i j
unfolding on_extruded surface_at
on_extruded_lem p n len lo hi i j = refl

pub on_rotated_lem : (p : List Float) (cols : List SinCos) (a q len : ℕ) (full : Bool) (start span : Float) (n i j : ℕ) (r : Vec3) (t : SinCos) → Filled (Angles full start span n) j cols →
    t ≡ entry cols j → r ≡ on_rotated p a q len t i → r ≡ surface_at p (Rotated a q len full start span n) i j
unfolding on_rotated surface_at
on_rotated_lem p cols a q len full start span n i j r t w e x = x ∙ ap (λ (y : SinCos). on_rotated p a q len y i) (e ∙ last_entry w ∙ sym (turn_angle full start span n j))

-- a corner's number that goes round is a corner's number
pub round_within : (i len m k : ℕ) → 0 < len → 2 * len ≤ m → k ≡ i % len → 2 * k + 1 < m
round_within i len m k s h e = omega (arith, mod-lt i s)

-- smaller indices
round_less : (n : ℕ) (u v : Line) (rows cols : List SinCos) (i j k l : ℕ) → k ≤ i → l ≤ j → RoundTabled n u v rows cols i j → RoundTabled n u v rows cols k l
round_less zero u v rows cols i j k l a b w = filled_less (OnLine u) i k rows a w
round_less (suc zero) u v rows cols i j k l a b w = w
round_less (suc (suc n)) u v rows cols i j k l a b w = filled_less (OnLine v) j l cols b w

pub within_less : (p : List Float) (s : Surface) (i j k l : ℕ) → k ≤ i → l ≤ j → Within p s i j → Within p s k l
within_less p (Face chart n val u v) i j k l a b w = record { axis = w.axis; ufew = w.ufew; vfew = w.vfew; ulast = omega (arith, w.ulast); vlast = omega (arith, w.vlast) }
within_less p (Sphere c r nt np) i j k l a b w = record { few = w.few; last = omega (arith, w.last); some = w.some; nfew = w.nfew }
within_less p (Extruded n len lo hi) i j k l a b w = w
within_less p (Rotated x q len full start span n) i j k l a b w = record { some = w.some; held = w.held; steps = w.steps; few = w.few; last = omega (arith, w.last) }

pub tabled_less : (s : Surface) (rows cols : List SinCos) (i j k l : ℕ) → k ≤ i → l ≤ j → Tabled s rows cols i j → Tabled s rows cols k l
tabled_less (Face Cartesian n val u v) rows cols i j k l a b w = w
tabled_less (Face Cylindrical n val u v) rows cols i j k l a b w = round_less n u v rows cols i j k l a b w
tabled_less (Face (Around x d e1 e2) n val u v) rows cols i j k l a b w = round_less n u v rows cols i j k l a b w
tabled_less (Sphere c r nt np) rows cols i j k l a b w = (filled_less (Latitudes nt) i k rows a w.0, filled_less (Longitudes np) j l cols b w.1)
tabled_less (Extruded n len lo hi) rows cols i j k l a b w = w
tabled_less (Rotated x q len full start span n) rows cols i j k l a b w = filled_less (Angles full start span n) j l cols b w

round_tabled : (line : ℕ → Line) (k : ℕ) (u v : Line) (tab : List SinCos) → k < 3 → u ≡ line ((k + 1) % 3) → v ≡ line ((k + 2) % 3) → Filled (OnLine (line 1)) (line 1).n tab →
    RoundTabled k u v tab tab u.n v.n
round_tabled line zero u v tab h a b w = subst (λ (l : Line). Filled (OnLine l) l.n tab) (sym a) w
round_tabled line (suc zero) u v tab h a b w = tt
round_tabled line (suc (suc zero)) u v tab h a b w = subst (λ (l : Line). Filled (OnLine l) l.n tab) (sym b) w
round_tabled line (suc (suc (suc k))) u v tab h a b w = absurd (omega arith)

-- the tables that a caller makes: one for the faces of a parameter box, of its middle axis; two for a sphere; one for a rotated outline
pub face_tabled : (line : ℕ → Line) (chart : Chart) (k : ℕ) (val : Float) (u v : Line) (tab : List SinCos) → k < 3 → u ≡ line ((k + 1) % 3) → v ≡ line ((k + 2) % 3) →
    Filled (OnLine (line 1)) (line 1).n tab → Tabled (Face chart k val u v) tab tab u.n v.n
face_tabled line Cartesian k val u v tab h a b w = tt
face_tabled line Cylindrical k val u v tab h a b w = round_tabled line k u v tab h a b w
face_tabled line (Around x d e1 e2) k val u v tab h a b w = round_tabled line k u v tab h a b w

pub sphere_tabled : (c : Vec3) (r : Float) (nt np i j : ℕ) (rows cols : List SinCos) → Filled (Latitudes nt) i rows → Filled (Longitudes np) j cols → Tabled (Sphere c r nt np) rows cols i j
sphere_tabled c r nt np i j rows cols a b = (a, b)

pub extruded_tabled : (n len : ℕ) (lo hi : Float) (i j : ℕ) (rows cols : List SinCos) → Tabled (Extruded n len lo hi) rows cols i j
extruded_tabled n len lo hi i j rows cols = tt

pub rotated_tabled : (a q len : ℕ) (full : Bool) (start span : Float) (n i j : ℕ) (rows cols : List SinCos) → Filled (Angles full start span n) j cols →
    Tabled (Rotated a q len full start span n) rows cols i j
rotated_tabled a q len full start span n i j rows cols w = w
