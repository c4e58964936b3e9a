-- Tables of sines and cosines: a store adds an entry, and the numbers of a kind by its cases. Assumes nothing.
use mathlib.Core.Path.{◌≡◌, refl, sym, ap, ◌∙◌, subst}
use mathlib.Core.Bool.{Bool}
use mathlib.Core.List.{List}
use Prim.Native.Nat.{ℕ, ◌+◌, ◌≤◌, ◌<◌}
use native.Mathlib.Omega.{arith}
use borrow.Author.Count.{below_more}
use lib.ListN.{length, set}
use lib.Seq.{get_or-set_same, get_or-set_other}
use lib.Ieee.{Float, nan}
use Rattle.trig_spec.specs.declared.SinCos.{SinCos}
use Rattle.trig_spec.specs.Trig.{sin_cos}
use Rattle.surface_spec.specs.declared.Line.{Line}
use Rattle.solid_spec.specs.Sphere.{latitude, longitude}
use Rattle.solid_spec.specs.Outline.{angle}
use Rattle.surface_spec.specs.Surface.{line_at}
use Rattle.surface.specs.declared.turns.Turns.{Turns}
use Rattle.surface.specs.declared.turns.Turns.TheVariants.{Latitudes, Longitudes, OnLine, Angles}
use Rattle.surface.specs.Turns.{turn_at, TurnsWithin, entry, Filled}

-- the entries below k are those of f
abbrev pub Entries : (ℕ → SinCos) → ℕ → List SinCos → Type 0
Entries f k tab = (m : ℕ) → m < k → entry tab m ≡ f m

-- a store adds entry k
pub entries_more : (f : ℕ → SinCos) (tab : List SinCos) (k : ℕ) (p : SinCos) → k < length tab → Entries f k tab → p ≡ f k → Entries f (k + 1) (set tab k p)
entries_more f tab k p h old e =
    below_more (λ (m : ℕ). entry (set tab k p) m ≡ f m) k
    (λ m l. get_or-set_other tab k m p none (λ e. omega arith) ∙ old m l)
    (get_or-set_same tab k p none h ∙ e)
  where
    none : SinCos
    none = record { sin = nan; cos = nan }

-- smaller numbers
pub turns_less : (t : Turns) (n k : ℕ) → k ≤ n → TurnsWithin t n → TurnsWithin t k
turns_less (Latitudes nt) n k l w = (w.0, omega arith)
turns_less (Longitudes np) n k l w = w
turns_less (OnLine x) n k l w = (w.0, omega arith)
turns_less (Angles full start span m) n k l w = (w.0, w.1, omega arith)

pub filled_less : (t : Turns) (n k : ℕ) (tab : List SinCos) → k ≤ n → Filled t n tab → Filled t k tab
filled_less t n k tab l w = record { long = omega (arith, w.long); holds = λ m h. w.holds m (omega arith) }

-- turn_at
module _ (t s : Turns) (k : ℕ) where
  pub turns_as : t ≡ s → TurnsWithin t k → TurnsWithin s k
  turns_as e w = subst (λ (x : Turns). TurnsWithin x k) e w

  pub turn_as : (r : SinCos) → t ≡ s → r ≡ turn_at s k → r ≡ turn_at t k
  turn_as r e x = x ∙ ap (λ (y : Turns). turn_at y k) (sym e)

pub turn_latitude : (nt k : ℕ) → latitude nt k ≡ turn_at (Latitudes nt) k
unfolding turn_at
turn_latitude nt k = refl

pub turn_longitude : (np k : ℕ) → longitude np k ≡ turn_at (Longitudes np) k
unfolding turn_at
turn_longitude np k = refl

pub turn_on_line : (l : Line) (k : ℕ) → sin_cos (line_at l k) ≡ turn_at (OnLine l) k
unfolding turn_at
turn_on_line l k = refl

pub turn_angle : (full : Bool) (start span : Float) (n k : ℕ) → sin_cos (angle full start span n k) ≡ turn_at (Angles full start span n) k
unfolding turn_at
turn_angle full start span n k = refl
