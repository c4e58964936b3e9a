-- The text of each case, from what is put in that case. Assumes nothing.
use mathlib.Core.Path.{◌≡◌}
use mathlib.Core.Bool.{true, false}
use mathlib.Core.List.{List, ◌++◌}
use Prim.Native.Nat.{ℕ, ◌+◌, ◌*◌, ◌/◌}
use native.Mathlib.Numerals.{add-one}
use lib.Dec.{eqb, leb}
use lib.ListN.{length, get_or}
use lib.Ieee.{Float, nan}
use Rattle.slice_text.specs.Ascii.{ascii}
use Rattle.slice_text.specs.Line.{Line, Puts}
use Rattle.slice_text.specs.LineLaws.{no_text, then}
use Rattle.figures_points.specs.Lists.{up_to, point_of, point_at, corner_of, corner_at, triangle_of, triangle_at}

pub no_item : (f : ℕ → List ℕ) (l : Line) → Puts (up_to 0 f) l l
unfolding up_to
no_item f l = no_text l

pub next_item : (f : ℕ → List ℕ) (i : ℕ) {l m n : Line} → Puts (up_to i f) l m → Puts (f i) m n → Puts (up_to (i + 1) f) l n
unfolding up_to
next_item f i p q = simp add-one (then p q)

pub no_point : (v : List Float) (i : ℕ) → leb (length v / 3) i ≡ true → (l : Line) → Puts (point_at v i) l l
unfolding point_at
no_point v i e l = rw e (no_text l)

pub point_text : (v : List Float) (i : ℕ) {l m : Line} → leb (length v / 3) i ≡ false
    → Puts (ascii " " ++ point_of (record { x = get_or v (3 * i) nan; y = get_or v (3 * i + 1) nan; z = get_or v (3 * i + 2) nan })) l m → Puts (point_at v i) l m
unfolding point_at
point_text v i e p = rw e p

pub no_corner : (v : List Float) (i : ℕ) → leb (length v / 2) i ≡ true → (l : Line) → Puts (corner_at v i) l l
unfolding corner_at
no_corner v i e l = rw e (no_text l)

pub corner_text : (v : List Float) (i : ℕ) {l m : Line}
    → leb (length v / 2) i ≡ false → Puts (corner_of (get_or v (2 * i) nan) (get_or v (2 * i + 1) nan)) l m → Puts (corner_at v i) l m
unfolding corner_at
corner_text v i e p = rw e p

pub no_triangle : (t : List ℕ) (i : ℕ) → leb (length t / 3) i ≡ true → (l : Line) → Puts (triangle_at t i) l l
unfolding triangle_at
no_triangle t i e l = rw e (no_text l)

pub first_triangle : (t : List ℕ) (i : ℕ) {l m : Line}
    → leb (length t / 3) i ≡ false → eqb i 0 ≡ true
    → Puts (triangle_of (get_or t (3 * i) 0) (get_or t (3 * i + 1) 0) (get_or t (3 * i + 2) 0)) l m → Puts (triangle_at t i) l m
unfolding triangle_at
first_triangle t i e f p = rw (e, f) p

pub next_triangle : (t : List ℕ) (i : ℕ) {l m : Line}
    → leb (length t / 3) i ≡ false → eqb i 0 ≡ false
    → Puts (ascii "," ++ triangle_of (get_or t (3 * i) 0) (get_or t (3 * i + 1) 0) (get_or t (3 * i + 2) 0)) l m → Puts (triangle_at t i) l m
unfolding triangle_at
next_triangle t i e f p = rw (e, f) p
