-- An extruded outline with two different ends, and a rotated outline, are balanced where their caps have the outline as their boundary; a full turn needs no
-- caps.
use mathlib.Core.Path.{◌≡◌, refl, sym, ap, ◌∙◌}
use mathlib.Core.List.{List, [], ◌++◌, append-nil}
use mathlib.Core.Bool.{Bool, true, false, cond}
use Prim.Native.Nat.{ℕ, suc, ◌/◌}
use native.Mathlib.Nat.{zero-mod, mod_self}
use lib.IntN.{pos}
use lib.Dec.{ltb}
use lib.ListN.{length}
use lib.Ieee.{Float, binary64, add, sub, mul, div, of_int, ne}
use Rattle.ieee.specs.Number.{absolute, tau}
use Rattle.trig_spec.specs.Trig.{sin_cos}
use Rattle.math.specs.declared.Vec3.{Vec3}
use Rattle.outline.specs.Corners.{point}
use Rattle.mesh_balance_spec.specs.Soup.{Tri, Balanced, balanced_map}
use Rattle.mesh_balance_spec.specs.Grid.{Bounds}
use Rattle.mesh_balance_spec.specs.Prism.{cycle}
use Rattle.mesh_spec.specs.Mesh.{plus_zero_v}
use Rattle.shape_arc.specs.Arc.{arc_segments, is_full}
use Rattle.solid_spec.specs.Grid.{Soup, grid}
use Rattle.solid_spec.specs.Outline.{corner_at, caps, extruded_sides, extruded_from, angle, spun, turned_at, turned_sides, turned_from, rotated_from, height}
use Rattle.solid_spec.proofs.Closes.{Closes, nothing_closes}
use Rattle.solid_spec.proofs.Sides.{ring, sides_grid, walls_grid, sides_wrapped, sides_caps, caps_walls}

pub extruded_sides_grid : (n : ℕ) (p : List Float) (lo hi : Float) →
    extruded_sides n p lo hi ≡ grid (length p / 2) 1 false (ring (length p / 2) (λ i k. corner_at n p i (height lo hi k)))
unfolding extruded_sides height
extruded_sides_grid n p lo hi = walls_grid (length p / 2) 1 (λ i k. corner_at n p i (height lo hi k))

-- `extruded_polygon` with different ends, for a ring of m + 1 corners
pub extruded_from_closes : (n m : ℕ) (p : List Float) (tris : List (Tri ℕ)) (lo hi : Float) → length p / 2 ≡ suc m → ne hi lo ≡ true → Bounds tris (cycle m)
    → Closes (extruded_from n p tris lo hi)
unfolding extruded_from height
extruded_from_closes n m p tris lo hi e u b = rw (e, u) (go (ltb (suc m) 3))
  where
    at : ℕ → ℕ → Vec3
    at i k = corner_at n p i (height lo hi k)

    solid : Soup
    solid = caps (λ i. at i 1) (λ i. at i 0) tris ++ extruded_sides n p lo hi

    whole : Balanced solid
    whole = rw (extruded_sides_grid n p lo hi, e) (caps_walls m 1 at tris b)

    go : (t : Bool) → Closes (cond t [] solid)
    go true = nothing_closes
    go false = balanced_map plus_zero_v solid whole

pub turned_sides_grid : (a q : ℕ) (p : List Float) (start span : Float) (full : Bool) (n : ℕ) →
    turned_sides a q p start span full n ≡ grid (length p / 2) n true (ring (length p / 2) (turned_at a q p start span full n))
unfolding turned_sides
turned_sides_grid a q p start span full n = sides_grid (length p / 2) n (turned_at a q p start span full n)

-- a full turn returns to its start
turn_wraps : (start span : Float) (n : ℕ) → angle true start span n n ≡ angle true start span n 0
unfolding angle
turn_wraps start span n =
    ap (λ (k : ℕ). add binary64 start (div binary64 (mul binary64 tau (of_int binary64 (pos k))) (of_int binary64 (pos n)))) (mod_self n ∙ sym (zero-mod n))

module _ (a q m : ℕ) (p : List Float) (tris : List (Tri ℕ)) (e : length p / 2 ≡ suc m) where
  turned_balanced : (start span : Float) (full : Bool) (n : ℕ) → (full ≡ false → Bounds tris (cycle m)) → Balanced (turned_from a q p tris start span full n)
  unfolding turned_from
  turned_balanced start span true n b =
      rw (append-nil (turned_sides a q p start span true n), turned_sides_grid a q p start span true n, e)
      (sides_wrapped m n (turned_at a q p start span true n) (λ v. ap (λ (x : Float). spun a q (point p v) (sin_cos x)) (turn_wraps start span n)))
  turned_balanced start span false n b =
      rw (turned_sides_grid a q p start span false n, e) (sides_caps m n (turned_at a q p start span false n) tris (b refl))

  -- `rotpoly`: a part turn where its caps have the outline as their boundary, a full turn in any case
  pub rotated_from_closes : (start stop : Float) (segments : ℕ) → (is_full (absolute (sub binary64 stop start)) ≡ false → Bounds tris (cycle m))
      → Closes (rotated_from a q p tris start stop segments)
  unfolding rotated_from
  rotated_from_closes start stop segments b = go (ltb (length p / 2) 3)
    where
      span : Float
      span = sub binary64 stop start

      full : Bool
      full = is_full (absolute span)

      solid : Soup
      solid = turned_from a q p tris start span full (arc_segments segments (cond full tau span))

      go : (t : Bool) → Closes (cond t [] solid)
      go true = nothing_closes
      go false = balanced_map plus_zero_v solid (turned_balanced start span full (arc_segments segments (cond full tau span)) b)
