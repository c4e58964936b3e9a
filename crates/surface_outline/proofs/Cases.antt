-- The definitions of `solid_spec` that go by cases, one law for each branch of the code. Assumes nothing.
use mathlib.Core.Path.{◌≡◌, refl, sym, ap}
use mathlib.Core.Bool.{Bool, true, false}
use Prim.Native.Nat.{ℕ, zero, suc, ◌%◌, ◌<◌}
use native.Mathlib.Omega.{arith}
use lib.IntN.{pos}
use lib.Ieee.{Float, binary64, add, mul, div, of_int}
use Rattle.ieee.specs.Number.{tau}
use Rattle.math.specs.Vec.{new, with_axis}
use Rattle.outline.specs.declared.Point.{Point}
use Rattle.outline.specs.Axes.{plane_axes}
use Rattle.solid_spec.specs.Outline.{plane_point, angle, height}

-- plane_point
module _ (n : ℕ) (c : Point) (h : Float) where
  pub plane_0 : n ≡ 0 → new h c.x c.y ≡ plane_point n c h
  unfolding plane_point plane_axes with_axis
  plane_0 e = ap (λ (k : ℕ). plane_point k c h) (sym e)

  pub plane_1 : n ≡ 1 → new c.y h c.x ≡ plane_point n c h
  unfolding plane_point plane_axes with_axis
  plane_1 e = ap (λ (k : ℕ). plane_point k c h) (sym e)

  pub plane_2 : n < 3 → (n ≡ 0 → ⊥) → (n ≡ 1 → ⊥) → new c.x c.y h ≡ plane_point n c h
  unfolding plane_point plane_axes with_axis
  plane_2 l p q = let e : 2 ≡ n = omega (arith, p, q) in ap (λ (k : ℕ). plane_point k c h) e

-- height
pub height_low : (lo hi : Float) (k : ℕ) → k ≡ 0 → lo ≡ height lo hi k
unfolding height
height_low lo hi k e = ap (height lo hi) (sym e)

pub height_high : (lo hi : Float) (k : ℕ) → (k ≡ 0 → ⊥) → hi ≡ height lo hi k
unfolding height
height_high lo hi zero e = absurd (e refl)
height_high lo hi (suc k) e = refl

-- angle
pub angle_full : (full : Bool) (start span : Float) (n k : ℕ) → full ≡ true →
    add binary64 start (div binary64 (mul binary64 tau (of_int binary64 (pos (k % n)))) (of_int binary64 (pos n))) ≡ angle full start span n k
unfolding angle
angle_full full start span n k e = ap (λ (b : Bool). angle b start span n k) (sym e)

pub angle_part : (full : Bool) (start span : Float) (n k : ℕ) → full ≡ false →
    add binary64 start (div binary64 (mul binary64 span (of_int binary64 (pos k))) (of_int binary64 (pos n))) ≡ angle full start span n k
unfolding angle
angle_part full start span n k e = ap (λ (b : Bool). angle b start span n k) (sym e)
