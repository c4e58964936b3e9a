-- Points that are the same number for number, and finite points. `plus_zero_v` of two points that are the same is one point.
use mathlib.Core.Path.{◌≡◌, refl, sym, ap, ◌∙◌}
use mathlib.Core.Logic.{inl, inr}
use Prim.Native.Nat.{ℕ, zero, suc, ◌*◌}
use native.Mathlib.Nat.{zero-mul}
use mathlib.Core.Bool.{Bool, true, false, ◌&&◌}
use lib.IntN.{pos}
use lib.Dec.{T}
use lib.Ieee.{Float, nan, inf, fin, Format, binary64, down, sum, add, of_bits}
use lib.Ieee.Fits.{and_l, and_r}
use Rattle.ieee.specs.Number.{is_zero, Same, plus_zero}
use Rattle.ieee.specs.Same.{round_zero, no_size, add_same, mul_same}
use Rattle.math.specs.declared.Vec3.{Vec3}
use Rattle.math.specs.Vec.{new, v_add, v_mul, v_finite}
use Rattle.math.specs.Laws.{finite_x, finite_y, finite_z}
use Rattle.mesh_spec.specs.Mesh.{plus_zero_v}
use Rattle.solid_spec.specs.Fits.{FiniteV}

pub record SameV (p q : Vec3) : Type 0 where
  pub x : Same p.x q.x
  pub y : Same p.y q.y
  pub z : Same p.z q.z

pub finite_says : (p : Vec3) → T (v_finite p) → FiniteV p
finite_says p h = record { x = finite_x p h; y = finite_y p h; z = finite_z p h }

pub sameV_refl : (p : Vec3) → SameV p p
sameV_refl p = record { x = inl refl; y = inl refl; z = inl refl }

pub v_add_same : (a a' b b' : Vec3) → SameV a a' → SameV b b' → SameV (v_add a b) (v_add a' b')
unfolding v_add
v_add_same a a' b b' p q = record {
  x = add_same binary64 a.x a'.x b.x b'.x p.x q.x;
  y = add_same binary64 a.y a'.y b.y b'.y p.y q.y;
  z = add_same binary64 a.z a'.z b.z b'.z p.z q.z;
}

pub v_mul_same : (a a' : Vec3) (s s' : Float) → SameV a a' → Same s s' → SameV (v_mul a s) (v_mul a' s')
unfolding v_mul
v_mul_same a a' s s' p q = record {
  x = mul_same binary64 a.x a'.x s s' p.x q;
  y = mul_same binary64 a.y a'.y s s' p.y q;
  z = mul_same binary64 a.z a'.z s s' p.z q;
}

-- any zero + 0.0 is +0.0
sum_zeros : (f : Format) (s : Bool) (c : ℕ) → sum f s 0 false 0 c ≡ plus_zero
unfolding sum
sum_zeros f true c = round_zero f false c
sum_zeros f false c = round_zero f false c

zero_plus : (f : Format) (x : Float) → T (is_zero x) → add f x plus_zero ≡ plus_zero
unfolding add
zero_plus f nan z = absurd z
zero_plus f (inf s) z = absurd z
zero_plus f (fin s zero e) z =
    ap (λ (a : ℕ). sum f s a false (0 * down e) (down e * 1)) (no_size e (pos 0))
    ∙ ap (λ (b : ℕ). sum f s 0 false b (down e * 1)) (zero-mul (down e))
    ∙ sum_zeros f s (down e * 1)
zero_plus f (fin s (suc m) e) z = absurd z

plus_same : (f : Format) (x y : Float) → Same x y → add f x plus_zero ≡ add f y plus_zero
plus_same f x y (inl e) = ap (λ (z : Float). add f z plus_zero) e
plus_same f x y (inr z) = zero_plus f x z.0 ∙ sym (zero_plus f y z.1)

pub plus_zeroV_same : (p q : Vec3) → SameV p q → plus_zero_v p ≡ plus_zero_v q
unfolding plus_zero_v of_bits
plus_zeroV_same p q s =
    λ i. new (plus_same binary64 p.x q.x s.x i) (plus_same binary64 p.y q.y s.y i) (plus_same binary64 p.z q.z s.z i)
