-- The definitions of `solid_spec` that go by cases, one law for each branch of the code. Assumes nothing.
use mathlib.Core.Path.{◌≡◌}
use Prim.Native.Nat.{ℕ}
use borrow.Author.Tests.{eq-eqb, ne_eqb}
use lib.IntN.{pos}
use lib.Ieee.{binary64, mul, div, neg, of_int}
use Rattle.ieee.specs.Number.{plus_zero, pi}
use Rattle.trig_spec.specs.declared.SinCos.{SinCos}
use Rattle.trig_spec.specs.Trig.{sin_cos}
use Rattle.math.specs.Vec.{one}
use Rattle.solid_spec.specs.Sphere.{latitude}

-- latitude
module _ (nt i : ℕ) where
  pub latitude_north : i ≡ 0 → record { sin = plus_zero; cos = one } ≡ latitude nt i
  unfolding latitude
  latitude_north e = rw (eq-eqb i 0 e)

  pub latitude_south : (i ≡ 0 → ⊥) → i ≡ nt → record { sin = plus_zero; cos = neg one } ≡ latitude nt i
  unfolding latitude
  latitude_south z e = rw (ne_eqb i 0 z, eq-eqb i nt e)

  pub latitude_between : (r : SinCos) → (i ≡ 0 → ⊥) → (i ≡ nt → ⊥) →
      r ≡ sin_cos (div binary64 (mul binary64 pi (of_int binary64 (pos i))) (of_int binary64 (pos nt))) → r ≡ latitude nt i
  unfolding latitude
  latitude_between r z e d = rw (ne_eqb i 0 z, ne_eqb i nt e) d
