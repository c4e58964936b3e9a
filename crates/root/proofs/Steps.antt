-- What the steps of `not_finite_root` and `subnormal_root` give. All at binary64. Assumes nothing.
use mathlib.Core.Path.{◌≡◌, refl, sym, ap, ◌∙◌}
use mathlib.Core.Bool.{true, false, not}
use Prim.Native.Nat.{ℕ, suc, ◌+◌, ◌*◌, ◌%◌, ◌^◌, ◌≤◌, ◌<◌}
use native.Mathlib.Nat.{lt_of_le_of_lt, mod-eq_of_lt}
use native.Mathlib.Omega.{arith}
use lib.Count.{count_leading_zeros, leading_top}
use lib.Dec.{T}
use lib.Ieee.{Float, nan, inf, fin, binary64, size, to_bits}
use lib.Ieee.Digits.{size-lt, size-le}
use lib.Ieee.Scale.{finite}
use Rattle.root_whole.proofs.Roots.{four_pow}
use Rattle.root.specs.ByCase.{not_finite_root}
use Rattle.root.proofs.Scaled.{pow_lt_back}
use Rattle.root.proofs.Cases.{Quadrupled}

-- plus infinity is the only one of its pattern
pub infinite : (x : Float) → T (not (finite x)) → to_bits binary64 x ≡ 2047 * 2 ^ 52 → x ≡ not_finite_root x
unfolding to_bits not_finite_root
infinite nan t e = absurd (omega (arith, e))
infinite (inf true) t e = absurd (omega (arith, e))
infinite (inf false) t e = refl
infinite (fin s m d) t e = absurd t

pub not_infinite : (x : Float) → T (not (finite x)) → (to_bits binary64 x ≡ 2047 * 2 ^ 52 → ⊥) → nan ≡ not_finite_root x
unfolding to_bits not_finite_root
not_infinite nan t n = refl
not_infinite (inf true) t n = refl
not_infinite (inf false) t n = absurd (n refl)
not_infinite (fin s m d) t n = absurd t

-- the digits of a number, from the zeros before them
pub zeros : (b : ℕ) → 0 < b → b < 2 ^ 52 → (count_leading_zeros 64 b + size b ≡ 64) × (size b ≤ 52)
zeros b p h = go (leading_top 64 b p (omega arith))
  where
    go : (j : ℕ) × (count_leading_zeros 64 b + suc j ≡ 64) × (2 ^ j ≤ b) × (b < 2 ^ suc j) → (count_leading_zeros 64 b + size b ≡ 64) × (size b ≤ 52)
    go (j, e, l, u) =
        let most : size b ≤ suc j = size-le b (suc j) u in
        let least : j < size b = pow_lt_back j (size b) (lt_of_le_of_lt l (size-lt b)) in
        (omega arith, size-le b 52 h)

-- a shift by 2 * f places
pub shifted : (b f : ℕ) → Quadrupled b f → b * 2 ^ (2 * f) % 2 ^ 64 ≡ b * 4 ^ f
shifted b f d =
    let two : 2 * f ≡ f + f = omega arith in
    let high : b * 4 ^ f + 2 ≤ 2 ^ 54 = d.high in
    ap (λ (x : ℕ). b * 2 ^ x % 2 ^ 64) two ∙ ap (λ (x : ℕ). b * x % 2 ^ 64) (sym (four_pow f)) ∙ mod-eq_of_lt (omega arith)
