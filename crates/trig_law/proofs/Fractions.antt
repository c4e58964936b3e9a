-- What is close to an exact sum in units of the format's smallest value is within 2 ^ -b of the fraction that is that sum. Assumes nothing.
use mathlib.Core.Path.{◌≡◌, sym, ap, subst}
use Prim.Native.Nat.{ℕ, ◌+◌, ◌*◌, ◌^◌, ◌≤◌, ◌<◌}
use native.Mathlib.Nat.{mul-le-mul_right, le_of_mul-le-mul_right}
use native.Mathlib.Omega.{arith}
use mathlib.Core.Bool.{Bool, true, false}
use lib.Pow.{pow_pos}
use lib.Ieee.{Float, nan, inf, fin, Format, low, up, down}
use Rattle.ieee.specs.Order.{plus, minus}
use Rattle.ieee_whole.specs.Whole.{signed}
use Rattle.trig_law.specs.Series.{SignedFraction, difference, exact_value, Within}
use Rattle.trig_law.proofs.Rounded.{scale, slack}
use Rattle.trig_law.proofs.Steps.{Over, Close}
use Rattle.trig_law.proofs.Parts.{above, below, above_signed, below_signed, cross, size_bound}

one_side : (yp ym hp hn P N S l e d K c : ℕ) → 0 < l → yp * l ≡ hp * d → ym * l ≡ hn * d → Over l e K hp hn P N S → K * e * c ≤ l
    → (yp * S + N * d) * c ≤ (ym * S + P * d) * c + S * d
one_side yp ym hp hn P N S l e d K c L p q h w =
    le_of_mul-le-mul_right
    (omega (
      arith,
      chain (yp * l * (S * c)) (ym * l * (S * c)) (hp * d * (S * c)) (hn * d * (S * c)) (N * l * (d * c)) (P * l * (d * c)) (K * e * c * (S * d)) (l * (S * d))
          (ap (λ x. x * (S * c)) p) (ap (λ x. x * (S * c)) q) (omega (arith, mul-le-mul_right (d * c) h)) (mul-le-mul_right (S * d) w),
    )) L
  where
    chain : (y1 y2 h1 h2 n p k t : ℕ) → y1 ≡ h1 → y2 ≡ h2 → h1 + n ≤ h2 + p + k → k ≤ t → y1 + n ≤ y2 + p + t
    chain y1 y2 h1 h2 n p k t a b c d = omega arith

two_sides : (X Y yp ym i j P N S d D c : ℕ) → 0 < S → X + ym * D + i * d ≡ Y + yp * D + j * d → i * S + N * D ≡ j * S + P * D
    → (yp * S + N * d) * c ≤ (ym * S + P * d) * c + S * d → X * c ≤ Y * c + d * D
two_sides X Y yp ym i j P N S d D c L p q h =
    le_of_mul-le-mul_right
    (omega (
      arith,
      chain (X * (S * c)) (Y * (S * c)) (ym * D * (S * c)) (yp * D * (S * c)) (i * d * (S * c)) (j * d * (S * c))
          (N * D * (d * c)) (P * D * (d * c)) (S * d * D)
          (omega (arith, ap (λ x. x * (S * c)) p)) (omega (arith, ap (λ x. x * (d * c)) q)) (omega (arith, mul-le-mul_right D h)),
    )) L
  where
    chain : (x y m p i j n q e : ℕ) → x + m + i ≡ y + p + j → i + n ≡ j + q → p + n ≤ m + q + e → x ≤ y + e
    chain x y m p i j n q e a b h = omega arith

-- ---- what is close to a sum is within 2 ^ -b of a fraction that is that sum, where K roundings make no more
pub within : (f : Format) (b K : ℕ) (y : Float) (P N S : ℕ) (q : SignedFraction) → 0 < S → K * slack f * 2 ^ b ≤ scale f → Close f K y P N S
    → above q.num * S + N * q.den ≡ below q.num * S + P * q.den → Within b y q
within f b K nan P N S q L w c h = absurd c.is
within f b K (inf r) P N S q L w c h = absurd c.is
within f b K (fin r m e) P N S q L w c h = subst (λ s. Within b (fin s m e) q) (sym c.is.0) (go c.sign c.over c.under)
  where
    u : ℕ
    u = c.units

    units : (s : Bool) (a l u d : ℕ) → a * l ≡ u * d → (plus s a * l ≡ plus s u * d) × (minus s a * l ≡ minus s u * d)
    units false a l u d h = omega arith
    units true a l u d h = omega arith

    go : (s : Bool) → Over (scale f) (slack f) K (plus s u) (minus s u) P N S → Over (scale f) (slack f) K (minus s u) (plus s u) N P S → Within b (fin s m e) q
    go s a o =
        let yp = plus s (m * up e) in
        let ym = minus s (m * up e) in
        let n = (difference (exact_value (fin s m e)) q).num in
        let v = units s (m * up e) (scale f) u (down e) c.is.1 in
        let x = cross (signed s (m * up e)) q.num q.den (down e) yp ym (above_signed s (m * up e)) (below_signed s (m * up e)) in
        let more = one_side yp ym (plus s u) (minus s u) P N S (scale f) (slack f) (down e) K (2 ^ b) (pow_pos (low f)) v.0 v.1 a w in
        let fewer = one_side ym yp (minus s u) (plus s u) N P S (scale f) (slack f) (down e) K (2 ^ b) (pow_pos (low f)) v.1 v.0 o w in
        record {
          is_finite = tt;
          near = size_bound n (2 ^ b) (down e * q.den)
              (two_sides (above n) (below n) yp ym (above q.num) (below q.num) P N S (down e) q.den (2 ^ b) L x h more)
              (two_sides (below n) (above n) ym yp (below q.num) (above q.num) N P S (down e) q.den (2 ^ b) L (sym x) (sym h) fewer);
        }
