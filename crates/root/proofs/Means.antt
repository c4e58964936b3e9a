-- The root against the mean of two values, as whole-number squares: from units of the format's smallest value to any fractions of the same sizes. Assumes
-- nothing.
use mathlib.Core.Path.{◌≡◌, sym, ap, ◌∙◌}
use Prim.Native.Nat.{ℕ, ◌+◌, ◌*◌, ◌<◌}
use native.Mathlib.Nat.{le_of_eq, lt_of_lt_of_le, lt_of_le_of_lt, mul-lt-mul_of_pos_right, mul-pos, lt_of_mul-lt-mul_right}
use native.Mathlib.Omega.{arith}
use Rattle.root.proofs.Best.{Best}

-- the mean of c / d and g / h is above the square root of a / b, and below it
abbrev pub MeanAbove : ℕ → ℕ → ℕ → ℕ → ℕ → ℕ → Type 0
MeanAbove a b c d g h = a * (2 * (d * h) * (2 * (d * h))) < (c * h + g * d) * (c * h + g * d) * b

abbrev pub MeanBelow : ℕ → ℕ → ℕ → ℕ → ℕ → ℕ → Type 0
MeanBelow a b c d g h = (c * h + g * d) * (c * h + g * d) * b < a * (2 * (d * h) * (2 * (d * h)))

-- ---- from units to any fractions of the same sizes

module _ (a b c d g h w A B L : ℕ) (b-pos : 0 < b) (d-pos : 0 < d) (h-pos : 0 < h) (L-pos : 0 < L) (x-is : a * (L * L) ≡ w * b) (r-is : c * L ≡ A * d) (y-is : g * L ≡ B * h) where
  mean : (c * h + g * d) * L ≡ (A + B) * (d * h)
  mean = omega (arith, ap (λ (x : ℕ). x * h) r-is, ap (λ (x : ℕ). x * d) y-is)

  left : a * (2 * (d * h) * (2 * (d * h))) * (L * L) ≡ 4 * w * (b * ((d * h) * (d * h)))
  left = move a (d * h) (L * L) w b x-is
    where
      move : (a D M w b : ℕ) → a * M ≡ w * b → a * (2 * D * (2 * D)) * M ≡ 4 * w * (b * (D * D))
      move a D M w b e = omega (arith, ap (λ (x : ℕ). x * (D * D)) e)

  right : (c * h + g * d) * (c * h + g * d) * b * (L * L) ≡ (A + B) * (A + B) * (b * ((d * h) * (d * h)))
  right = move (c * h + g * d) b L (A + B) (d * h) mean
    where
      gather : (M b L : ℕ) → M * M * b * (L * L) ≡ M * L * (M * L) * b
      gather M b L = omega arith

      spread : (S D b : ℕ) → S * D * (S * D) * b ≡ S * S * (b * (D * D))
      spread S D b = omega arith

      move : (M b L S D : ℕ) → M * L ≡ S * D → M * M * b * (L * L) ≡ S * S * (b * (D * D))
      move M b L S D e = gather M b L ∙ ap (λ (x : ℕ). x * x * b) e ∙ spread S D b

  all_pos : 0 < b * ((d * h) * (d * h))
  all_pos = mul-pos b-pos (mul-pos (mul-pos d-pos h-pos) (mul-pos d-pos h-pos))

  mean_above : 4 * w < (A + B) * (A + B) → MeanAbove a b c d g h
  mean_above k =
      lt_of_mul-lt-mul_right (L * L)
      (lt_of_le_of_lt (le_of_eq left) (lt_of_lt_of_le (mul-lt-mul_of_pos_right k all_pos) (le_of_eq (sym right))))

  mean_below : (A + B) * (A + B) < 4 * w → MeanBelow a b c d g h
  mean_below k =
      lt_of_mul-lt-mul_right (L * L)
      (lt_of_le_of_lt (le_of_eq right) (lt_of_lt_of_le (mul-lt-mul_of_pos_right k all_pos) (le_of_eq (sym left))))

  order_up : c * h < g * d → A < B
  order_up k = lt_of_mul-lt-mul_right (d * h) (omega (arith, mul-lt-mul_of_pos_right k L-pos, ap (λ (x : ℕ). x * h) r-is, ap (λ (x : ℕ). x * d) y-is))

  order_down : g * d < c * h → B < A
  order_down k = lt_of_mul-lt-mul_right (d * h) (omega (arith, mul-lt-mul_of_pos_right k L-pos, ap (λ (x : ℕ). x * h) r-is, ap (λ (x : ℕ). x * d) y-is))

pub joined : (a b c d g h w A B L : ℕ) → 0 < b → 0 < d → 0 < h → 0 < L → a * (L * L) ≡ w * b → c * L ≡ A * d → g * L ≡ B * h → Best w A B
    → (c * h < g * d → MeanAbove a b c d g h) × (g * d < c * h → MeanBelow a b c d g h)
joined a b c d g h w A B L b-pos d-pos h-pos p i j k best = (
  λ o. mean_above a b c d g h w A B L b-pos d-pos h-pos p i j k (best.0 (order_up a b c d g h w A B L b-pos d-pos h-pos p i j k o)),
  λ o. mean_below a b c d g h w A B L b-pos d-pos h-pos p i j k (best.1 (order_down a b c d g h w A B L b-pos d-pos h-pos p i j k o)),
)
