-- A root that the format holds is exact: where y times y is x, `sqrt` gives y. Assumes nothing.
use mathlib.Core.Path.{◌≡◌, ap}
use mathlib.Core.Bool.{true, false}
use Prim.Native.Nat.{ℕ, zero, suc, ◌+◌, ◌*◌, ◌≤◌, ◌<◌}
use native.Mathlib.Nat.{le_trans, le_antisymm, le_of_suc-le-suc, lt_of_not-le, lt_irrefl, mul-le-mul_left, mul-le-mul_right, mul-pos, zero-lt-suc}
use native.Mathlib.Omega.{arith}
use lib.IntN.{ℤ}
use lib.Dec.{T}
use lib.Ieee.{Float, nan, inf, fin, Format, up, down, fits}
use lib.Ieee.Fits.{up_pos, down_pos}
use Rattle.ieee.specs.Unique.{fin_unique}
use Rattle.root.specs.Sqrt.{sqrt}
use Rattle.root.specs.Rounded.{size_of, Below, not_below_zero, SquareOf, Nearest}
use Rattle.root.proofs.Rounded.{nearest_root}

square_le : (m n : ℕ) → m ≤ n → m * m ≤ n * n
square_le m n h = le_trans (mul-le-mul_right m h) (mul-le-mul_left n h)

-- x = a / b, r = c / d and y = g / h: the mean of r and y lies on r's side of y
above : (a b c d g h : ℕ) → g * g * b ≡ a * (h * h) → c * h < g * d → a * (2 * (d * h) * (2 * (d * h))) < (c * h + g * d) * (c * h + g * d) * b → ⊥
above a b c d g h e k l =
    let s : (c * h + g * d) * (c * h + g * d) * b ≤ 2 * (g * d) * (2 * (g * d)) * b = mul-le-mul_right b (square_le (c * h + g * d) (2 * (g * d)) (omega arith)) in
    let u : 4 * (d * d) * (g * g * b) ≡ 4 * (d * d) * (a * (h * h)) = ap (λ (x : ℕ). 4 * (d * d) * x) e in
    omega arith

below : (a b c d g h : ℕ) → g * g * b ≡ a * (h * h) → g * d < c * h → (c * h + g * d) * (c * h + g * d) * b < a * (2 * (d * h) * (2 * (d * h))) → ⊥
below a b c d g h e k l =
    let s : 2 * (g * d) * (2 * (g * d)) * b ≤ (c * h + g * d) * (c * h + g * d) * b = mul-le-mul_right b (square_le (2 * (g * d)) (c * h + g * d) (omega arith)) in
    let u : 4 * (d * d) * (g * g * b) ≡ 4 * (d * d) * (a * (h * h)) = ap (λ (x : ℕ). 4 * (d * d) * x) e in
    omega arith

-- neither is below the other
alike : (f : Format) (r y : Float) → T (fits f r) → T (fits f y) → T (not_below_zero r) → T (not_below_zero y)
    → (Below (size_of r) (size_of y) → ⊥) → (Below (size_of y) (size_of r) → ⊥) → r ≡ y
alike f nan y a b h k p q = absurd h
alike f (inf s) y a b h k p q = absurd h
alike f (fin true m e) y a b h k p q = absurd h
alike f (fin false m e) nan a b h k p q = absurd k
alike f (fin false m e) (inf s) a b h k p q = absurd k
alike f (fin false m e) (fin true n d) a b h k p q = absurd k
alike f (fin false m e) (fin false n d) a b h k p q =
    fin_unique f false m e n d a b (le_antisymm (le_of_suc-le-suc (lt_of_not-le q)) (le_of_suc-le-suc (lt_of_not-le p)))

nearest_exact : (f : Format) (x r y : Float) → Nearest f x r → T (fits f y) → T (not_below_zero y) → SquareOf y x → r ≡ y
nearest_exact f x r y n k z e =
    alike f r y n.held k n.finite_not_below_zero z
    (λ l. above (size_of x).num (size_of x).den (size_of r).num (size_of r).den (size_of y).num (size_of y).den e l (n.than_above y k z l))
    (λ l. below (size_of x).num (size_of x).den (size_of r).num (size_of r).den (size_of y).num (size_of y).den e l (n.than_below y k z l))

-- the square of what is above zero is none of zero's
no_square : (n : ℕ) (e d : ℤ) → suc n * up d * (suc n * up d) * down e ≡ 0 * up e * (down d * down d) → ⊥
no_square n e d q =
    lt_irrefl 0 (go (mul-pos (mul-pos (mul-pos (zero-lt-suc n) (up_pos d)) (mul-pos (zero-lt-suc n) (up_pos d))) (down_pos e)))
  where
    go : 0 < suc n * up d * (suc n * up d) * down e → 0 < 0
    go h = omega (arith, q)

zero_exact : (f : Format) (e : ℤ) (y : Float) → T (fits f (fin false zero e)) → T (fits f y) → T (not_below_zero y) → SquareOf y (fin false zero e) → fin false zero e ≡ y
zero_exact f e nan h k z q = absurd z
zero_exact f e (inf s) h k z q = absurd z
zero_exact f e (fin true n d) h k z q = absurd z
zero_exact f e (fin false (suc n) d) h k z q = absurd (no_square n e d q)
zero_exact f e (fin false zero d) h k z q = fin_unique f false zero e zero d h k (omega arith)

pub sqrt_exact : (f : Format) (x y : Float) → T (fits f x) → T (not_below_zero x) → T (fits f y) → T (not_below_zero y) → SquareOf y x → sqrt f x ≡ y
unfolding sqrt
sqrt_exact f nan y h p k z q = absurd p
sqrt_exact f (inf s) y h p k z q = absurd p
sqrt_exact f (fin true m e) y h p k z q = absurd p
sqrt_exact f (fin false zero e) y h p k z q = zero_exact f e y h k z q
sqrt_exact f (fin false (suc m) e) y h p k z q =
    nearest_exact f (fin false (suc m) e) (sqrt f (fin false (suc m) e)) y (nearest_root f (fin false (suc m) e) h tt (mul-pos (zero-lt-suc m) (up_pos e))) k z q
