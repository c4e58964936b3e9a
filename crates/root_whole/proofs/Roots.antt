-- Laws of the integer square root. Nothing here is about floats. Assumes nothing.
use Rattle.std.proofs.Common.{◌≡◌, ℕ, zero, suc, ◌+◌, ◌*◌, ◌/◌, ◌^◌, ◌<◌, ◌≤◌, Bool, true, false, cond, not, T, eqb, leb, sym, refl, ap, ◌∙◌, subst, le_trans, le_of_eq, lt_of_lt_of_le, lt_of_le_of_lt, le_of_lt, lt_irrefl, mul-le-mul, le_antisymm, mul-lt-mul_of_pos_right, lt_of_not-le, arith, eqb→eq, leb→le, pow_mono}
use Prim.Native.Nat.{compare, Ordering}
use native.Mathlib.Nat.{pow-succ'}
use lib.Dec.{is_le, compare_is_eq, nleb→lt, eqb_refl}
use lib.Arith.{lt_of_le-ne}
use lib.Ieee.{size, nearest}
use lib.Ieee.Digits.{size-lt}
use Rattle.root_whole.specs.Whole.{finer, root, isqrt, near_root}

-- r is the whole part of the square root of n
pub record IsRoot (n r : ℕ) : Type 0 where
  pub low : r * r ≤ n
  pub high : n < (r + 1) * (r + 1)

finer_is : (n r : ℕ) → IsRoot (n / 4) r → IsRoot n (finer r n)
finer_is n r h = go (leb ((r * 2 + 1) * (r * 2 + 1)) n) (leb→le ((r * 2 + 1) * (r * 2 + 1)) n) (nleb→lt ((r * 2 + 1) * (r * 2 + 1)) n)
  where
    go : (b : Bool) → (T b → (r * 2 + 1) * (r * 2 + 1) ≤ n) → (T (not b) → n < (r * 2 + 1) * (r * 2 + 1)) → IsRoot n (cond b (r * 2 + 1) (r * 2))
    go true y z = let k = y tt in record { low = k; high = omega arith }
    go false y z = let k = z tt in record { low = omega arith; high = k }

four_lt : (n p : ℕ) → n < 4 * p → n / 4 < p
four_lt n p h = omega arith

pub root_is : (k n : ℕ) → n < 4 ^ k → IsRoot n (root k n)
unfolding root
root_is zero n h = record { low = omega arith; high = omega arith }
root_is (suc k) n h = finer_is n (root k (n / 4)) (root_is k (n / 4) (four_lt n (4 ^ k) (rw pow-succ' at h)))

pub four_pow : (k : ℕ) → 4 ^ k ≡ 2 ^ (k + k)
four_pow zero = refl
four_pow (suc k) =
    let e : suc k + suc k ≡ suc (suc (k + k)) = omega arith in
    rw (e, pow-succ' 4 k, four_pow k, pow-succ' 2 (suc (k + k)), pow-succ' 2 (k + k)) (omega arith)

pub isqrt_is : (n : ℕ) → IsRoot n (isqrt n)
unfolding isqrt
isqrt_is n =
    root_is (suc (size n) / 2) n
    (lt_of_lt_of_le (size-lt n) (le_trans (pow_mono {j = suc (size n) / 2 + suc (size n) / 2} (omega arith)) (le_of_eq (sym (four_pow (suc (size n) / 2))))))

-- ---- squares keep the order

pub square_le : {a b : ℕ} → a ≤ b → a * a ≤ b * b
square_le h = mul-le-mul h h

pub square_lt_back : (a b : ℕ) → a * a < b * b → a < b
square_lt_back a b h = lt_of_not-le (λ (g : b ≤ a). lt_irrefl (a * a) (lt_of_lt_of_le h (square_le g)))

pub root_lt : (n r s : ℕ) → IsRoot n r → n < s * s → r < s
root_lt n r s h k = square_lt_back r s (lt_of_le_of_lt h.low k)

pub root_ge : (n r s : ℕ) → IsRoot n r → s * s ≤ n → s ≤ r
root_ge n r s h k = let l : s < r + 1 = square_lt_back s (r + 1) (lt_of_le_of_lt k h.high) in omega arith

pub root_unique : (n r s : ℕ) → IsRoot n r → IsRoot n s → r ≡ s
root_unique n r s h k = le_antisymm (root_ge n s r k h.low) (root_ge n r s h k.low)

-- ---- what `compare` says

abbrev pub Cmp : Ordering → ℕ → ℕ → Type 0
Cmp Ordering.lt a b = a < b
Cmp Ordering.eq a b = a ≡ b
Cmp Ordering.gt a b = b < a

pub cmp : (a b : ℕ) → Cmp (compare a b) a b
cmp a b = go (compare a b) (leb→le a b) (nleb→lt a b) (eqb→eq a b) (λ (e : a ≡ b). subst (λ (x : ℕ). T (eqb a x)) e (eqb_refl a))
  where
    go : (o : Ordering) → (T (is_le o) → a ≤ b) → (T (not (is_le o)) → b < a) → (T (compare_is_eq o) → a ≡ b) → (a ≡ b → T (compare_is_eq o)) → Cmp o a b
    go Ordering.lt h k e n = lt_of_le-ne (h tt) n
    go Ordering.eq h k e n = e tt
    go Ordering.gt h k e n = k tt

-- what holds of the two numbers decides the comparison
pub cmp_unique : (o p : Ordering) (a b : ℕ) → Cmp o a b → Cmp p a b → o ≡ p
cmp_unique Ordering.lt Ordering.lt a b x y = refl
cmp_unique Ordering.lt Ordering.eq a b x y = absurd (lt_irrefl a (subst (λ (z : ℕ). a < z) (sym y) x))
cmp_unique Ordering.lt Ordering.gt a b x y = absurd (lt_irrefl a (lt_of_lt_of_le x (le_of_lt y)))
cmp_unique Ordering.eq Ordering.lt a b x y = absurd (lt_irrefl a (subst (λ (z : ℕ). a < z) (sym x) y))
cmp_unique Ordering.eq Ordering.eq a b x y = refl
cmp_unique Ordering.eq Ordering.gt a b x y = absurd (lt_irrefl a (subst (λ (z : ℕ). z < a) (sym x) y))
cmp_unique Ordering.gt Ordering.lt a b x y = absurd (lt_irrefl a (lt_of_lt_of_le y (le_of_lt x)))
cmp_unique Ordering.gt Ordering.eq a b x y = absurd (lt_irrefl a (subst (λ (z : ℕ). z < a) (sym y) x))
cmp_unique Ordering.gt Ordering.gt a b x y = refl

pub compare_is : (o : Ordering) (a b : ℕ) → Cmp o a b → compare a b ≡ o
compare_is o a b h = cmp_unique (compare a b) o a b (cmp a b) h

-- a common factor does not change the comparison
scaled : (o : Ordering) (a b p : ℕ) → 0 < p → Cmp o a b → Cmp o (a * p) (b * p)
scaled Ordering.lt a b p h c = mul-lt-mul_of_pos_right c h
scaled Ordering.eq a b p h c = ap (λ (x : ℕ). x * p) c
scaled Ordering.gt a b p h c = mul-lt-mul_of_pos_right c h

pub compare_scale : (a b p : ℕ) → 0 < p → compare (a * p) (b * p) ≡ compare a b
compare_scale a b p h = compare_is (compare a b) (a * p) (b * p) (scaled (compare a b) a b p h (cmp a b))

-- ---- the root to the nearest whole number

pub near_is : (w q : ℕ) → IsRoot w q → near_root w ≡ nearest q (compare (w * 4) ((q * 2 + 1) * (q * 2 + 1)))
unfolding near_root
near_is w q h = ap (λ (x : ℕ). nearest x (compare (w * 4) ((x * 2 + 1) * (x * 2 + 1)))) (root_unique w (isqrt w) q (isqrt_is w) h)

-- 4 * w is never the square of an odd number
pub near_down : (w q : ℕ) → IsRoot w q → w ≤ q * q + q → near_root w ≡ q
near_down w q h k = near_is w q h ∙ ap (nearest q) (compare_is Ordering.lt (w * 4) ((q * 2 + 1) * (q * 2 + 1)) (omega arith))

pub near_up : (w q : ℕ) → IsRoot w q → q * q + q < w → near_root w ≡ suc q
near_up w q h k = near_is w q h ∙ ap (nearest q) (compare_is Ordering.gt (w * 4) ((q * 2 + 1) * (q * 2 + 1)) (omega arith))
