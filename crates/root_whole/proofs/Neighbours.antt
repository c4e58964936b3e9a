-- A number that is nearer to the root than both its neighbours is the root to the nearest whole number, and the tests of `near_root` find that number.
-- Nothing here is about floats. Assumes nothing.
use Rattle.std.proofs.Common.{◌≡◌, ℕ, zero, suc, ◌+◌, ◌-◌, ◌*◌, ◌/◌, ◌%◌, ◌^◌, ◌<◌, ◌≤◌, Bool, true, false, not, T, leb, sym, ap, ◌∙◌, subst, mul-le-mul_right, mod-lt, mul_comm, mul-le-mul, mul-le-mul_left, lt_of_not-le, div-add-mod', arith, leb→le}
use lib.Dec.{nleb→lt}
use Rattle.root_whole.specs.Whole.{isqrt, near_root}
use Rattle.root_whole.proofs.Roots.{IsRoot, isqrt_is, root_ge, near_down, near_up}

-- the root of w is from r - 1 / 2 up to r + 1 / 2, said of the whole number w
pub record Near (w r : ℕ) : Type 0 where
  pub low : r * r < w + r
  pub high : w ≤ r * r + r

near_by : (w r : ℕ) → Near w r → r ≡ near_root w
near_by w zero n = let l : 0 < w + 0 = n.low in let h : w ≤ 0 = n.high in absurd (omega arith)
near_by w (suc p) n = go (leb (suc p * suc p) w) (leb→le (suc p * suc p) w) (nleb→lt (suc p * suc p) w)
  where
    l : suc p * suc p < w + suc p
    l = n.low

    h : w ≤ suc p * suc p + suc p
    h = n.high

    go : (b : Bool) → (T b → suc p * suc p ≤ w) → (T (not b) → w < suc p * suc p) → suc p ≡ near_root w
    go true y z = let k = y tt in sym (near_down w (suc p) (record { low = k; high = omega arith }) h)
    go false y z = let k = z tt in sym (near_up w p (record { low = omega arith; high = omega arith }) (omega arith))

-- and the root to the nearest whole number is nearer than its neighbours
near_root_by : (w q : ℕ) → IsRoot w q → 0 < q → Near w (near_root w)
near_root_by w q is p = go (leb w (q * q + q)) (leb→le w (q * q + q)) (nleb→lt w (q * q + q))
  where
    lo : q * q ≤ w
    lo = is.low

    hi : w < (q + 1) * (q + 1)
    hi = is.high

    go : (b : Bool) → (T b → w ≤ q * q + q) → (T (not b) → q * q + q < w) → Near w (near_root w)
    go true y z = let k = y tt in subst (Near w) (sym (near_down w q is k)) (record { low = omega arith; high = k })
    go false y z = let k = z tt in subst (Near w) (sym (near_up w q is k)) (record { low = omega arith; high = omega arith })

-- with p for 2 ^ 53
under : (m p r : ℕ) → m + 2 ≤ 2 * p → 2 * (r * r) < m * p + 2 * r → r < p
under m p r h k = lt_of_not-le (λ (g : p ≤ r). omega (arith, mul-le-mul_left m g, mul-le-mul_right r h, mul-le-mul_right r g))

-- the root of m * 2 ^ 52 has 53 digits
near_range : (m r : ℕ) → 2 ^ 52 ≤ m → m + 2 ≤ 2 ^ 54 → Near (m * 2 ^ 52) r → (2 ^ 52 ≤ r) × (r < 2 ^ 53)
near_range m r a b n = (
  lt_of_not-le (λ (g : r ≤ 2 ^ 52 - 1). omega (arith, mul-le-mul_right r g, n.high)),
  under m (2 ^ 53) r b (let l : r * r < m * 2 ^ 52 + r = n.low in omega arith),
)

-- so has the root to the nearest whole number
pub near_digits : (m : ℕ) → 2 ^ 52 ≤ m → m + 2 ≤ 2 ^ 54 → (2 ^ 52 ≤ near_root (m * 2 ^ 52)) × (near_root (m * 2 ^ 52) < 2 ^ 53)
near_digits m a b =
    let is = isqrt_is (m * 2 ^ 52) in
    let p : 1 ≤ isqrt (m * 2 ^ 52) = root_ge (m * 2 ^ 52) (isqrt (m * 2 ^ 52)) 1 is (omega arith) in
    near_range m (near_root (m * 2 ^ 52)) a b (near_root_by (m * 2 ^ 52) (isqrt (m * 2 ^ 52)) is p)

pub rounded : (m r : ℕ) → 2 ^ 52 ≤ m → m + 2 ≤ 2 ^ 54 → Near (m * 2 ^ 52) r → (r ≡ near_root (m * 2 ^ 52)) × (2 ^ 52 ≤ r) × (r < 2 ^ 53)
rounded m r a b n = let g = near_range m r a b n in (near_by (m * 2 ^ 52) r n, g.0, g.1)

-- ---- what `near_root` works with: h is the root's leading digits and l those that follow, a and d are what they leave of m * 2 ^ 8 and of a * 2 ^ 21

-- what holds where the test is passed
pub record Split (m h a l d : ℕ) : Type 0 where
  pub large : 2 ^ 52 ≤ m
  pub first : h * h + a ≡ m * 2 ^ 8
  pub close : a ≤ 16 * h
  pub second : h * l + d ≡ a * 2 ^ 21
  pub rest : d < h

-- the difference that `near_root` takes did not wrap where it is small
pub exact : (m h a : ℕ) → (a + h * h) % 2 ^ 64 ≡ m * 2 ^ 8 → a ≤ 16 * h → h + 16 < 2 ^ 32 → h * h + a ≡ m * 2 ^ 8
exact m h a e t b =
    let k : h ≤ 2 ^ 32 - 17 = omega arith in
    omega (arith, e, mul-le-mul k k)

-- h has at least 30 digits
pub enough_digits : (m h a : ℕ) → 2 ^ 52 ≤ m → h * h + a ≡ m * 2 ^ 8 → a ≤ 16 * h → 2 ^ 29 ≤ h
enough_digits m h a b e t = lt_of_not-le (λ (g : h ≤ 2 ^ 29 - 1). omega (arith, mul-le-mul g g))

few_digits : (h a l d : ℕ) → h * l + d ≡ a * 2 ^ 21 → a ≤ 16 * h → 0 < h → l < 2 ^ 25 + 1
few_digits h a l d e t p = lt_of_not-le (λ (g : 2 ^ 25 + 1 ≤ l). omega (arith, mul-le-mul_right h g))

-- the quotient and the rest by h
pub split : (m h a : ℕ) → 2 ^ 52 ≤ m → h * h + a ≡ m * 2 ^ 8 → a ≤ 16 * h → Split m h a (a * 2 ^ 21 / h) (a * 2 ^ 21 % h)
split m h a b e t =
    let n : 2 ^ 29 ≤ h = enough_digits m h a b e t in
    record {
      large = b;
      first = e;
      close = t;
      second = ap (λ (x : ℕ). x + a * 2 ^ 21 % h) (mul_comm h (a * 2 ^ 21 / h)) ∙ div-add-mod' (a * 2 ^ 21) h;
      rest = mod-lt (a * 2 ^ 21) (omega arith);
    }

-- the number is q * q - l * l + d * 2 ^ 23, for the q that is h * 2 ^ 22 + l
whole : {m h a l d : ℕ} → Split m h a l d → (h * 2 ^ 22 + l) * (h * 2 ^ 22 + l) + d * 2 ^ 23 ≡ m * 2 ^ 52 + l * l
whole s = omega (arith, s.first, s.second)

-- l is at most 2 ^ 25
pub small : {m h a l d : ℕ} → Split m h a l d → l < 2 ^ 25 + 1
small {m} {h} {a} {l} {d} s =
    let n : 2 ^ 29 ≤ h = enough_digits m h a s.large s.first s.close in
    few_digits h a l d s.second s.close (omega arith)

-- so its square is below q
pub small_square : {m h a l d : ℕ} → Split m h a l d → l * l < h * 2 ^ 22 + l
small_square {m} {h} {a} {l} {d} s =
    let n : 2 ^ 29 ≤ h = enough_digits m h a s.large s.first s.close in
    let k : l ≤ 2 ^ 25 = (let f = small s in omega arith) in
    omega (arith, mul-le-mul k k)

-- the answer: q
pub kept : {m h a l d : ℕ} → Split m h a l d → d * 2 ^ 23 ≤ l * l + (h * 2 ^ 22 + l) → Near (m * 2 ^ 52) (h * 2 ^ 22 + l)
kept {m} {h} {l = l} {d = d} s k = same (h * 2 ^ 22 + l) (m * 2 ^ 52) (l * l) (d * 2 ^ 23) (whole s) (small_square s) k
  where
    same : (q w z e : ℕ) → q * q + e ≡ w + z → z < q → e ≤ z + q → Near w q
    same q w z e h a b = record { low = omega arith; high = omega arith }

-- or one more
pub raised : {m h a l d : ℕ} → Split m h a l d → l * l + (h * 2 ^ 22 + l) < d * 2 ^ 23 → Near (m * 2 ^ 52) (h * 2 ^ 22 + l + 1)
raised {m} {h} {l = l} {d = d} s j =
    let r : d < h = s.rest in
    next (h * 2 ^ 22 + l) (m * 2 ^ 52) (l * l) (d * 2 ^ 23) (whole s) j (omega arith)
  where
    next : (q w z e : ℕ) → q * q + e ≡ w + z → z + q < e → e ≤ 2 * q → Near w (q + 1)
    next q w z e h a b = record { low = omega arith; high = omega arith }
