-- `root_whole::guess::guess` meets its contract. Assumes nothing.
use Rattle.std.proofs.Common.{ℕ, ◌+◌, ◌-◌, ◌*◌, ◌/◌, ◌%◌, ◌^◌, ◌<◌, ◌≤◌, le_trans, lt_of_le_of_lt, mul-le-mul_right, mul-le-mul, mul-le-mul_left, div-mul-le_self, arith}
use Rattle.root_whole.proofs.Bounds.{below_word}
use Rattle.root_whole.proofs.guess.guess.Goals as goal

-- t, v, c and the factor of c in the code
abbrev t_of : ℕ → ℕ
t_of m = m / 2 ^ (m / 2 ^ 53) / 2 ^ 21 % 2 ^ 31

abbrev v_of : ℕ → ℕ
v_of m = 115894705 - t_of m * 26776358 / 2 ^ 31

abbrev c_of : ℕ → ℕ
c_of m = 1073816357 + t_of m * 533907646 / 2 ^ 31 - t_of m * t_of m / 2 ^ 31 * v_of m / 2 ^ 31

abbrev unit_of : ℕ → ℕ
unit_of m = 2 ^ 31 + m / 2 ^ 53 * 0x3504f334

-- a share of a number is at most the number
share : (t a : ℕ) → t < 2 ^ 31 → t * a / 2 ^ 31 ≤ a
share t a h = let k : t ≤ 2 ^ 31 = omega arith in omega (arith, mul-le-mul_right a k)

u_below : (m : ℕ) → t_of m * t_of m / 2 ^ 31 < 2 ^ 31
u_below m = omega (arith, share (t_of m) (t_of m) (omega arith))

-- c is near 2 ^ 30
fall : (m : ℕ) → t_of m * t_of m / 2 ^ 31 * v_of m / 2 ^ 31 ≤ 115894705
fall m = omega (arith, share (t_of m * t_of m / 2 ^ 31) (v_of m) (u_below m))

c_low : (m : ℕ) → 957921652 ≤ c_of m
c_low m = omega (arith, fall m)

c_high : (m : ℕ) → c_of m ≤ 1607724003
c_high m = omega arith

-- and s is near it, or near its product with the square root of 2
s_of_low : (c w : ℕ) → 957921652 ≤ c → 957921652 ≤ c * (2 ^ 31 + w) / 2 ^ 31
s_of_low c w h = omega arith

s_of_high : (c w : ℕ) → c ≤ 1607724003 → w ≤ 0x3504f334 → c * (2 ^ 31 + w) / 2 ^ 31 < 2273666000
s_of_high c w h k = let u : 2 ^ 31 + w ≤ 2 ^ 31 + 0x3504f334 = omega arith in omega (arith, mul-le-mul h u)

-- a quotient by s
quotient : (n s : ℕ) → 957921652 ≤ s → n < 2 ^ 62 → n / s * 957921652 < 2 ^ 62
quotient n s h k = lt_of_le_of_lt (le_trans (mul-le-mul_left (n / s) h) (div-mul-le_self n s)) k

low : (m : ℕ) → 957921652 ≤ c_of m * unit_of m / 2 ^ 31
low m = s_of_low (c_of m) (m / 2 ^ 53 * 0x3504f334) (c_low m)

high : (m : ℕ) → m < 2 ^ 54 → c_of m * unit_of m / 2 ^ 31 < 2273666000
high m h = s_of_high (c_of m) (m / 2 ^ 53 * 0x3504f334) (c_high m) (omega arith)

divided : (m : ℕ) → m < 2 ^ 54 → m * 256 / (c_of m * unit_of m / 2 ^ 31) * 957921652 < 2 ^ 62
divided m h = quotient (m * 256) (c_of m * unit_of m / 2 ^ 31) (low m) (omega arith)

pub overflow_shr-t : goal.overflow_shr-t
overflow_shr-t c = omega arith

pub overflow_mul-u : goal.overflow_mul-u
overflow_mul-u c = let t = t_of c.args.m in record { fits = below_word t t (omega arith) (omega arith) }

pub overflow_mul-v : goal.overflow_mul-v
overflow_mul-v c = omega arith

pub overflow_sub-v : goal.overflow_sub-v
overflow_sub-v c = omega arith

pub overflow_mul-c : goal.overflow_mul-c
overflow_mul-c c = omega arith

pub overflow_add-c : goal.overflow_add-c
overflow_add-c c = omega arith

pub overflow_mul-c-2 : goal.overflow_mul-c-2
overflow_mul-c-2 c = let m = c.args.m in record { fits = below_word (t_of m * t_of m / 2 ^ 31) (v_of m) (omega (arith, u_below m)) (omega arith) }

pub overflow_sub-c : goal.overflow_sub-c
overflow_sub-c c = omega (arith, fall c.args.m)

pub overflow_mul-s : goal.overflow_mul-s
overflow_mul-s c = omega arith

pub overflow_add-s : goal.overflow_add-s
overflow_add-s c = omega arith

pub overflow_mul-s-2 : goal.overflow_mul-s-2
overflow_mul-s-2 c = let m = c.args.m in record { fits = below_word (c_of m) (unit_of m) (omega (arith, c_high m)) (omega arith) }

pub overflow_sub-result : goal.overflow_sub-result
overflow_sub-result c = omega (arith, low c.args.m)

pub overflow_mul-result : goal.overflow_mul-result
overflow_mul-result c = omega arith

pub nonzero_div-result : goal.nonzero_div-result
nonzero_div-result c = omega (arith, low c.args.m)

pub overflow_add-result : goal.overflow_add-result
overflow_add-result c = omega (arith, high c.args.m c.requires.1, divided c.args.m c.requires.1)

pub returns : goal.returns
returns c = omega (arith, high c.args.m c.requires.1, divided c.args.m c.requires.1)
