-- `weld_bucket::bucket_of` meets its contract. Assumes nothing.
use borrow.Author.Rules.{rules}
use mathlib.Core.Path.{ap, ◌∙◌}
use Prim.Native.Nat.{ℕ, ◌+◌, ◌*◌, ◌/◌, ◌≤◌, ◌<◌, ◌^◌}
use native.Mathlib.Nat.{mul-le-mul_right}
use native.Mathlib.Omega.{arith}
use mir.Val.{Fits}
use mir.Syntax.{w64}
use Rattle.ieee.specs.Same.{finite_not_nan}
use Rattle.weld_bucket.specs.Bucket.{spread_of, middle_of, fold_of, bucket_of}
use Rattle.weld_bucket.proofs.bucket_of.Goals as goal

scaled : (x n : ℕ) → x < 2 ^ 32 → n < 2 ^ 32 → Fits w64 (x * n)
scaled x n p q = let s : x * n ≤ 4294967295 * n = mul-le-mul_right n (omega arith) in omega arith

below : (x n : ℕ) → x < 2 ^ 32 → 0 < n → x * n / 4294967296 < n
below x n p q = let s : x * n ≤ 4294967295 * n = mul-le-mul_right n (omega arith) in omega arith

pub float_to_bits-p : goal.float_to_bits-p
float_to_bits-p c = finite_not_nan _ c.requires.1.cx.finitely

pub float_to_bits-p-2 : goal.float_to_bits-p-2
float_to_bits-p-2 c = finite_not_nan _ c.requires.1.cy.finitely

pub float_to_bits-p-3 : goal.float_to_bits-p-3
float_to_bits-p-3 c = finite_not_nan _ c.requires.1.cz.finitely

pub overflow_mul-result : goal.overflow_mul-result
overflow_mul-result c = scaled _ _ c.middle-mixed.ensures.1 c.requires.0

pub returns : goal.returns
unfolding bucket_of fold_of
returns c =
    let s = c in
    let x = c.spread-a in
    let y = c.spread-b in
    let z = c.spread-c in
    let sum = c.spread.ensures.0 ∙ (λ i. spread_of (x.ensures.0 i + y.ensures.0 i + z.ensures.0 i) 1721092421 1) in
    (ap (λ (n : ℕ). n * s.args.places / 4294967296) (c.middle-mixed.ensures.0 ∙ ap middle_of sum), below _ _ c.middle-mixed.ensures.1)
