-- `root_case::root_case` meets its contract. Assumes nothing.
use mathlib.Core.Path.{refl}
use Prim.Native.Nat.{ℕ, ◌%◌, ◌^◌, ◌<◌}
use native.Mathlib.Omega.{arith}
use lib.Dec.{lit<}
use borrow.Author.Tests.{le-leb, lt-leb, eq-eqb, ne_eqb}
use Rattle.root_case.proofs.Pattern.{field, by_tests}
use Rattle.root_case.proofs.Signed.{sum_fits, quot_fits, even_exponent, odd_exponent}
use Rattle.root_case.proofs.root_case.Goals as goal

-- the field has 11 digits
field_lt : (b : ℕ) → field b < 2048
field_lt b = omega arith

pub returns-then-magnitude-eq0 : goal.returns-then-magnitude-eq0
returns-then-magnitude-eq0 c =
    let a = c in
    let b = a.bits_of-b.result in
    by_tests a.args.x b a.well_formed.0.1 a.bits_of-b.ensures (eq-eqb (b % 2 ^ 63) 0 (omega arith)) refl refl refl refl

pub returns-then-field-eq2047 : goal.returns-then-field-eq2047
returns-then-field-eq2047 c =
    let a = c in
    let b = a.bits_of-b.result in
    by_tests a.args.x b a.well_formed.0.1 a.bits_of-b.ensures (ne_eqb (b % 2 ^ 63) 0 (λ e. omega arith))
    (eq-eqb (field b) 2047 (omega arith)) refl refl refl

pub returns-then-magnitude-b : goal.returns-then-magnitude-b
returns-then-magnitude-b c =
    let a = c in
    let b = a.bits_of-b.result in
    by_tests a.args.x b a.well_formed.0.1 a.bits_of-b.ensures (ne_eqb (b % 2 ^ 63) 0 (λ e. omega arith))
    (ne_eqb (field b) 2047 (λ e. omega arith)) (le-leb (2 ^ 63) b (omega arith)) refl refl

pub returns-then-field-eq0 : goal.returns-then-field-eq0
returns-then-field-eq0 c =
    let a = c in
    let b = a.bits_of-b.result in
    by_tests a.args.x b a.well_formed.0.1 a.bits_of-b.ensures (ne_eqb (b % 2 ^ 63) 0 (λ e. omega arith))
    (ne_eqb (field b) 2047 (λ e. omega arith)) (lt-leb (2 ^ 63) b (omega arith)) (eq-eqb (field b) 0 (omega arith)) refl

pub overflow_sub-exponent : goal.overflow_sub-exponent
overflow_sub-exponent c =
    let b = c.bits_of-b.result in
    sum_fits (field b) _ (field_lt b) (lit< tt)

pub nonzero_rem-exponent : goal.nonzero_rem-exponent
nonzero_rem-exponent c =
    let b = c.bits_of-b.result in
    (lit< tt, quot_fits (field b) _ (field_lt b) (lit< tt))

pub returns-then-exponent-eq0 : goal.returns-then-exponent-eq0
returns-then-exponent-eq0 c =
    let a = c in
    let b = a.bits_of-b.result in
    by_tests a.args.x b a.well_formed.0.1 a.bits_of-b.ensures (ne_eqb (b % 2 ^ 63) 0 (λ e. omega arith))
    (ne_eqb (field b) 2047 (λ e. omega arith)) (lt-leb (2 ^ 63) b (omega arith)) (ne_eqb (field b) 0 (λ e. omega arith))
    (even_exponent (field b) (field_lt b) c.if-exponent-eq0.true)

pub returns : goal.returns
returns c =
    let a = c in
    let b = a.bits_of-b.result in
    by_tests a.args.x b a.well_formed.0.1 a.bits_of-b.ensures (ne_eqb (b % 2 ^ 63) 0 (λ e. omega arith))
    (ne_eqb (field b) 2047 (λ e. omega arith)) (lt-leb (2 ^ 63) b (omega arith)) (ne_eqb (field b) 0 (λ e. omega arith))
    (odd_exponent (field b) (field_lt b) c.if-exponent-eq0.false)
