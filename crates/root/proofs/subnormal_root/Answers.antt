-- `root::subnormal_root` meets its contract. Assumes nothing.
use mathlib.Core.Path.{◌≡◌, sym, ap, ◌∙◌, subst}
use mathlib.Core.Bool.{true, false}
use Prim.Native.Nat.{ℕ, ◌+◌, ◌-◌, ◌*◌, ◌/◌, ◌%◌, ◌^◌, ◌≤◌, ◌<◌}
use native.Mathlib.Omega.{arith}
use lib.Count.{count_leading_zeros}
use lib.Dec.{T}
use lib.Ieee.{Float, binary64, fits, to_bits, size, units}
use Rattle.root_case.specs.Case.{root_case}
use Rattle.root_case.specs.declared.RootCase.TheVariants.{Subnormal}
use Rattle.root_whole.specs.Whole.{near_root}
use Rattle.root_case.proofs.Laws.{subnormal_is}
use Rattle.root.proofs.Cases.{Quadrupled, quadrupled, subnormal_units}
use Rattle.root.proofs.Steps.{zeros, shifted}
use Rattle.root.proofs.subnormal_root.Goals as goal

-- what the case says of the pattern
told : (x : Float) (b : ℕ) → b ≡ to_bits binary64 x → fits binary64 x ≡ true → root_case x ≡ Subnormal → (0 < b) × (b < 2 ^ 52)
told x b e f h = subst (λ (b : ℕ). (0 < b) × (b < 2 ^ 52)) (sym e) (subnormal_is x (subst T (sym f) tt) h)

-- the zeros before the digits
counted : (x : Float) (b : ℕ) → b ≡ to_bits binary64 x → fits binary64 x ≡ true → root_case x ≡ Subnormal
    → (count_leading_zeros 64 b + size b ≡ 64) × (size b ≤ 52)
counted x b e f h = let t = told x b e f h in zeros b t.0 t.1

abbrev fours_of : ℕ → ℕ
fours_of b = (count_leading_zeros 64 b - 10) / 2

scaled : (x : Float) (b : ℕ) → b ≡ to_bits binary64 x → fits binary64 x ≡ true → root_case x ≡ Subnormal → Quadrupled b (fours_of b)
scaled x b i f h =
    let t = told x b i f h in
    let n = counted x b i f h in
    let e : (54 - size b) / 2 ≡ fours_of b = omega (arith, n.0, n.1) in
    subst (Quadrupled b) e (quadrupled b t.0 t.1)

pub overflow_cast-fours : goal.overflow_cast-fours
overflow_cast-fours c = omega (arith, (counted c.args.x c.bits_of-b.result c.bits_of-b.ensures c.well_formed.0.1 c.requires).0)

pub overflow_sub-fours : goal.overflow_sub-fours
overflow_sub-fours c = omega (arith, (counted c.args.x c.bits_of-b.result c.bits_of-b.ensures c.well_formed.0.1 c.requires).0, (counted c.args.x c.bits_of-b.result c.bits_of-b.ensures c.well_formed.0.1 c.requires).1)

pub overflow_mul-fours : goal.overflow_mul-fours
overflow_mul-fours c = omega (arith, (counted c.args.x c.bits_of-b.result c.bits_of-b.ensures c.well_formed.0.1 c.requires).0)

pub overflow_shl-b : goal.overflow_shl-b
overflow_shl-b c = omega (arith, (scaled c.args.x c.bits_of-b.result c.bits_of-b.ensures c.well_formed.0.1 c.requires).few)

pub near_root-q-requires : goal.near_root-q-requires
near_root-q-requires c =
    let b = c.bits_of-b.result in
    let e : b * 2 ^ (2 * fours_of b) % 2 ^ 64 ≡ b * 4 ^ fours_of b = shifted b (fours_of b) (scaled c.args.x c.bits_of-b.result c.bits_of-b.ensures c.well_formed.0.1 c.requires) in
    (rw e (scaled c.args.x c.bits_of-b.result c.bits_of-b.ensures c.well_formed.0.1 c.requires).low, rw e (scaled c.args.x c.bits_of-b.result c.bits_of-b.ensures c.well_formed.0.1 c.requires).high)

pub overflow_sub-fours-2 : goal.overflow_sub-fours-2
overflow_sub-fours-2 c = omega (arith, (scaled c.args.x c.bits_of-b.result c.bits_of-b.ensures c.well_formed.0.1 c.requires).few)

pub of_digits-requires : goal.of_digits-requires
of_digits-requires c = (c.near_root-q.ensures.1, c.near_root-q.ensures.2, omega arith)

pub returns : goal.returns
returns c =
    let p = c in
    let b = p.bits_of-b.result in
    let n = counted p.args.x p.bits_of-b.result p.bits_of-b.ensures p.well_formed.0.1 p.requires in
    let f = fours_of b in
    let e : f ≡ (54 - size b) / 2 = omega (arith, n.0, n.1) in
    c.of_digits.ensures
    ∙ ap (λ (q : ℕ). units binary64 false q (511 - f)) c.near_root-q.ensures.0
    ∙ ap (λ (m : ℕ). units binary64 false (near_root (m * 2 ^ 52)) (511 - f)) (shifted b f (scaled p.args.x p.bits_of-b.result p.bits_of-b.ensures p.well_formed.0.1 p.requires))
    ∙ sym (subnormal_units p.args.x b f p.bits_of-b.ensures (told p.args.x p.bits_of-b.result p.bits_of-b.ensures p.well_formed.0.1 p.requires).0 (told p.args.x p.bits_of-b.result p.bits_of-b.ensures p.well_formed.0.1 p.requires).1 e)
