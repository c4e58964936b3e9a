-- `ieee_whole::half_up` meets its contract: a + a is exact, and the whole part of 2 a, plus 1, halved, is the whole number nearest to a. Assumes nothing.
use Rattle.std.proofs.Common.{◌≡◌, ℕ, ◌+◌, ◌/◌, ◌^◌, ◌≤◌, true, false, T, pos, sym, ap, ◌∙◌, subst, arith}
use lib.Ieee.{Float, fin, binary64, fits, le, lt}
use Rattle.ieee.specs.Number.{plus_zero}
use Rattle.ieee_whole.proofs.Near.{Halved, half_up_lem}
use Rattle.ieee_whole.proofs.half_up.Goals as goal

facts : (a : Float) → fits binary64 a ≡ true → T (le plus_zero a) → T (lt a (fin false 1 (pos 52))) → Halved a
facts a f l u = half_up_lem a (subst T (sym f) tt) l u

pub truncating_f64_to_u64-requires : goal.truncating_f64_to_u64-requires
truncating_f64_to_u64-requires c = record { lower_bound = (facts c.args.a c.well_formed.0.1 c.requires.not_negative c.requires.below_all_whole).0; upper_bound = (facts c.args.a c.well_formed.0.1 c.requires.not_negative c.requires.below_all_whole).1 }

pub overflow_add-result : goal.overflow_add-result
overflow_add-result c = omega (arith, (facts c.args.a c.well_formed.0.1 c.requires.not_negative c.requires.below_all_whole).4, c.truncating_f64_to_u64.ensures)

pub returns : goal.returns
returns c =
    let is = ap (λ (u : ℕ). (u + 1) / 2) c.truncating_f64_to_u64.ensures ∙ (facts c.args.a c.well_formed.0.1 c.requires.not_negative c.requires.below_all_whole).2 in
    record { nearest = is; at_most_all_whole = subst (λ (u : ℕ). u ≤ 2 ^ 52) (sym is) (facts c.args.a c.well_formed.0.1 c.requires.not_negative c.requires.below_all_whole).3 }
