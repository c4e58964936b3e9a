-- `trig::on_axis` meets its contract, by cases on the number. Assumes nothing.
use Rattle.std.proofs.Common.{rules, ◌≡◌, refl, sym, ap, ℕ, zero, suc}
use lib.Ieee.{of_bits, of_int, neg}
use Rattle.trig_spec.specs.Trig.{on_axis}
use Rattle.trig.proofs.on_axis.Goals as goal

last : (k : ℕ) → (k ≡ 0 → ⊥) → (k ≡ 1 → ⊥) → (k ≡ 2 → ⊥) → on_axis 3 ≡ on_axis k
unfolding on_axis
last zero a b d = absurd (a refl)
last (suc zero) a b d = absurd (b refl)
last (suc (suc zero)) a b d = absurd (d refl)
last (suc (suc (suc k))) a b d = refl

pub returns-in-0 : goal.returns-in-0
unfolding on_axis of_bits of_int
returns-in-0 c = sym (ap on_axis c.in-0.is)

pub returns-in-1 : goal.returns-in-1
unfolding on_axis of_bits of_int
returns-in-1 c = sym (ap on_axis c.in-1.is)

pub returns-in-2 : goal.returns-in-2
unfolding on_axis of_bits of_int neg
returns-in-2 c = sym (ap on_axis c.in-2.is)

pub returns-in_default : goal.returns-in_default
unfolding on_axis of_bits of_int neg
returns-in_default c = last c.args.k (search rules) (search rules) (search rules)
