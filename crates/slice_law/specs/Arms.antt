-- A match on a number: the value at the number that an arm names, and the numbers that no arm names. Assumes nothing.
use Rattle.std.specs.Prelude.{◌≡◌, ℕ}
use Rattle.std.proofs.Common.{sym, ap, ◌∙◌}

pub of_kind : {A : Type 0} (f : ℕ → A) (j : ℕ) {k : ℕ} {r : A} → k ≡ j → r ≡ f j → r ≡ f k
of_kind f j h e = e ∙ sym (ap f h)

abbrev pub Not : ℕ → ℕ → Type 0
Not k j = k ≡ j → ⊥
