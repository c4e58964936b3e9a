-- `counted_span` by cases, one law for each branch of the code. Assumes nothing.
use mathlib.Core.Path.{◌≡◌, refl, sym, ◌∙◌}
use mathlib.Core.Bool.{true, false, true≢false}
use lib.Ieee.{Float, nan, inf, fin, eq, is_nan}
use Rattle.ieee.specs.Number.{plus_zero, minimum, absolute, tau}
use Rattle.ieee.specs.Same.{eq_refl, T_true}
use Rattle.shape_arc.specs.Arc.{counted_span}

pub counted : (x r : Float) → eq x x ≡ true → r ≡ minimum (absolute x) tau → r ≡ counted_span x
unfolding counted_span is_nan eq
counted nan r e d = absurd (true≢false (sym e))
counted (inf s) r e d = d
counted (fin s m k) r e d = d

pub uncounted : (x : Float) → eq x x ≡ false → plus_zero ≡ counted_span x
unfolding counted_span is_nan
uncounted nan e = refl
uncounted (inf s) e = absurd (true≢false (sym (T_true (eq (inf s) (inf s)) (eq_refl (inf s) tt)) ∙ e))
uncounted (fin s m k) e = absurd (true≢false (sym (T_true (eq (fin s m k) (fin s m k)) (eq_refl (fin s m k) tt)) ∙ e))
