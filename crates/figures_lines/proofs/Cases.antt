-- The text of each case, from what is put in that case. Assumes nothing.
use mathlib.Core.Path.{◌≡◌, sym, subst}
use mathlib.Core.Bool.{Bool, true, false}
use Rattle.root_case.specs.declared.RootCase.{RootCase}
use Rattle.slice_text.specs.Ascii.{ascii}
use Rattle.slice_text.specs.Line.{Line, Puts}
use Rattle.figures_lines.specs.Figures.{case_name, border_of}

-- the name of a case k that is known to be j
pub case_text : {k j : RootCase} {l m : Line} → k ≡ j → Puts (case_name j) l m → Puts (case_name k) l m
case_text {l = l} {m = m} e p = subst (λ (i : RootCase). Puts (case_name i) l m) (sym e) p

pub closed_text : (b : Bool) {l m : Line} → b ≡ true → Puts (ascii ", closed\n") l m → Puts (border_of b) l m
unfolding border_of
closed_text b e p = rw e p

pub open_text : (b : Bool) {l m : Line} → b ≡ false → Puts (ascii ", open\n") l m → Puts (border_of b) l m
unfolding border_of
open_text b e p = rw e p
