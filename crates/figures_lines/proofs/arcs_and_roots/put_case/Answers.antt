-- `figures_lines::arcs_and_roots::put_case` meets its contract. Assumes nothing.
use borrow.Author.Rules.{rules}
use Rattle.figures_lines.proofs.Cases.{case_text}
use Rattle.figures_lines.proofs.arcs_and_roots.put_case.Goals as goal

pub returns-in-Zero : goal.returns-in-Zero
returns-in-Zero c = case_text c.in-Zero.is c.put.ensures

pub returns-in-NotFinite : goal.returns-in-NotFinite
returns-in-NotFinite c = case_text c.in-NotFinite.is c.put-in-NotFinite.ensures

pub returns-in-Negative : goal.returns-in-Negative
returns-in-Negative c = case_text c.in-Negative.is c.put-in-Negative.ensures

pub returns-in-Subnormal : goal.returns-in-Subnormal
returns-in-Subnormal c = case_text c.in-Subnormal.is c.put-in-Subnormal.ensures

pub returns-in-EvenExponent : goal.returns-in-EvenExponent
returns-in-EvenExponent c = case_text c.in-EvenExponent.is c.put-in-EvenExponent.ensures

pub returns-in-OddExponent : goal.returns-in-OddExponent
returns-in-OddExponent c = case_text c.in-OddExponent.is c.put-in-OddExponent.ensures
