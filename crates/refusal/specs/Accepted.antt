-- Whether an answer is no refusal, and the first of two. Definitions only.
use Rattle.std.specs.Prelude.{Bool, cond, eqb}
use Rattle.refusal.specs.Answer.{Answer}
use Rattle.refusal.specs.Number.{number_of}

-- no refusal
abbrev pub is_accepted : Answer → Bool
is_accepted r = eqb (number_of r) 0

-- the first of two refusals
unfoldable pub or_else : Answer → Answer → Answer
or_else r s = cond (is_accepted r) s r
