-- The words of the planner's promise, of the solids of a file in order. Definitions only.
use Rattle.std.specs.Prelude.{List, [], ◌∷◌}
use Rattle.tessellate_spec.specs.Outcome.{Job}
use Rattle.tessellate_law.specs.Words.{Accepts, FitsSolid, Solid}
use Rattle.fixture_spec.specs.Outcome.{solid_lent}

-- every solid is one of demand 3's list, with what the demand asks of it
abbrev pub AllSolid : List Job → Type 0
AllSolid [] = Unit
AllSolid (j ∷ js) = Solid j.shape j.list × AllSolid js

-- a property of every solid
abbrev pub EachJob : (Job → Type 0) → List Job → Type 0
EachJob Q [] = Unit
EachJob Q (j ∷ js) = Q j × EachJob Q js

-- every solid is accepted in the slices that a solid is drawn in
abbrev pub AllAccepted : List Job → Type 0
AllAccepted js = EachJob (λ j. Accepts j solid_lent) js

-- the floats of every solid are floats of binary64, as far as demand 3 asks for it
abbrev pub AllFitting : List Job → Type 0
AllFitting js = EachJob (λ j. FitsSolid j.shape j.list) js
