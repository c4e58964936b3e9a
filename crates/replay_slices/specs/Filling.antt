-- Lent slices filled with the byte A5 before a call (tests/README.md, "A case"). Definitions only.
use Rattle.std.specs.Prelude.{List, ℕ, Float}
use Rattle.std.specs.Float.{binary64}
use Rattle.std.specs.Float.Ieee.{of_bits}
use Rattle.slice.specs.Cleared.{cleared_from}

-- the byte A5 four times
abbrev pub word_a5 : ℕ
word_a5 = 2779096485

-- the float of the byte A5 eight times
abbrev pub float_a5 : Float
float_a5 = of_bits binary64 11936128518282651045

-- z in every place of a slice
abbrev pub filled : {A : Type 0} → A → List A → List A
filled z l = cleared_from z 0 l
