-- The root's cases as numbers, which other languages read. Definitions only.
use Rattle.std.specs.Prelude.{ℕ}
use Rattle.root_case.specs.declared.RootCase.{RootCase}
use Rattle.root_case.specs.declared.RootCase.TheVariants.{Zero, NotFinite, Negative, Subnormal, EvenExponent, OddExponent}

-- the place of a case in the list of `RootCase`, from 0 on
abbrev pub place_of : RootCase → ℕ
place_of Zero = 0
place_of NotFinite = 1
place_of Negative = 2
place_of Subnormal = 3
place_of EvenExponent = 4
place_of OddExponent = 5
