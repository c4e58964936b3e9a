-- A slice whose places from one on are zero (docs/SCOPE.md, "Refusals": unused mesh places are zero).
use Rattle.std.specs.Prelude.{List, ◌++◌, ℕ, ◌-◌, length, take, replicate}

-- the first `from` elements as they are, z in every later place
unfoldable pub cleared_from : {A : Type 0} → A → ℕ → List A → List A
cleared_from z from l = take from l ++ replicate (length l - from) z
