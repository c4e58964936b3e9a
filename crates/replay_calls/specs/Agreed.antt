-- The refusal that the four measures of a mesh answer (tests/README.md). Definitions only.
use Rattle.std.specs.Prelude.{cond, ◌&&◌, ℕ, eqb}

-- the number that all four agree on, else 255
unfoldable pub agreed_of : ℕ → ℕ → ℕ → ℕ → ℕ
agreed_of a b c d = cond (eqb a b && eqb a c && eqb a d) a 255
