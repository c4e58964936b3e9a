-- The bytes of a text. Definitions only.
use Rattle.std.specs.Prelude.{List, [], ◌∷◌, ℕ}
use Prim.Native.Char.{code}
use Prim.Native.String.{String, [] as none, ◌∷◌ as ◌before◌}

-- a text of ASCII characters as bytes
abbrev pub ascii : String → List ℕ
ascii none = []
ascii (c before s) = code c ∷ ascii s
