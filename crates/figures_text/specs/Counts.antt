-- The text of counts and measures, or of their refusals. Definitions only.
use Rattle.std.specs.Prelude.{cond, List, ◌++◌, ℕ, ltb, Result, Ok, Err, Some}
use Rattle.refusal.specs.declared.Refusal.{Refusal}
use Rattle.refusal.specs.Number.{number_of}
use Rattle.mesh_check.specs.declared.TriMesh.{TriMesh}
use Rattle.slice_text.specs.Ascii.{ascii}
use Rattle.slice_text.specs.Numbers.{decimal_of}
use Rattle.figures_text.specs.Floats.{float_bits_of}

-- a refusal by its number
abbrev pub refusal_of : ℕ → List ℕ
refusal_of n = ascii "refusal " ++ decimal_of n

-- a measure by its bits, or its refusal
abbrev pub measured_of : Result ℕ Refusal → List ℕ
measured_of (Ok bits) = float_bits_of bits
measured_of (Err refusal) = refusal_of (number_of (Some refusal))

-- the counts of a mesh, or the refusal by its number, which is 0 where there is none
unfoldable pub counts_of : ℕ → TriMesh → List ℕ
counts_of refused m =
    cond (ltb 0 refused) (refusal_of refused) (decimal_of m.vertices ++ (ascii " vertices, " ++ (decimal_of m.triangles ++ ascii " triangles")))
