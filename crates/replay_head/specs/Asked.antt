-- What a case asks for, by the call's number (tests/README.md, "A case"). Definitions only.
use Rattle.std.specs.Prelude.{Bool, true, cond, ◌&&◌, ℕ, eqb, leb}
use Rattle.replay_format.specs.declared.head.Head.{Head}

-- the mesh's slices have no more than the most places
abbrev pub mesh_allowed_of : Head → Bool
mesh_allowed_of h = leb h.vertex_floats 196608 && leb h.triangle_numbers 393216

-- no more than the most places, by the call's number: 1 tessellates, 2 clips, 8 loads, and the others lend what the mesh has
unfoldable pub allowed_of_call : ℕ → Head → Bool
allowed_of_call k h =
    cond (eqb k 1) (mesh_allowed_of h && leb h.work_numbers 131072)
    (cond (eqb k 2) (leb h.triangle_numbers 131072)
    (cond (eqb k 8) (mesh_allowed_of h)
    true))

-- whether a case asks for no more than the most places
abbrev pub allowed_of : Head → Bool
allowed_of h = allowed_of_call h.what h

-- n before a call, by the call's number: 8 loads, and reads its own
unfoldable pub before_call : ℕ → ℕ → ℕ
before_call k n = cond (eqb k 8) 0 n

-- how many floats of the list are read before the call
abbrev pub list_floats_of : Head → ℕ
list_floats_of h = before_call h.what h.list_floats

-- how many numbers are passed over before the call
abbrev pub passed_of : Head → ℕ
passed_of h = before_call h.what h.loaded_numbers
