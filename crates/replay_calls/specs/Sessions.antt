-- The meshes A and B between calls. Definitions only.
use Rattle.std.specs.Prelude.{Bool, true, ℕ}
use Rattle.replay_format.specs.declared.head.Head.{Head}
use Rattle.mesh_check.specs.declared.TriMesh.{TriMesh}
use Rattle.mesh_check.specs.State.{record_of, empty_record}
use Rattle.replay_calls.specs.declared.session.Answer.{Answer}
use Rattle.replay_calls.specs.declared.session.Held.{Held}
use Rattle.replay_calls.specs.declared.session.Session.{Session}

-- a mesh with no vertices and the empty box, in slices of no places
abbrev pub no_mesh : Held
no_mesh = record { mesh = empty_record; floats = 0; numbers = 0 }

-- two empty meshes, before the first call
abbrev pub beginning : Session
beginning = record { a = no_mesh; b = no_mesh; going = true }

-- the same meshes, and whether the run goes on
abbrev pub going_on : Session → Bool → Session
going_on s w = record { a = s.a; b = s.b; going = w }

-- A and B exchanged
abbrev pub exchanged : Session → Session
exchanged s = record { a = s.b; b = s.a; going = s.going }

-- A is what a call answered, in slices of these lengths
abbrev pub after_call : Session → Answer → ℕ → ℕ → Session
after_call s r floats numbers = record { a = record { mesh = r.mesh; floats = floats; numbers = numbers }; b = s.b; going = r.written }

-- the counts and the box that a case claims for the mesh that it loads
abbrev pub claimed : Head → TriMesh
claimed h = record_of h.vertex_count h.triangle_count h.bounds
