-- Which refusal `append` answers where several are due, by computation: 8 for counts and numbers, 1, 8 for the box, 7. The slices have places for two
-- vertices and none for a triangle. Assumes nothing.
use Rattle.std.specs.Prelude.{◌≡◌, refl}
use Rattle.std.specs.Float.{nan, binary64}
use Rattle.std.specs.Float.Ieee.{add, of_int, of_bits, eq, lt, is_nan}
use Rattle.ieee.specs.Number.{minimum, maximum}
use Rattle.slice.specs.Every.{counted_places, every}
use Rattle.math.specs.Vec.{v_min, v_max}
use Rattle.math.specs.Box.{empty_box, include}
use Rattle.mesh_spec.specs.Mesh.{plus_zero_v, same_point, append}
use Rattle.mesh_spec.specs.Measures.{including, plus_zero_box, box_of, bounding_box, same_box}
use Rattle.refusal.specs.Answer.{Answer, Accepted, NotFinite, NoRoom, BadMesh}
use Rattle.mesh_check.specs.State.{State, mesh_of, bad_mesh, not_finite, has_right_box, bad_box, no_room}
use Rattle.mesh_check.specs.BoxExamples.{between, first, first_from, second, claims}
use Rattle.mesh_check_append.specs.Append.{append_refusal}

-- append_refusal, with what it takes to compute it
unfoldable answer : State → State → Answer
unfolding append_refusal bad_mesh not_finite bad_box has_right_box no_room append counted_places every mesh_of bounding_box box_of including include empty_box
    plus_zero_box plus_zero_v same_box same_point v_min v_max minimum maximum is_nan lt eq add of_int of_bits
answer s o = append_refusal s o

-- one vertex under its box, and under another; one that is not finite; both places taken; one vertex more than there are places
abbrev right : State
right = claims 1 first second (between first first)

abbrev wrong : State
wrong = claims 1 first second (between first second)

abbrev infinite : State
infinite = claims 1 (first_from nan) second (between first first)

abbrev full : State
full = claims 2 first second (between first second)

abbrev beyond : State
beyond = claims 3 first second (between first second)

accepted : answer right right ≡ Accepted
unfolding answer
accepted = refl

no_room_lem : answer full right ≡ NoRoom
unfolding answer
no_room_lem = refl

-- the box of either counts
first_box : answer wrong right ≡ BadMesh
unfolding answer
first_box = refl

other_box : answer right wrong ≡ BadMesh
unfolding answer
other_box = refl

box_before_room : answer full wrong ≡ BadMesh
unfolding answer
box_before_room = refl

-- 1 of the other mesh comes before the box of the first
finite_before_box : answer wrong infinite ≡ NotFinite
unfolding answer
finite_before_box = refl

-- and 8 of the other's counts before 1 of the first
counts_before_finite : answer infinite beyond ≡ BadMesh
unfolding answer
counts_before_finite = refl
