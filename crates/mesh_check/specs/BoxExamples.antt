-- Which boxes of a record are accepted, by computation. The slices have places for two vertices and none for a triangle. Assumes nothing.
use Rattle.std.specs.Prelude.{◌≡◌, refl, false, cond, [], ◌∷◌, map, ℕ, suc, ◌%◌, eqb, replicate, pos, Float}
use Rattle.std.specs.Float.{nan, inf, binary64}
use Rattle.std.specs.Float.Ieee.{add, neg, of_int, of_bits, eq, lt, is_nan}
use Rattle.ieee.specs.Number.{plus_zero, minimum, maximum}
use Rattle.slice.specs.Every.{counted_places, every}
use Rattle.math.specs.declared.Vec3.{Vec3}
use Rattle.math.specs.declared.BoundingBox.{BoundingBox}
use Rattle.math.specs.Vec.{new, v_min, v_max}
use Rattle.math.specs.Box.{empty_box, include}
use Rattle.mesh_spec.specs.Mesh.{plus_zero_v, same_point}
use Rattle.mesh_spec.specs.Measures.{including, plus_zero_box, box_of, bounding_box, same_box}
use Rattle.mesh_box.specs.ZeroBox.{zero_box}
use Rattle.refusal.specs.Answer.{Answer, Accepted, NotFinite, BadMesh}
use Rattle.mesh_check.specs.State.{record_of, State, state, mesh_of, bad_mesh, not_finite, has_right_box, bad_box, check_of, Boxed, boxed_with}

abbrev pub float : ℕ → Float
float n = of_int binary64 (pos n)

abbrev minus_zero : Float
minus_zero = neg (float 0)

abbrev pub between : Vec3 → Vec3 → BoundingBox
between p q = record { min = p; max = q }

abbrev pub first : Vec3
first = new (float 1) (float 2) (float 3)

-- the first with another x
abbrev pub first_from : Float → Vec3
first_from x = new x (float 2) (float 3)

abbrev pub second : Vec3
second = new (float 4) (float 5) (float 6)

-- so many of two vertices counted, and a box claimed
abbrev pub claims : ℕ → Vec3 → Vec3 → BoundingBox → State
claims n p q b = state (record_of n 0 b) (p.x ∷ p.y ∷ p.z ∷ q.x ∷ q.y ∷ q.z ∷ []) []

-- check_of, with what it takes to compute it
unfoldable checked : State → Answer
unfolding check_of bad_mesh not_finite bad_box has_right_box counted_places every mesh_of bounding_box box_of including include empty_box plus_zero_box plus_zero_v same_box
    same_point v_min v_max minimum maximum is_nan lt eq neg add of_int of_bits zero_box
checked s = check_of s

-- the outcome of the measure `bounding_box`, likewise
unfoldable answered : State → Boxed
unfolding checked boxed_with
answered s = boxed_with (check_of s) (bounding_box (mesh_of s))

-- ---- the right box
one_vertex : checked (claims 1 first second (between first first)) ≡ Accepted
unfolding checked
one_vertex = refl

two_vertices : checked (claims 2 second first (between first second)) ≡ Accepted
unfolding checked
two_vertices = refl

-- compared as floats compare: −0.0 equals +0.0
minus_zero_claimed : checked (claims 1 (first_from (float 0)) second (between (first_from minus_zero) (first_from minus_zero))) ≡ Accepted
unfolding checked
minus_zero_claimed = refl

-- the box answered has +0.0, whether the vertex has it or not
minus_zero_answered : answered (claims 1 (first_from minus_zero) second (between (first_from minus_zero) (first_from (float 0))))
    ≡ record { refusal = Accepted; bounds = between (first_from plus_zero) (first_from plus_zero) }
unfolding answered
minus_zero_answered = refl

-- a mesh without vertices has the empty box
no_vertices : checked (claims 0 first second empty_box) ≡ Accepted
unfolding checked
no_vertices = refl

-- ---- another box
-- one bound is off by one bit: the float after it, in each of the six places
abbrev off_at : ℕ → Float → ℕ → Float
off_at k next i = cond (eqb i k) next (float (suc (i % 3)))

abbrev off : ℕ → Float → BoundingBox
off k next = between (new (off_at k next 0) (off_at k next 1) (off_at k next 2)) (new (off_at k next 3) (off_at k next 4) (off_at k next 5))

abbrev after1 : Float
after1 = of_bits binary64 0x3FF0000000000001

abbrev after2 : Float
after2 = of_bits binary64 0x4000000000000001

abbrev after3 : Float
after3 = of_bits binary64 0x4008000000000001

none_off : checked (claims 1 first second (off 6 after1)) ≡ Accepted
unfolding checked
none_off = refl

each_bound_counts : map (λ b. checked (claims 1 first second b)) (off 0 after1 ∷ off 1 after2 ∷ off 2 after3 ∷ off 3 after1 ∷ off 4 after2 ∷ off 5 after3 ∷ [])
    ≡ replicate 6 BadMesh
unfolding checked
each_bound_counts = refl

-- a NaN equals nothing
nan_bound : checked (claims 1 first second (between (first_from nan) first)) ≡ BadMesh
unfolding checked
nan_bound = refl

exchanged : checked (claims 2 first second (between second first)) ≡ BadMesh
unfolding checked
exchanged = refl

-- the box of both vertices, of which one is counted
uncounted : checked (claims 1 first second (between first second)) ≡ BadMesh
unfolding checked
uncounted = refl

no_vertices_zeros : checked (claims 0 first second zero_box) ≡ BadMesh
unfolding checked
no_vertices_zeros = refl

-- for a refused mesh the outcome has a box of zeros
refused_zeros : answered (claims 1 first second (between first second)) ≡ record { refusal = BadMesh; bounds = zero_box }
unfolding answered
refused_zeros = refl

-- ---- the order: counts and numbers, then 1, then the box
not_finite_first : checked (claims 1 (new (float 1) (inf false) (float 3)) second zero_box) ≡ NotFinite
unfolding checked
not_finite_first = refl

-- three vertices are counted, and there are places for two
counts_first : checked (claims 3 (new (float 1) nan (float 3)) second zero_box) ≡ BadMesh
unfolding checked
counts_first = refl
