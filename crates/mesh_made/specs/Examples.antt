-- How a call that makes a mesh ends, by computation: what the slices hold, and refusal 6 at its edge. Assumes nothing.
use Rattle.std.specs.Prelude.{◌≡◌, refl, true, false, [], ◌∷◌, ℕ, drop, pos, Float}
use Rattle.std.specs.Float.{binary64}
use Rattle.std.specs.Float.Ieee.{add, of_bits, of_int, eq, lt, is_nan}
use Rattle.ieee.specs.Number.{minimum, maximum}
use Rattle.math.specs.declared.Vec3.{Vec3}
use Rattle.math.specs.Vec.{v_min, v_max}
use Rattle.math.specs.Box.{empty_box, include}
use Rattle.refusal.specs.Answer.{NoRoom}
use Rattle.mesh_spec.specs.Mesh.{Mesh, plus_zero_v}
use Rattle.mesh_spec.specs.Measures.{including, plus_zero_box, box_of, bounding_box}
use Rattle.mesh_check.specs.State.{empty_record}
use Rattle.mesh_made.specs.Made.{Lent, short_work, refused_as, accepted_as, made_as}

-- slices of so many floats and numbers
abbrev of : ℕ → ℕ → ℕ → Lent
of nv nt nw = record { vertices = nv; triangles = nt; work = nw }

abbrev zero : Float
zero = of_bits binary64 0

abbrev at : ℕ → ℕ → ℕ → Vec3
at x y z = record { x = of_int binary64 (pos x); y = of_int binary64 (pos y); z = of_int binary64 (pos z) }

-- a triangle of three points
abbrev triangle : Vec3 → Mesh
triangle p = record { vertices = p ∷ p ∷ p ∷ []; triangles = (0, 1, 2) ∷ [] }

-- one of three different points
abbrev slanted : Mesh
slanted = record { vertices = at 1 5 6 ∷ at 4 2 6 ∷ at 4 5 3 ∷ []; triangles = (0, 1, 2) ∷ [] }

-- refused: the empty record, and every place zero, a broken one included
refused_zero : made_as NoRoom (triangle (record { x = zero; y = zero; z = zero })) (of 4 5 2)
    ≡ record {
      refusal = NoRoom;
      state = record {
        mesh = empty_record;
        vertices = zero ∷ zero ∷ zero ∷ zero ∷ [];
        triangles = 0 ∷ 0 ∷ 0 ∷ 0 ∷ 0 ∷ [];
      };
      work = 0 ∷ 0 ∷ [];
    }
unfolding made_as refused_as
refused_zero = refl

-- accepted: the mesh, and zeros in the places after it
vertex_count : (p : Vec3) → (accepted_as (triangle p) (of 13 8 8)).state.mesh.vertices ≡ 3
unfolding accepted_as
vertex_count p = refl

triangle_count : (p : Vec3) → (accepted_as (triangle p) (of 13 8 8)).state.mesh.triangles ≡ 1
unfolding accepted_as
triangle_count p = refl

rest_of_vertices : (p : Vec3) → drop 9 (accepted_as (triangle p) (of 13 8 8)).state.vertices ≡ zero ∷ zero ∷ zero ∷ zero ∷ []
unfolding accepted_as
rest_of_vertices p = refl

all_numbers : (p : Vec3) → (accepted_as (triangle p) (of 13 8 8)).state.triangles ≡ 0 ∷ 1 ∷ 2 ∷ 0 ∷ 0 ∷ 0 ∷ 0 ∷ 0 ∷ []
unfolding accepted_as
all_numbers p = refl

-- the record's box is that of the mesh; the zeros in the places after it do not count
box_of_vertices : (accepted_as slanted (of 13 8 8)).state.mesh.bounds ≡ record { min = at 1 2 3; max = at 4 5 6 }
unfolding accepted_as bounding_box box_of including include empty_box plus_zero_box plus_zero_v v_min v_max minimum maximum is_nan lt eq add of_bits of_int
box_of_vertices = refl

-- 6: 8 vertex places ask for 16 numbers of work, a broken ninth place for no more
work_enough : short_work 26 16 ≡ false
unfolding short_work
work_enough = refl

work_short : short_work 24 15 ≡ true
unfolding short_work
work_short = refl
