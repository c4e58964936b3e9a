-- What a loop over places of three reads next: triple or vertex i comes first in what is left. Assumes nothing.
use mathlib.Core.Path.{◌≡◌, refl, sym, ap, ◌∙◌}
use mathlib.Core.List.{List, ◌∷◌}
use Prim.Native.Nat.{ℕ, ◌+◌, ◌*◌, ◌≤◌, ◌<◌}
use native.Mathlib.Omega.{arith}
use lib.ListN.{length, take, drop, get_or}
use lib.Seq.{get_or-take, length-take-le}
use lib.Ieee.{Float, nan}
use Rattle.slice_law.specs.Next.{Next, next_at, next_map}
use Rattle.mesh_balance_spec.specs.Soup.{Tri}
use Rattle.mesh_balance_spec.specs.Buffer.{tris}
use Rattle.mesh_spec.specs.Slices.{points, vec_of, vertex_at}
use Rattle.mesh_spec.specs.SliceLaws.{tris_drop, points_tris}
use Rattle.mesh_triples.specs.Triples.{triple_at}

module _ {A : Type 0} where
  -- the three elements of place i
  pub three : (l : List A) (i : ℕ) (d : A) → 3 * i + 3 ≤ length l → drop (3 * i) l ≡ get_or l (3 * i) d ∷ get_or l (3 * i + 1) d ∷ get_or l (3 * i + 2) d ∷ drop (3 * (i + 1)) l
  three l i d h =
      let one : 3 * i + 1 + 1 ≡ 3 * i + 2 = omega arith in
      let two : 3 * i + 2 + 1 ≡ 3 * (i + 1) = omega arith in
      next_at l (3 * i) d (omega arith)
      ∙ ap {B = List A} (λ r. get_or l (3 * i) d ∷ r) (next_at l (3 * i + 1) d (omega arith) ∙ rw one refl)
      ∙ ap {B = List A} (λ r. get_or l (3 * i) d ∷ get_or l (3 * i + 1) d ∷ r) (next_at l (3 * i + 2) d (omega arith) ∙ rw two refl)

  pub next_tris : (l : List A) (i : ℕ) (d : A) → 3 * i + 3 ≤ length l → Next (tris l) i (triple_at l i d)
  next_tris l i d h = tris_drop i l ∙ ap {B = List (Tri A)} tris (three l i d h) ∙ ap {B = List (Tri A)} (λ r. triple_at l i d ∷ r) (sym (tris_drop (i + 1) l))

  -- three elements of the front are those of the list
  triple_take : (l : List A) (n i : ℕ) (d : A) → i < n → triple_at (take (3 * n) l) i d ≡ triple_at l i d
  triple_take l n i d h = λ j. (get_or-take (3 * n) l (3 * i) d (omega arith) j, get_or-take (3 * n) l (3 * i + 1) d (omega arith) j, get_or-take (3 * n) l (3 * i + 2) d (omega arith) j)

  pub next_counted : (l : List A) (n i : ℕ) (d : A) → i < n → 3 * n ≤ length l → Next (tris (take (3 * n) l)) i (triple_at l i d)
  next_counted l n i d h k =
      next_tris (take (3 * n) l) i d (omega (arith, length-take-le (3 * n) l k))
      ∙ ap {B = List (Tri A)} (λ t. t ∷ drop (i + 1) (tris (take (3 * n) l))) (triple_take l n i d h)

pub next_points : (vs : List Float) (n i : ℕ) → i < n → 3 * n ≤ length vs → Next (points (take (3 * n) vs)) i (vertex_at vs i)
next_points vs n i h k = rw (points_tris (take (3 * n) vs)) (next_map vec_of (tris (take (3 * n) vs)) i (triple_at vs i nan) (next_counted vs n i nan h k))
