-- What `is_at` says of a vertex, by where its number lies. Assumes nothing.
use mathlib.Core.Path.{◌≡◌, refl, sym, ap, ◌∙◌}
use mathlib.Core.Bool.{Bool, true, false, not, ◌&&◌, true≢false}
use mathlib.Core.List.{List}
use Prim.Native.Nat.{ℕ, ◌≤◌, ◌<◌}
use borrow.Author.Tests.{ltb-true, ltb-false, lt-ltb, le-ltb}
use lib.Dec.{ltb}
use lib.Ieee.{Float}
use Rattle.math.specs.declared.Vec3.{Vec3}
use Rattle.mesh_spec.specs.Mesh.{same_point}
use Rattle.mesh_spec.specs.Slices.{vertex_at}
use Rattle.weld_vertex.specs.Points.{is_at}

-- a conjunction of three, of which the first is denied
none_of : (a b c : Bool) → a ≡ true → (not a && b && c) ≡ false
none_of true b c e = refl
none_of false b c e = absurd (true≢false (sym e))

none_past : (a b c : Bool) → a ≡ false → b ≡ false → (not a && b && c) ≡ false
none_past a b c e f = rw (e, f)

only_last : (a b c : Bool) → a ≡ false → b ≡ true → (not a && b && c) ≡ c
only_last a b c e f = rw (e, f)

all_of : (a b c : Bool) → (not a && b && c) ≡ true → (a ≡ false) × (b ≡ true) × (c ≡ true)
all_of true b c e = absurd (true≢false (sym e))
all_of false true c e = (refl, refl, e)
all_of false false c e = absurd (true≢false (sym e))

module _ (vs : List Float) (base count : ℕ) (p : Vec3) (m : ℕ) where
  pub at_before : m < base → is_at vs base count p m ≡ false
  unfolding is_at
  at_before h = none_of (ltb m base) (ltb m count) (same_point (vertex_at vs m) p) (lt-ltb m base h)

  pub at_past : base ≤ m → count ≤ m → is_at vs base count p m ≡ false
  unfolding is_at
  at_past h k = none_past (ltb m base) (ltb m count) (same_point (vertex_at vs m) p) (le-ltb m base h) (le-ltb m count k)

  pub at_within : base ≤ m → m < count → is_at vs base count p m ≡ same_point (vertex_at vs m) p
  unfolding is_at
  at_within h k = only_last (ltb m base) (ltb m count) (same_point (vertex_at vs m) p) (le-ltb m base h) (lt-ltb m count k)

  pub at_yes : is_at vs base count p m ≡ true → (base ≤ m) × (m < count) × (same_point (vertex_at vs m) p ≡ true)
  unfolding is_at
  at_yes e =
      let q = all_of (ltb m base) (ltb m count) (same_point (vertex_at vs m) p) e in
      (ltb-false m base q.0, ltb-true m count q.1, q.2)
