-- What the code asks of a surface to compute its points from (0, 0) to (i, j): docs/SCOPE.md's bounds, and the corners in the lent slice. Definitions only.
use Rattle.std.specs.Prelude.{List, ℕ, ◌*◌, ◌≤◌, ◌<◌, length, Float}
use Rattle.surface_spec.specs.declared.Line.{Line}
use Rattle.surface_spec.specs.declared.Surface.{Surface}
use Rattle.surface_spec.specs.declared.Surface.TheVariants.{Face, Sphere, Extruded, Rotated}

-- a face of a parameter box
pub record FaceWithin (k : ℕ) (u v : Line) (i j : ℕ) : Type 0 where
  pub axis : k < 3
  pub ufew : u.n ≤ 1024
  pub vfew : v.n ≤ 1024
  pub ulast : i ≤ u.n
  pub vlast : j ≤ v.n

-- a sphere
pub record SphereWithin (nt np i : ℕ) : Type 0 where
  pub few : nt ≤ 1024
  pub last : i ≤ nt
  pub some : 0 < np
  pub nfew : np ≤ 1024

-- the sides of an extruded outline
pub record ExtrudedWithin (p : List Float) (n len : ℕ) : Type 0 where
  pub axis : n < 3
  pub some : 0 < len
  pub held : 2 * len ≤ length p

-- the sides of a rotated outline
pub record RotatedWithin (p : List Float) (len n j : ℕ) : Type 0 where
  pub some : 0 < len
  pub held : 2 * len ≤ length p
  pub steps : 0 < n
  pub few : n ≤ 1024
  pub last : j ≤ n

-- any surface, by cases
abbrev pub Within : List Float → Surface → ℕ → ℕ → Type 0
Within p (Face chart k val u v) i j = FaceWithin k u v i j
Within p (Sphere c r nt np) i j = SphereWithin nt np i
Within p (Extruded n len lo hi) i j = ExtrudedWithin p n len
Within p (Rotated a q len full start span n) i j = RotatedWithin p len n j
