-- What welding a quad's two triangles does to the slices, and which vertices its points are afterwards. Definitions only.
use Rattle.std.specs.Prelude.{◌≡◌, Bool, true, List, ℕ, length, Float}
use Rattle.math.specs.declared.Vec3.{Vec3}
use Rattle.mesh_balance_spec.specs.Soup.{Tri}
use Rattle.mesh_balance_spec.specs.Grid.{quad}
use Rattle.math.specs.Vec.{v_finite}
use Rattle.mesh_spec.specs.Mesh.{Mesh, plus_zero_v}
use Rattle.weld_vertex.specs.Points.{is_at}
use Rattle.weld_hash.specs.Hash.{FirstAt}
use Rattle.weld.specs.declared.Welder.{Welder}
use Rattle.weld.specs.declared.Welding.{Welding}
use Rattle.weld.specs.declared.Four.{Four}
use Rattle.weld.specs.declared.FourNumbers.{FourNumbers}
use Rattle.weld.specs.Rep.{Held, held, Ready, Rep, Runs}
use Rattle.weld.specs.Welding.{SameSlices, held_by}
use Rattle.weld_triangle.specs.Steps.{weld_points}

-- m is a vertex of this part, and p equals it
abbrev pub is_vertex : Welder → List Float → Vec3 → ℕ → Bool
is_vertex w vs p m = is_at vs w.base w.count p m

-- where there is room, m is the first vertex of this part that equals p, which came out of `+ 0.0`
abbrev pub Given : Welder → List Float → Vec3 → ℕ → Type 0
Given w vs p m = w.room ≡ true → FirstAt vs w.base w.count p m

-- where the welder goes on, p is finite, and m is the vertex of p: the first of this part that equals p after `+ 0.0`
pub record Known (w : Welder) (vs : List Float) (p : Vec3) (m : ℕ) : Type 0 where
  pub finite : w.finite ≡ true → w.room ≡ true → v_finite p ≡ true
  pub first : w.finite ≡ true → Given w vs (plus_zero_v p) m

-- a soup of the points p was welded, and the numbers n are theirs
pub record Numbered (soup : List (Tri Vec3)) (p : Four) (h k : Held) (n : FourNumbers) : Type 0 where
  pub runs : Runs soup h k
  pub known_a : Known k.st k.vertices p.a n.a
  pub known_b : Known k.st k.vertices p.b n.b
  pub known_c : Known k.st k.vertices p.c n.c
  pub known_d : Known k.st k.vertices p.d n.d

-- the same, in the same slices
pub record WeldsQuad (soup : List (Tri Vec3)) (p : Four) (w r : Welding) (n : FourNumbers) : Type 0 where
  pub same : SameSlices w r
  pub numbered : Numbered soup p (held_by w) (held_by r) n

-- the points of a quad's two triangles, which came out of `+ 0.0`, were welded
pub record QuadRuns (p : Four) (h k : Held) : Type 0 where
  pub ready : Ready k
  pub vlong : length k.vertices ≡ length h.vertices
  pub tlong : length k.triangles ≡ length h.triangles
  pub wlong : length k.work ≡ length h.work
  pub finite : k.st.finite ≡ h.st.finite
  pub rep : (D S : Mesh) → Rep D S h → Rep D (weld_points (weld_points S p.a p.b p.c) p.a p.c p.d) k

-- the same, and the numbers n are theirs
pub record CornersRun (p : Four) (h k : Held) (n : FourNumbers) : Type 0 where
  pub runs : QuadRuns p h k
  pub given_a : Given k.st k.vertices p.a n.a
  pub given_b : Given k.st k.vertices p.b n.b
  pub given_c : Given k.st k.vertices p.c n.c
  pub given_d : Given k.st k.vertices p.d n.d

-- the same, in the same slices
pub record WeldsCorners (p : Four) (w r : Welding) (n : FourNumbers) : Type 0 where
  pub same : SameSlices w r
  pub corners : CornersRun p (held_by w) (held_by r) n

-- a quad of which all points but c were known was welded: a, b and d have the numbers na, nb and nd, and c got the number nc
abbrev pub LastRuns : Vec3 → ℕ → ℕ → ℕ → Held → Held → ℕ → Type 0
LastRuns c na nb nd h k nc =
    (a b d : Vec3) → Known h.st h.vertices a na → Known h.st h.vertices b nb → Known h.st h.vertices d nd
    → Numbered (quad a b c d) (record { a = a; b = b; c = c; d = d }) h k (record { a = na; b = nb; c = nc; d = nd })

-- the same, in the same slices
pub record WeldsLast (c : Vec3) (na nb nd : ℕ) (w r : Welding) (nc : ℕ) : Type 0 where
  pub same : SameSlices w r
  pub last : LastRuns c na nb nd (held_by w) (held_by r) nc
