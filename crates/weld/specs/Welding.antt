-- A mesh while it is welded: what welding a soup, and parts, does to the state and the lent slices, and the laws for callers. Assumes nothing.
use Rattle.std.specs.Prelude.{◌≡◌, refl, false, List, [], ◌∷◌, ◌++◌}
use Rattle.std.proofs.Common.{◌∙◌, subst}
use Rattle.math.specs.declared.Vec3.{Vec3}
use Rattle.mesh_balance_spec.specs.Soup.{Tri}
use Rattle.mesh_spec.specs.Parts.{Soup}
use Rattle.weld.specs.declared.Welding.{Welding}
use Rattle.weld.specs.Rep.{Held, held, Ready, Runs, Parted}
use Rattle.weld.specs.Runs.{runs_none, runs_then, runs_stopped}
use Rattle.weld.specs.Parts.{PartsRun}
use Rattle.weld.specs.PartsLaws.{parts_none, parts_one, parts_then}

-- what it holds: the state, and the slices' lists
abbrev pub held_by : Welding → Held
held_by w = held w.st w.vertices.now w.triangles.now w.work.now

-- the slices are the same ones
pub record SameSlices (w r : Welding) : Type 0 where
  pub vertices : r.vertices.ghost_name ≡ w.vertices.ghost_name
  pub triangles : r.triangles.ghost_name ≡ w.triangles.ghost_name
  pub work : r.work.ghost_name ≡ w.work.ghost_name

-- what the slices hold is the same
pub record SameContent (w r : Welding) : Type 0 where
  pub vertices : r.vertices.now ≡ w.vertices.now
  pub triangles : r.triangles.now ≡ w.triangles.now
  pub work : r.work.now ≡ w.work.now

-- the soup was welded
pub record Welds (soup : List (Tri Vec3)) (w r : Welding) : Type 0 where
  pub same : SameSlices w r
  pub runs : Runs soup (held_by w) (held_by r)

-- each part was welded by itself and appended
pub record WeldsParts (parts : List Soup) (w r : Welding) : Type 0 where
  pub same : SameSlices w r
  pub runs : PartsRun parts (held_by w) (held_by r)

-- a new part begins
pub record NewPart (w r : Welding) : Type 0 where
  pub same : SameSlices w r
  pub content : SameContent w r
  pub parted : Parted w.st r.st

pub same_refl : (w : Welding) → SameSlices w w
same_refl w = record { vertices = refl; triangles = refl; work = refl }

pub same_then : {w m r : Welding} → SameSlices w m → SameSlices m r → SameSlices w r
same_then a b = record { vertices = b.vertices ∙ a.vertices; triangles = b.triangles ∙ a.triangles; work = b.work ∙ a.work }

-- ---- the laws of `Runs`

-- the empty soup
pub welds_none : (w : Welding) → Ready (held_by w) → Welds [] w w
welds_none w R = record { same = same_refl w; runs = runs_none (held_by w) R }

-- one soup, then another
pub welds_then : (xs ys : List (Tri Vec3)) (w m r : Welding) → Welds xs w m → Welds ys m r → Welds (xs ++ ys) w r
welds_then xs ys w m r X Y = record { same = same_then X.same Y.same; runs = runs_then xs ys (held_by w) (held_by m) (held_by r) X.runs Y.runs }

-- one triangle, then the others
pub welds_cons : (t : Tri Vec3) (ts : List (Tri Vec3)) (w m r : Welding) → Welds (t ∷ []) w m → Welds ts m r → Welds (t ∷ ts) w r
welds_cons t ts w m r X Y = welds_then (t ∷ []) ts w m r X Y

-- the same soup written in another way
pub welds_as : {xs ys : List (Tri Vec3)} {w r : Welding} → xs ≡ ys → Welds xs w r → Welds ys w r
welds_as {w} {r} e R = subst (λ (s : List (Tri Vec3)). Welds s w r) e R

-- after a point that was not finite, a caller may stop: whatever soup was left counts as welded
pub welds_stopped : (soup : List (Tri Vec3)) (w : Welding) → Ready (held_by w) → w.st.finite ≡ false → Welds soup w w
welds_stopped soup w R f = record { same = same_refl w; runs = runs_stopped soup (held_by w) R f }

-- ---- the laws of `PartsRun`

-- no parts
pub welds_parts_none : (w : Welding) → Ready (held_by w) → WeldsParts [] w w
welds_parts_none w R = record { same = same_refl w; runs = parts_none (held_by w) R }

-- one soup was welded, and a new part begins
pub welds_parts_one : (soup : Soup) (w m r : Welding) → Welds soup w m → NewPart m r → WeldsParts (soup ∷ []) w r
welds_parts_one soup w m r X P =
    let C = P.content in
    record {
      same = same_then X.same P.same;
      runs = rw (C.vertices, C.triangles, C.work) (parts_one soup (held_by w) m.st r.st m.vertices.now m.triangles.now m.work.now X.runs P.parted);
    }

-- some parts, then others
pub welds_parts_then : (xs ys : List Soup) (w m r : Welding) → WeldsParts xs w m → WeldsParts ys m r → WeldsParts (xs ++ ys) w r
welds_parts_then xs ys w m r X Y = record { same = same_then X.same Y.same; runs = parts_then xs ys (held_by w) (held_by m) (held_by r) X.runs Y.runs }

-- the same parts written in another way
pub welds_parts_as : {xs ys : List Soup} {w r : Welding} → xs ≡ ys → WeldsParts xs w r → WeldsParts ys w r
welds_parts_as {w} {r} e R = subst (λ (s : List Soup). WeldsParts s w r) e R
