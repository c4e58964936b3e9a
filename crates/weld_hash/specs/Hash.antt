-- The hash chains of the work slice, which stand for the `HashMap` of from_soup. Definitions only.
use Rattle.std.specs.Prelude.{◌≡◌, true, cond, List, ℕ, zero, suc, ◌+◌, ◌*◌, ◌≤◌, ◌<◌, length, get_or, set, drop, eqb, Float, Option, Some, None}
use Rattle.math.specs.declared.Vec3.{Vec3}
use Rattle.mesh_spec.specs.Mesh.{same_point}
use Rattle.mesh_spec.specs.Slices.{vertex_at}
use Rattle.weld_vertex.specs.Points.{Clean}
use Rattle.mesh_triples.specs.Triples.{put_vertex}
use Rattle.weld_bucket.specs.Bucket.{bucket_of}

-- one more than the largest m below n whose vertex is in the bucket b, or 0
unfoldable pub latest : ℕ → List Float → ℕ → ℕ → ℕ
latest places vs b zero = zero
latest places vs b (suc n) = cond (eqb (bucket_of places (vertex_at vs n)) b) (suc n) (latest places vs b n)

-- the vertices below `count` lie in the slice, and no two of those from `base` on are equal
pub record Distinct (vs : List Float) (places base count : ℕ) : Type 0 where
  pub room : 3 * places ≤ length vs
  pub fits : count ≤ places
  pub based : base ≤ count
  pub clean : (m : ℕ) → m < count → Clean (vertex_at vs m)
  pub fresh : (j m : ℕ) → base ≤ j → j < m → m < count → same_point (vertex_at vs j) (vertex_at vs m) ≡ true → ⊥

-- h and l name the same vertex from base on (by one more than its number), or each an earlier one or none
pub record Agrees (base h l : ℕ) : Type 0 where
  pub above : base < l → h ≡ l
  pub below : l ≤ base → h ≤ base

-- the work slice holds, for the vertices from `base` below n: at b the latest vertex of the bucket b, and at places + m the latest before m of m's bucket
pub record Chained (vs : List Float) (ws : List ℕ) (places base n : ℕ) : Type 0 where
  pub links : 2 * places ≤ length ws
  pub heads : (b : ℕ) → b < places → Agrees base (get_or ws b 0) (latest places vs b n)
  pub nexts : (m : ℕ) → base ≤ m → m < n → Agrees base (get_or ws (places + m) 0) (latest places vs (bucket_of places (vertex_at vs m)) m)

-- the chains hold the vertices from base below n, and what stands beyond them in the work slice is as it was
pub record Indexed (vs : List Float) (ws : List ℕ) (places base n : ℕ) (ws' : List ℕ) : Type 0 where
  pub chained : Chained vs ws' places base n
  pub beyond : drop (2 * places) ws' ≡ drop (2 * places) ws

-- the work slice with vertex n put at the head of the bucket b
abbrev pub linked_in : List ℕ → ℕ → ℕ → ℕ → List ℕ
linked_in ws places n b = set (set ws (places + n) (get_or ws b 0)) b (n + 1)

-- m is the first of the vertices from base below count that equals p
pub record FirstAt (vs : List Float) (base count : ℕ) (p : Vec3) (m : ℕ) : Type 0 where
  pub low : base ≤ m
  pub high : m < count
  pub equal : same_point (vertex_at vs m) p ≡ true
  pub first : (j : ℕ) → base ≤ j → j < m → same_point (vertex_at vs j) p ≡ true → ⊥

-- what a look-up of p among the vertices from base below count answers: the first that equals p, or that none does
abbrev pub Sought : List Float → ℕ → ℕ → Vec3 → Option ℕ → Type 0
Sought vs base count p (Some m) = FirstAt vs base count p m
Sought vs base count p None = (m : ℕ) → base ≤ m → m < count → same_point (vertex_at vs m) p ≡ true → ⊥

-- p got the number m: it was found, and nothing changed; or it is new, and vertex `count`
pub record Placed (places base count : ℕ) (p : Vec3) (vs : List Float) (ws : List ℕ) (m : ℕ) (vs' : List Float) (ws' : List ℕ) : Type 0 where
  pub within : m ≤ count
  pub found : m < count → FirstAt vs base count p m × (vs' ≡ vs) × (ws' ≡ ws)
  pub new : m ≡ count → Sought vs base count p None × (count < places) × (bucket_of places p < places)
      × (vs' ≡ put_vertex vs count p) × (ws' ≡ linked_in ws places count (bucket_of places p))

-- p got a number, or there was no place for it
abbrev pub Placing : ℕ → ℕ → ℕ → Vec3 → List Float → List ℕ → Option ℕ → List Float → List ℕ → Type 0
Placing places base count p vs ws (Some m) vs' ws' = Placed places base count p vs ws m vs' ws'
Placing places base count p vs ws None vs' ws' = Sought vs base count p None × (places ≤ count) × (vs' ≡ vs) × (ws' ≡ ws)
