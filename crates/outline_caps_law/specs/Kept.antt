-- From a state of the clipper to a later one: the triangles given and those that can still come are no more than before; and where they are as many, each
-- directed edge outnumbers its reverse by as much as before, over the triangles given and the cycle of the corners that remain. Assumes nothing.
use Rattle.std.specs.Prelude.{ℕ, zero, suc, ◌+◌, ◌-◌, ◌*◌, ◌<◌, ◌≤◌, ◌≡◌, refl, Bool, true, false, cond, ◌&&◌, List, [], ◌∷◌, ◌++◌, length, get_or, take, eqb, ltb, Float}
use Rattle.std.proofs.Common.{arith, length-append, ltb-true, eqb-true}
use Rattle.std.specs.Float.Ieee.{lt}
use Rattle.mesh_balance_spec.specs.Soup.{Weight, rev}
use Rattle.outline.specs.Corners.{point}
use Rattle.outline_triangle.specs.Triangle.{cross}
use Rattle.outline_ears.specs.Ears.{ip, inx, is_ear, is_flat, first_ear, first_flat}
use Rattle.outline_ears.proofs.Laws.{find_below}
use Rattle.outline_remaining.specs.Without.{without}
use Rattle.outline_triangulate.specs.Triangulate.{Clipping, fan, clipped, dropped, fanned, by_found, pass, passes, finished}
use Rattle.outline_remaining.proofs.Taken.{length_without}
use Rattle.outline_caps_law.specs.Edges.{edges, chain, cycle, Thirds, none, more, cycle_cut, thirds_append, edges_append, fan_thirds, fan_length}

-- the weights of the edges of a state's triangles and of the cycle of the corners that remain
unfoldable pub total : Weight ℕ → Clipping → ℕ
total w s = edges w s.triangles + cycle w s.idx

-- how many numbers its triangles have and can have: three for each given, and three for each of the m - 2 that m remaining corners give at most
-- (m - 2 is 0 where m is 2 or less: so few corners give none)
unfoldable pub coming : Clipping → ℕ
coming s = length s.triangles + 3 * (length s.idx - 2)

-- what holds from the state s to the later state s'
pub record Kept (s s' : Clipping) : Type 0 where
  pub thirds : Thirds s.triangles → Thirds s'.triangles
  pub fewer : coming s' ≤ coming s
  pub even : Thirds s.triangles → coming s ≤ coming s' → (w : Weight ℕ) → total w s' + total (rev w) s ≡ total (rev w) s' + total w s

pub kept_same : (s : Clipping) → Kept s s
kept_same s = record { thirds = λ p. p; fewer = omega arith; even = λ p h w. omega arith }

pub kept_on : (r s t : Clipping) → Kept r s → Kept s t → Kept r t
kept_on r s t p q =
    record {
      thirds = λ h. q.thirds (p.thirds h);
      fewer = omega (arith, p.fewer, q.fewer);
      even = λ h le w. omega (arith, p.even h (omega (arith, p.fewer, q.fewer)) w, q.even (p.thirds h) (omega (arith, p.fewer, q.fewer)) w);
    }

pub dropped_kept : (s : Clipping) (k : ℕ) → k < length s.idx → 3 < length s.idx → Kept s (dropped s k)
unfolding dropped coming
dropped_kept s k h h3 =
    let n : length (without k s.idx) ≡ length s.idx - 1 = length_without k s.idx h in
    record { thirds = λ p. p; fewer = omega arith; even = λ p le w. absurd (omega arith) }
