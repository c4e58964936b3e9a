-- Soups over numbers: triangles with two equal corners may be dropped, and in a balanced soup each directed edge is used as often as its reverse.
-- Assumes nothing.
use Rattle.std.specs.Prelude.{◌≡◌, List, ◌∷◌, map, Bool, false, ◌&&◌, ℕ, ◌+◌}
use Rattle.std.proofs.Common.{sym, ap, ◌∙◌}
use Rattle.mesh_balance_spec.specs.Soup.{Tri, sum, Balanced, Flat, map_tri, balanced_map}
use Rattle.mesh_balance_spec.specs.Count.{EdgesBalance, here, here_rev, keep_if, uses_sum, balanced_keep}

pub balanced_edges : (ts : List (Tri ℕ)) → Balanced ts → EdgesBalance ts
balanced_edges ts p u v = uses_sum u v ts ∙ p (here u v) ∙ ap (λ w. sum w ts) (sym (here_rev u v)) ∙ sym (uses_sum v u ts)

-- the corners are numbered by any function, equal numbers or not, and of the triangles that lose a corner by that any may be dropped
pub welded_edges : {P : Type 0} (k : Tri ℕ → Bool) → ((t : Tri ℕ) → k t ≡ false → Flat t) → (f : P → ℕ) (ts : List (Tri P))
    → Balanced ts → EdgesBalance (keep_if k (map (map_tri f) ts))
welded_edges k flat f ts p = balanced_edges (keep_if k (map (map_tri f) ts)) (balanced_keep k flat (map (map_tri f) ts) (balanced_map f ts p))
