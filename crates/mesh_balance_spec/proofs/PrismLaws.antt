-- A prism: a cap at one level, the same cap reversed at another, and a side quad over each edge of the ring that bounds the cap.
-- Assumes nothing.
use Rattle.std.specs.Prelude.{◌≡◌, ◌∷◌, ◌++◌, ℕ, suc, ◌+◌, ◌%◌}
use Rattle.std.proofs.Common.{◌∙◌}
use Rattle.mesh_balance_spec.specs.Soup.{Balanced}
use Rattle.mesh_balance_spec.specs.Prism.{fan, fan_law, prism_of, prism_of_balanced}

pub fan_prism : {P : Type 0} (n : ℕ) (lo hi : ℕ → P) → Balanced (prism_of (suc n) (fan n) lo hi)
fan_prism n lo hi = prism_of_balanced (suc n) (fan n) lo hi (fan_law n)
