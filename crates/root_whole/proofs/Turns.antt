-- What holds at each turn of `root_by_digits`. Assumes nothing.
use Rattle.std.proofs.Common.{◌≡◌, ℕ, ◌+◌, ◌*◌, ◌/◌, ◌^◌, ◌<◌, ◌≤◌}

-- with n bits to come: p is 2 ^ n, and the root is from q up to q + p
pub record Inv (m n b q rest : ℕ) : Type 0 where
  pub few : n ≤ 53
  pub half : b ≡ 2 ^ n / 2
  pub whole : 2 * (q * q) + rest * 2 ^ n ≡ m * 2 ^ 53
  pub small : rest < 4 * q + 2 * 2 ^ n
  pub room : q + 2 ^ n ≤ 2 ^ 53
