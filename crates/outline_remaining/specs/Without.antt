-- The Rust's Vec::remove, and how an array follows it. Assumes nothing.
use Rattle.std.specs.Prelude.{ℕ, suc, ◌-◌, ◌≡◌, List, ◌++◌, length, take, drop}

-- the list l after the Rust's l.remove(k)
unfoldable pub without : {A : Type 0} → ℕ → List A → List A
without k l = take k l ++ drop (suc k) l

-- of an array of 512 places, b before and a after: what is at index k of the first m goes, and m - 1 remain
pub record TakenOut {A : Type 0} (k m : ℕ) (b a : List A) : Type 0 where
  pub long : length a ≡ 512
  pub list : take (m - 1) a ≡ without k (take m b)
