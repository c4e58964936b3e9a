-- A test decides a property: it answers yes where the property holds, and nowhere else. Definitions only.
use Rattle.std.specs.Prelude.{◌≡◌, Bool, true}

-- r says whether P holds
pub record Decides (r : Bool) (P : Type 0) : Type 0 where
  pub yes : r ≡ true → P
  pub no : P → r ≡ true
