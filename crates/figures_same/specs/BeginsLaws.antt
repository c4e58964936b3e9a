-- A list of numbers begins with front exactly where front is its first part. Assumes nothing.
use Rattle.std.specs.Prelude.{◌≡◌, refl, Bool, true, false, ◌&&◌, List, [], ◌∷◌, ◌++◌, ℕ, length, take, eqb}
use Rattle.std.proofs.Common.{ap, eq-eqb, eqb-true}
use Rattle.std.proofs.lemmas.Bool.{false≢true}
use Rattle.figures_same.specs.Begins.{begins}

pub begins_take : (l front : List ℕ) → begins eqb l front ≡ true → take (length front) l ≡ front
unfolding begins
begins_take l [] e = refl
begins_take [] (y ∷ front) e = absurd (false≢true e)
begins_take (x ∷ l) (y ∷ front) e = go (eqb x y) refl e (begins_take l front)
  where
    go : (t : Bool) → eqb x y ≡ t → (t && begins eqb l front) ≡ true → (begins eqb l front ≡ true → take (length front) l ≡ front)
        → x ∷ take (length front) l ≡ y ∷ front
    go true p q h = λ j. eqb-true x y p j ∷ h q j
    go false p q h = absurd (false≢true q)

pub begins_front : (front rest : List ℕ) → begins eqb (front ++ rest) front ≡ true
unfolding begins
begins_front [] rest = refl
begins_front (x ∷ front) rest = rw (eq-eqb x x refl) (begins_front front rest)
