-- Only `Accepted` is no refusal. Assumes nothing.
use Rattle.std.specs.Prelude.{◌≡◌, refl, true, false, None, Some, Result, Ok, Err, IsErrAnd, ℕ}
use Rattle.std.proofs.Common.{ap, arith, eqb-true}
use Rattle.refusal.specs.declared.Refusal.{Refusal}
use Rattle.refusal.specs.declared.Refusal.TheVariants.{NotFinite, AngleTooLarge, TooManySegments, BadList, PointNotFinite, ShortWork, NoRoom}
use Rattle.refusal.specs.declared.Refusal.TheVariants.{BadMesh, BrokenField, UnknownField, NoSolid}
use Rattle.refusal.specs.Answer.{Answer, Accepted, answer_of, answer_with}
use Rattle.refusal.specs.Number.{number_of}
use Rattle.refusal.specs.Accepted.{is_accepted}

-- by its number
pub accepted_zero : (r : Answer) → number_of r ≡ 0 → r ≡ Accepted
accepted_zero None e = refl
accepted_zero (Some NotFinite) e = let no : ◌≡◌ {A = ℕ} 1 0 = e in absurd (omega arith)
accepted_zero (Some AngleTooLarge) e = let no : ◌≡◌ {A = ℕ} 2 0 = e in absurd (omega arith)
accepted_zero (Some TooManySegments) e = let no : ◌≡◌ {A = ℕ} 3 0 = e in absurd (omega arith)
accepted_zero (Some BadList) e = let no : ◌≡◌ {A = ℕ} 4 0 = e in absurd (omega arith)
accepted_zero (Some PointNotFinite) e = let no : ◌≡◌ {A = ℕ} 5 0 = e in absurd (omega arith)
accepted_zero (Some ShortWork) e = let no : ◌≡◌ {A = ℕ} 6 0 = e in absurd (omega arith)
accepted_zero (Some NoRoom) e = let no : ◌≡◌ {A = ℕ} 7 0 = e in absurd (omega arith)
accepted_zero (Some BadMesh) e = let no : ◌≡◌ {A = ℕ} 8 0 = e in absurd (omega arith)
accepted_zero (Some BrokenField) e = let no : ◌≡◌ {A = ℕ} 9 0 = e in absurd (omega arith)
accepted_zero (Some UnknownField) e = let no : ◌≡◌ {A = ℕ} 10 0 = e in absurd (omega arith)
accepted_zero (Some NoSolid) e = let no : ◌≡◌ {A = ℕ} 11 0 = e in absurd (omega arith)

-- by the test
pub accepted_is : (r : Answer) → is_accepted r ≡ true → r ≡ Accepted
accepted_is r e = accepted_zero r (eqb-true (number_of r) 0 e)

-- a call answers what it was to answer
pub answer_is : {A : Type 0} (q : Answer) (x : A) → answer_of (answer_with q x) ≡ q
answer_is None x = refl
answer_is (Some r) x = refl

-- it answered with a value: nothing refused it, and the value is what it was to make
pub answer_ok : {A : Type 0} (q : Answer) (x y : A) → Ok y ≡ answer_with q x → (q ≡ Accepted) × (y ≡ x)
answer_ok None x y e = (refl, cc)
answer_ok (Some r) x y e = cc

-- it was refused
pub answer_err : {A : Type 0} (q : Answer) (x : A) (r : Refusal) → Err r ≡ answer_with q x → Some r ≡ q
answer_err None x r e = cc
answer_err (Some p) x r e = cc

-- a refusal that `?` passes on is answered as it is
pub passed_on : {A : Type 0} (a : Result A Refusal) (r : Refusal) → IsErrAnd a (λ p. p ≡ r) → a ≡ Err r
passed_on (Ok x) r e = absurd e
passed_on (Err p) r e = ap Err e

-- a refusal is one
pub refused_is : (r : Refusal) → is_accepted (Some r) ≡ false
refused_is NotFinite = refl
refused_is AngleTooLarge = refl
refused_is TooManySegments = refl
refused_is BadList = refl
refused_is PointNotFinite = refl
refused_is ShortWork = refl
refused_is NoRoom = refl
refused_is BadMesh = refl
refused_is BrokenField = refl
refused_is UnknownField = refl
refused_is NoSolid = refl
