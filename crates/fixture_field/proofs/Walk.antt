-- The walk over the fields of a file. Assumes nothing.
use mathlib.Core.Path.{◌≡◌, refl, sym, ap, ◌∙◌}
use mathlib.Core.Bool.{Bool, true, false, not, ◌||◌, cond}
use mathlib.Core.List.{List, ◌∷◌}
use Prim.Native.Nat.{ℕ, ◌+◌, ◌≤◌, ◌<◌}
use native.Mathlib.Omega.{arith}
use lib.ListN.{length, get_or, drop, length-drop, drop_of_length-le}
use borrow.Author.Tests.{le-ltb, lt-ltb}
use Rattle.refusal.specs.Answer.{Answer}
use Rattle.refusal.specs.Answer.{Accepted, BrokenField, NoSolid}
use Rattle.refusal.specs.declared.Refusal.{Refusal}
use Rattle.refusal.specs.Accepted.{is_accepted, or_else}
use Rattle.refusal.specs.Laws.{accepted_is}
use Rattle.std.specs.Prelude.{Some, None}
use Rattle.fixture_spec.specs.Fields.{Field, size_of, fields_from, is_solid, field_refusal, first_refusal, any_solid, file_refusal}
use Rattle.fixture_payload.proofs.Part.{part, part_is}
use Rattle.fixture_field.proofs.Cut.{behind, next_field, fits}

-- what is left to say: whether a solid was seen, and the fields to come
unfoldable rest : Bool → List Field → Answer
rest seen fs = or_else (first_refusal fs) (cond (not (seen || any_solid fs)) NoSolid Accepted)

-- the walk stands at a field's tag, or at the end
pub record Walking (file : List ℕ) (at : ℕ) (seen : Bool) : Type 0 where
  pub within : at ≤ length file
  pub short : length file ≤ 65535
  same : file_refusal file ≡ rest seen (fields_from 0 (drop at file))

pub start : (file : List ℕ) → length file ≤ 65535 → Walking file 0 false
unfolding file_refusal rest
start file h = record { within = omega arith; short = h; same = rw (le-ltb 65535 (length file) h) }

pub too_long : (file : List ℕ) → 65535 < length file → BrokenField ≡ file_refusal file
unfolding file_refusal
too_long file h = rw (lt-ltb 65535 (length file) h)

-- a refusal is none that is accepted
pub never_accepted : (r : Refusal) → is_accepted (Some r) ≡ false
never_accepted r = go (is_accepted (Some r)) refl
  where
    go : (b : Bool) → is_accepted (Some r) ≡ b → is_accepted (Some r) ≡ false
    go true e = let no : Some r ≡ None = accepted_is (Some r) e in cc
    go false e = e

-- ---- one field

or_assoc : (a b c : Bool) → (a || (b || c)) ≡ ((a || b) || c)
or_assoc true b c = refl
or_assoc false b c = refl

-- what a field answers, and if it is accepted the fields behind it
abbrev answered : Bool → List Field → Answer → Answer
answered seen fs r = or_else (or_else r (first_refusal fs)) (cond (not (seen || any_solid fs)) NoSolid Accepted)

rest_cons : (seen : Bool) (f : Field) (fs : List Field) (r : Answer) → field_refusal f.tag f.after ≡ r
    → rest seen (f ∷ fs) ≡ answered (seen || is_solid f.tag) fs r
unfolding rest first_refusal any_solid
rest_cons seen f fs r e = rw (e, or_assoc seen (is_solid f.tag) (any_solid fs))

-- a refusal stands whatever follows
stands : (r s : Answer) → is_accepted r ≡ false → or_else r s ≡ r
unfolding or_else
stands r s e = ap (λ (b : Bool). cond b s r) e

module _ (file : List ℕ) (at : ℕ) (seen : Bool) (w : Walking file at seen) (h : at < length file) (r : Answer)
    (e : r ≡ field_refusal (get_or file at 0) (part file (at + 1))) where
  here : file_refusal file ≡ answered (seen || is_solid (get_or file at 0)) (behind file at) r
  here =
      w.same
      ∙ ap (rest seen) (next_field file at h)
      ∙ rest_cons seen _ _ r (sym (e ∙ ap (field_refusal (get_or file at 0)) (part_is file (at + 1))))

  pub fits_here : r ≡ Accepted → at + 1 + 2 + size_of (part file (at + 1)) ≤ length file
  fits_here a = omega (arith, fits (get_or file at 0) (part file (at + 1)) (sym e ∙ a), ap length (part_is file (at + 1)), length-drop (at + 1) file)

  pub step : (n : ℕ) (s : Bool) → n ≡ size_of (part file (at + 1)) → s ≡ is_solid (get_or file at 0) → r ≡ Accepted → Walking file (at + 1 + 2 + n) (seen || s)
  unfolding rest or_else
  step n s p q a =
      let size : n ≡ size_of (drop (at + 1) file) = p ∙ ap size_of (part_is file (at + 1)) in
      record {
        within = omega (arith, fits_here a);
        short = w.short;
        same =
            here
            ∙ ap (answered (seen || is_solid (get_or file at 0)) (behind file at)) a
            ∙ ap (λ (k : ℕ). rest (seen || is_solid (get_or file at 0)) (fields_from 0 (drop (at + 1 + 2 + k) file))) (sym size)
            ∙ ap (λ (x : Bool). rest (seen || x) (fields_from 0 (drop (at + 1 + 2 + n) file))) (sym q);
      }

  pub refused : is_accepted r ≡ false → r ≡ file_refusal file
  refused n =
      let first = stands r (first_refusal (behind file at)) n in
      sym (here ∙ stands _ _ (ap {B = Bool} is_accepted first ∙ n) ∙ first)

pub end : (file : List ℕ) (at : ℕ) (seen : Bool) → Walking file at seen → length file ≤ at → file_refusal file ≡ cond (not seen) NoSolid Accepted
unfolding rest fields_from first_refusal or_else any_solid
end file at true w h = w.same ∙ ap (λ (l : List ℕ). rest true (fields_from 0 l)) (drop_of_length-le file h)
end file at false w h = w.same ∙ ap (λ (l : List ℕ). rest false (fields_from 0 l)) (drop_of_length-le file h)
