-- The fields of a file from a place on. Assumes nothing.
use mathlib.Core.Path.{◌≡◌, refl, sym, ap, ◌∙◌}
use mathlib.Core.Bool.{Bool, true, false, not, ◌&&◌, cond}
use mathlib.Core.List.{List, [], ◌∷◌}
use Prim.Native.Nat.{ℕ, zero, suc, ◌+◌, ◌≤◌, ◌<◌}
use native.Mathlib.Numerals.{add-one}
use native.Mathlib.Omega.{arith}
use lib.ListN.{length, get_or, drop}
use lib.Seq.{drop-cons, drop-drop}
use lib.Dec.{ltb}
use borrow.Author.Tests.{ltb-false}
use Rattle.refusal.specs.Answer.{Accepted, BrokenField, UnknownField}
use Rattle.fixture_spec.specs.Fields.{Field, size_of, payload_of, fields_from, known_tag, known_first, layout_of, right_size, field_refusal}

-- ---- the field at a place

skip : (n : ℕ) (l : List ℕ) → fields_from n l ≡ fields_from 0 (drop n l)
unfolding fields_from
skip zero l = refl
skip (suc n) [] = refl
skip (suc n) (b ∷ l) = skip n l

sum : (at n : ℕ) → at + 1 + (2 + n) ≡ at + 1 + 2 + n
sum at n = omega arith

-- the fields behind it
abbrev pub behind : List ℕ → ℕ → List Field
behind file at = fields_from 0 (drop (at + 1 + 2 + size_of (drop (at + 1) file)) file)

pub next_field : (file : List ℕ) (at : ℕ) → at < length file
    → fields_from 0 (drop at file) ≡ record { tag = get_or file at 0; after = drop (at + 1) file } ∷ behind file at
unfolding fields_from
next_field file at h =
    let e : at + 1 ≡ suc at = add-one at in
    let after = drop (at + 1) file in
    ap (fields_from 0) (drop-cons file at 0 h)
    ∙ ap (λ (k : ℕ). record { tag = get_or file at 0; after = drop k file } ∷ fields_from (2 + size_of (drop k file)) (drop k file)) (sym e)
    ∙ ap (λ (fs : List Field). record { tag = get_or file at 0; after = after } ∷ fs)
    (skip (2 + size_of after) after ∙ ap (fields_from 0) (drop-drop (2 + size_of after) (at + 1) file ∙ ap (λ (k : ℕ). drop k file) (sum at (size_of after))))

-- the place behind it
place : (at n : ℕ) → at + 1 + 2 + n ≡ at + 3 + n
place at n = omega arith

pub behind_is : (file : List ℕ) (at n : ℕ) → n ≡ size_of (drop (at + 1) file) → behind file at ≡ fields_from 0 (drop (at + 3 + n) file)
behind_is file at n e = ap (λ (k : ℕ). fields_from 0 (drop k file)) (place at (size_of (drop (at + 1) file)) ∙ ap (λ (k : ℕ). at + 3 + k) (sym e))

-- ---- a field that is accepted

-- the five tests of a field
pub record Passed (a b c d e : Bool) : Type 0 where
  pub known : a ≡ false
  pub fits : d ≡ false
  pub sized : e ≡ false

passed : (a b c d e : Bool) → cond a UnknownField (cond b BrokenField (cond c UnknownField (cond d BrokenField (cond e BrokenField Accepted)))) ≡ Accepted
    → Passed a b c d e
passed true b c d e h = let no : UnknownField ≡ Accepted = h in record { known = cc; fits = cc; sized = cc }
passed false true c d e h = let no : BrokenField ≡ Accepted = h in record { known = cc; fits = cc; sized = cc }
passed false false true d e h = let no : UnknownField ≡ Accepted = h in record { known = cc; fits = cc; sized = cc }
passed false false false true e h = let no : BrokenField ≡ Accepted = h in record { known = cc; fits = cc; sized = cc }
passed false false false false true h = let no : BrokenField ≡ Accepted = h in record { known = cc; fits = cc; sized = cc }
passed false false false false false h = record { known = refl; fits = refl; sized = refl }

pub tests : (tag : ℕ) (after : List ℕ) → field_refusal tag after ≡ Accepted
    → Passed (not (known_tag tag)) (ltb (length after) 2) (ltb 0 (length (payload_of after)) && not (known_first tag (get_or (payload_of after) 0 0)))
    (ltb (length after) (2 + size_of after)) (not (right_size (layout_of tag (get_or (payload_of after) 0 0)) (size_of after)))
unfolding field_refusal
tests tag after h = passed _ _ _ _ _ h

-- it does not run past the end
pub fits : (tag : ℕ) (after : List ℕ) → field_refusal tag after ≡ Accepted → 2 + size_of after ≤ length after
fits tag after h = ltb-false (length after) (2 + size_of after) (tests tag after h).fits
