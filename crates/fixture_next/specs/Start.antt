-- The start of a walk over the solids of a file that is accepted. Assumes nothing.
use Rattle.std.specs.Prelude.{◌≡◌, refl, Bool, true, false, not, cond, List, ℕ, length, ltb}
use Rattle.std.proofs.Common.{sym, ap, ◌∙◌, arith, ltb-false}
use Rattle.refusal.specs.Answer.{Answer}
use Rattle.refusal.specs.Answer.{Accepted, BrokenField, NoSolid}
use Rattle.refusal.specs.Accepted.{is_accepted, or_else}
use Rattle.refusal.specs.Laws.{accepted_is}
use Rattle.shape.specs.declared.CoordSystem.TheVariants.{Cartesian}
use Rattle.fixture_spec.specs.Fields.{fields_from, first_refusal, any_solid, file_refusal}
use Rattle.fixture_spec.specs.Solids.{jobs_of}
use Rattle.fixture_next.specs.Ready.{Ready, jobs_at}

-- of two refusals neither is due
pub first_accepted : (r s : Answer) → or_else r s ≡ Accepted → r ≡ Accepted
unfolding or_else
first_accepted r s h = go (is_accepted r) refl h
  where
    go : (b : Bool) → is_accepted r ≡ b → cond b s r ≡ Accepted → r ≡ Accepted
    go true e i = accepted_is r e
    go false e i = i

pub second_accepted : (r s : Answer) → r ≡ Accepted → or_else r s ≡ Accepted → s ≡ Accepted
unfolding or_else
second_accepted r s e h = sym (ap (λ (x : Answer). cond (is_accepted x) s x) e) ∙ h

-- a file that is accepted can be read from its start
pub ready_start : (file : List ℕ) → file_refusal file ≡ Accepted → Ready file 0
unfolding file_refusal
ready_start file e = go (ltb 65535 (length file)) refl e
  where
    go : (b : Bool) → ltb 65535 (length file) ≡ b
        → cond b BrokenField (or_else (first_refusal (fields_from 0 file)) (cond (not (any_solid (fields_from 0 file))) NoSolid Accepted)) ≡ Accepted
        → Ready file 0
    go true t h =
        let wrong : BrokenField ≡ Accepted = h in
        let z : ◌≡◌ {A = ℕ} 0 1 = cc in
        record { within = omega arith; short = omega arith; sound = cc }
    go false t h = record { within = omega arith; short = ltb-false 65535 (length file) t; sound = first_accepted _ _ h }

-- its solids are those from there on, at 32 segments and 16 rings
pub jobs_start : (file : List ℕ) → jobs_of file ≡ jobs_at file 0 (record { segments = 32; sphere_rings = 16 }) Cartesian
unfolding jobs_of
jobs_start file = refl
