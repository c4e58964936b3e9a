-- The field at a place from which a file can be read. Assumes nothing.
use mathlib.Core.Path.{◌≡◌, refl, sym, ap, subst, ◌∙◌}
use mathlib.Core.Bool.{Bool, true, false, ◌&&◌, cond}
use mathlib.Core.List.{List, ◌∷◌}
use Prim.Native.Nat.{ℕ, ◌+◌, ◌*◌, ◌-◌, ◌%◌, ◌≤◌, ◌<◌}
use native.Mathlib.Omega.{arith}
use lib.ListN.{length, get_or, drop, length-drop, drop_of_length-le}
use lib.Dec.{eqb, leb}
use borrow.Author.Tests.{eqb-true, leb-true, not-false}
use Rattle.refusal.specs.Answer.{Accepted}
use Rattle.fixture_spec.specs.declared.Layout.{Layout}
use Rattle.fixture_spec.specs.Fields.{Field, size_of, payload_of, fields_from, is_solid, known_tag, layout_of, fixed_bytes, right_size, field_refusal, first_refusal}
use Rattle.fixture_spec.specs.Solids.{Settings, settings_after}
use Rattle.fixture_payload.proofs.Part.{whole_length}
use Rattle.fixture_field.proofs.Cut.{behind, next_field, behind_is, tests, fits}
use Rattle.fixture_solid.specs.Field.{Sound, payload_at, behind_at, SolidHere}
use Rattle.fixture_solid.proofs.Arms.{sound_at, solid_layout}
use Rattle.fixture_next.specs.Ready.{Ready}
use Rattle.fixture_next.specs.Next.{next_solid}
use Rattle.fixture_next.specs.Start.{first_accepted, second_accepted}

-- ---- a length that is right has what comes before the list

and_left : (a b : Bool) → (a && b) ≡ true → a ≡ true
and_left true b e = refl
and_left false b e = e

enough : (list : Bool) (l : Layout) (n : ℕ) (whole : Bool) → cond list (eqb n (fixed_bytes l)) (leb (fixed_bytes l) n && whole) ≡ true → fixed_bytes l ≤ n
enough true l n whole h = omega (arith, eqb-true n (fixed_bytes l) h)
enough false l n whole h = leb-true (fixed_bytes l) n (and_left _ whole h)

right_size_lem : (l : Layout) (n : ℕ) → right_size l n ≡ true → fixed_bytes l ≤ n
unfolding right_size
right_size_lem l n h = enough (eqb l.item 0) l n (eqb ((n - fixed_bytes l) % (8 * l.item)) 0) h

-- ---- the field

module _ (file : List ℕ) (at : ℕ) (ready : Ready file at) (h : at < length file) where
  abbrev tag : ℕ
  tag = get_or file at 0

  abbrev after : List ℕ
  after = drop (at + 1) file

  both : first_refusal (record { tag = tag; after = after } ∷ behind file at) ≡ Accepted
  both = sym (ap first_refusal (next_field file at h)) ∙ ready.sound

  accepted : field_refusal tag after ≡ Accepted
  unfolding first_refusal
  accepted = first_accepted _ (first_refusal (behind file at)) both

  pub known_here : known_tag tag ≡ true
  known_here = not-false _ (tests tag after accepted).known

  pub fits_here : behind_at file at ≤ length file
  fits_here = omega (arith, fits tag after accepted, length-drop (at + 1) file)

  sized : fixed_bytes (layout_of tag (get_or (payload_of after) 0 0)) ≤ size_of after
  sized = right_size_lem (layout_of tag (get_or (payload_of after) 0 0)) (size_of after) (not-false _ (tests tag after accepted).sized)

  pub sound_here : Sound tag (payload_at file at)
  sound_here = omega (arith, sized, whole_length file at fits_here)

  -- the same of the payload as code lends it
  pub sound_lent : (p : List ℕ) → p ≡ payload_at file at → Sound tag p
  sound_lent p e = subst (Sound tag) (sym e) sound_here

  pub sound_five : (p : List ℕ) → p ≡ payload_at file at → tag ≡ 5 → Sound 5 p
  sound_five p e is = sound_at 5 p is (sound_lent p e)

  pub solid_here : is_solid tag ≡ true → SolidHere file at
  solid_here solid = record {
    solid = solid;
    whole = fits_here;
    sound = omega (arith, sized, ap fixed_bytes (solid_layout tag (get_or (payload_of after) 0 0) solid));
  }

  -- the walk stops at a solid
  pub stop_field : (x : Settings) → is_solid tag ≡ true
      → next_solid x (fields_from 0 (drop at file)) ≡ record { settings = x; fields = fields_from 0 (drop at file) }
  unfolding next_solid
  stop_field x solid =
      let f : Field = record { tag = tag; after = after } in
      let y = settings_after x tag (payload_at file at) in
      ap (next_solid x) (next_field file at h)
      ∙ ap (λ (b : Bool). cond b (record { settings = x; fields = f ∷ behind file at }) (next_solid y (behind file at))) solid
      ∙ ap (λ (fs : List Field). record { settings = x; fields = fs }) (sym (next_field file at h))

  module _ (n : ℕ) (e : n ≡ size_of after) where
    pub ready_next : Ready file (at + 3 + n)
    unfolding first_refusal
    ready_next = record {
      within = omega (arith, fits_here);
      short = ready.short;
      sound = ap first_refusal (sym (behind_is file at n e)) ∙ second_accepted _ (first_refusal (behind file at)) accepted both;
    }

    -- a field that is no solid is taken into the settings
    pub skip_field : (x : Settings) → is_solid tag ≡ false
        → next_solid x (fields_from 0 (drop at file)) ≡ next_solid (settings_after x tag (payload_at file at)) (fields_from 0 (drop (at + 3 + n) file))
    unfolding next_solid
    skip_field x plainly =
        let f : Field = record { tag = tag; after = after } in
        let y = settings_after x tag (payload_at file at) in
        ap (next_solid x) (next_field file at h)
        ∙ ap (λ (b : Bool). cond b (record { settings = x; fields = f ∷ behind file at }) (next_solid y (behind file at))) plainly
        ∙ ap (next_solid y) (behind_is file at n e)

-- and at the end
pub end_field : (file : List ℕ) (at : ℕ) (x : Settings) → length file ≤ at
    → next_solid x (fields_from 0 (drop at file)) ≡ record { settings = x; fields = fields_from 0 (drop at file) }
unfolding next_solid fields_from
end_field file at x h =
    let none = drop_of_length-le file h in
    ap (λ (l : List ℕ). next_solid x (fields_from 0 l)) none ∙ ap (λ (l : List ℕ). record { settings = x; fields = fields_from 0 l }) (sym none)
