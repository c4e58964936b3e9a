-- `fixture_field::field::field_refusal` meets its contract. Assumes nothing.
use Rattle.std.proofs.Common.{ap, not}
use borrow.Author.Rules.{rules}
use borrow.Author.Tests.{lt-ltb, le-ltb}
use Rattle.fixture_spec.specs.Fields.{field_refusal}
use Rattle.fixture_field.proofs.field.field_refusal.Goals as goal

pub returns-then-not-known_tag : goal.returns-then-not-known_tag
unfolding field_refusal
returns-then-not-known_tag c = rw (← c.known_tag.ensures, (ap not c.if-not-known_tag.true))

pub returns-then-after-lt2 : goal.returns-then-after-lt2
unfolding field_refusal
returns-then-after-lt2 c = rw (← c.known_tag.ensures, (ap not c.if-not-known_tag.false), lt-ltb _ _ c.if-after-lt2.true)

pub returns-then-there-known_first : goal.returns-then-there-known_first
unfolding field_refusal
returns-then-there-known_first c =
    rw (
      ← c.known_tag.ensures,
      (ap not c.if-not-known_tag.false),
      le-ltb _ _ c.if-after-lt2.false,
      ← c.payload_first-first.ensures,
      ← c.payload_len-there.ensures,
      ← c.known_first.ensures,
      c.if-there-known_first.true,
    )

pub returns-then-after-n : goal.returns-then-after-n
unfolding field_refusal
returns-then-after-n c =
    rw (
      ← c.known_tag.ensures,
      (ap not c.if-not-known_tag.false),
      le-ltb _ _ c.if-after-lt2.false,
      ← c.payload_first-first.ensures,
      ← c.payload_len-there.ensures,
      ← c.known_first.ensures,
      c.if-there-known_first.false,
      ← c.size_of-n.ensures.0,
      lt-ltb _ _ c.if-after-n.true,
    )

pub returns-then-not-right_size : goal.returns-then-not-right_size
unfolding field_refusal
returns-then-not-right_size c =
    rw (
      ← c.known_tag.ensures,
      (ap not c.if-not-known_tag.false),
      le-ltb _ _ c.if-after-lt2.false,
      ← c.payload_first-first.ensures,
      ← c.payload_len-there.ensures,
      ← c.known_first.ensures,
      c.if-there-known_first.false,
      ← c.size_of-n.ensures.0,
      le-ltb _ _ c.if-after-n.false,
      ← c.layout_of.ensures,
      ← c.right_size.ensures,
      (ap not c.if-not-right_size.true),
    )

pub returns : goal.returns
unfolding field_refusal
returns c =
    rw (
      ← c.known_tag.ensures,
      (ap not c.if-not-known_tag.false),
      le-ltb _ _ c.if-after-lt2.false,
      ← c.payload_first-first.ensures,
      ← c.payload_len-there.ensures,
      ← c.known_first.ensures,
      c.if-there-known_first.false,
      ← c.size_of-n.ensures.0,
      le-ltb _ _ c.if-after-n.false,
      ← c.layout_of.ensures,
      ← c.right_size.ensures,
      (ap not c.if-not-right_size.false),
    )
