-- `fixture_layout::right_size` meets its contract. Assumes nothing.
use borrow.Author.Rules.{rules}
use borrow.Author.Tests.{eq-eqb, ne_eqb, le-leb, lt-leb}
use Rattle.fixture_spec.specs.Fields.{right_size}
use Rattle.fixture_layout.proofs.right_size.Goals as goal

pub returns-then-item-eq0 : goal.returns-then-item-eq0
unfolding right_size
returns-then-item-eq0 c = rw (← c.fixed_bytes-fixed.ensures, ← c.from-item.ensures, eq-eqb _ _ c.if-item-eq0.true)

pub returns-then-n-fixed : goal.returns-then-n-fixed
unfolding right_size
returns-then-n-fixed c =
    rw (
      ← c.fixed_bytes-fixed.ensures,
      ← c.from-item.ensures,
      ne_eqb _ _ c.if-item-eq0.false,
      lt-leb _ _ c.if-n-fixed.true,
    )

pub returns : goal.returns
unfolding right_size
returns c =
    rw (
      ← c.fixed_bytes-fixed.ensures,
      ← c.from-item.ensures,
      ne_eqb _ _ c.if-item-eq0.false,
      le-leb _ _ c.if-n-fixed.false,
    )
