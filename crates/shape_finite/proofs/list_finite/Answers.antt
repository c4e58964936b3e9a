-- `shape_finite::list_finite` meets its contract. Assumes nothing.
use borrow.Enum.Refused.{opened}
use borrow.Author.Rules.{rules}
use mathlib.Core.Path.{◌≡◌, refl, sym, ap, ◌∙◌}
use mathlib.Core.List.{List, [], ◌∷◌}
use types.Run.{OneOf, miss}
use denote.Enum.Declared.{tag_of}
use lib.Ieee.{Float}
use lib.Ieee.Scale.{finite}
use Rattle.slice.specs.Every.{every}
use Rattle.shape.specs.contracts.Items as ofItems
use Rattle.shape.specs.declared.Items.{Items}
use Rattle.shape.specs.declared.Items.TheVariants.{NoItems, Corners, Points, Boxes}
use Rattle.shape.specs.Drawing.{list_of}
use Rattle.shape_finite.proofs.list_finite.Goals as goal

-- a list of items is read whole
whole : (i : Items) (list : List Float) → OneOf (1 ∷ 2 ∷ 3 ∷ []) (tag_of ofItems.the_type i) → list ≡ list_of i list
unfolding list_of
whole NoItems list k = absurd (miss (1 ∷ 2 ∷ 3 ∷ []) 0 tt k)
whole Corners list k = refl
whole Points list k = refl
whole Boxes list k = refl

pub returns-in-NoItems : goal.returns-in-NoItems
unfolding list_of every
returns-in-NoItems c = sym (ap (λ (i : Items). every finite (list_of i c.args.list.now)) c.in-NoItems.is)

pub returns-in_default : goal.returns-in_default
returns-in_default c =
    let args = c.args in
    c.all_pass.ensures finite (λ x b e. e) ∙ ap (every finite) (whole args.items args.list.now (opened c.in_default.in_default-own.keys2))
