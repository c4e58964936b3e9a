-- The layout of a solid, and the settings after a field. Assumes nothing.
use mathlib.Core.Path.{◌≡◌, refl, sym, ap, ◌∙◌}
use mathlib.Core.Bool.{Bool, true, false, ◌&&◌, cond}
use mathlib.Core.List.{List, [], ◌∷◌, ◌++◌}
use Prim.Native.Nat.{ℕ, ◌+◌, ◌≤◌}
use native.Mathlib.Omega.{arith}
use lib.ListN.{length, get_or, length-append}
use lib.Dec.{eqb, leb}
use borrow.Author.Tests.{leb-true, ne_eqb}
use Rattle.slice_law.specs.Arms.{of_kind, Not}
use Rattle.transform.specs.declared.TransformOp.{TransformOp}
use Rattle.std.specs.Prelude.{None}
use Rattle.fixture_spec.specs.declared.Layout.{Layout}
use Rattle.fixture_spec.specs.Fields.{is_solid, layout, layout_of, fixed_bytes}
use Rattle.fixture_spec.specs.Solids.{Settings, fresh_settings, settings_after}
use Rattle.fixture_solid.specs.declared.Settings as Code
use Rattle.fixture_solid.specs.Field.{Sound, Numbers, counted, plain, After}

-- ---- the layout of a solid

and_left : (a b : Bool) → (a && b) ≡ true → a ≡ true
and_left true b e = refl
and_left false b e = e

pub solid_above : (tag : ℕ) → is_solid tag ≡ true → 16 ≤ tag
unfolding is_solid
solid_above tag h = leb-true 16 tag (and_left (leb 16 tag) (leb tag 25) h)

not_five : (tag : ℕ) → is_solid tag ≡ true → Not tag 5
not_five tag h e = omega (arith, solid_above tag h)

-- it has no kind
pub solid_layout : (tag kind : ℕ) → is_solid tag ≡ true → layout_of tag kind ≡ layout_of tag 0
unfolding layout_of
solid_layout tag kind h = rw (ne_eqb tag 5 (not_five tag h))

either : (b : Bool) (x y : Layout) → x.floats ≤ 10 → y.floats ≤ 10 → (cond b x y).floats ≤ 10
either true x y p q = p
either false x y p q = q

-- it has at most ten floats before its list
pub solid_few : (tag : ℕ) → is_solid tag ≡ true → (layout_of tag 0).floats ≤ 10
unfolding layout_of
solid_few t h =
    rw (ne_eqb t 5 (not_five t h))
    (either (eqb t 1) (layout 4 0 0) _ (omega arith)
    (either (eqb t 16) (layout 0 6 0) _ (omega arith)
    (either (eqb t 17) (layout 0 0 6) _ (omega arith)
    (either (eqb t 18) (layout 0 4 0) _ (omega arith)
    (either (eqb t 19) (layout 0 5 0) _ (omega arith)
    (either (eqb t 20) (layout 0 7 0) _ (omega arith)
    (either (eqb t 21) (layout 0 8 0) _ (omega arith)
    (either (eqb t 22) (layout 1 1 2) _ (omega arith)
    (either (eqb t 23) (layout 1 2 2) _ (omega arith)
    (either (eqb t 24) (layout 2 3 2) _ (omega arith) (either (eqb t 25) (layout 0 1 3) (layout 1 0 0) (omega arith) (omega arith))))))))))))

pub numbers_here : (tag : ℕ) (p : List ℕ) → is_solid tag ≡ true → fixed_bytes (layout_of tag 0) ≤ length p → (l : Layout) → l ≡ layout_of tag 0 → Numbers l p
numbers_here tag p h long l e =
    record { few = omega (arith, solid_few tag h, ap (λ (x : Layout). x.floats) e); long = omega (arith, ap fixed_bytes e) }

-- ---- the settings after a field

-- the bytes that a tag asks for
pub sound_at : (j : ℕ) {k : ℕ} (p : List ℕ) → k ≡ j → Sound k p → Sound j p
sound_at j p e h = omega (arith, ap (λ (k : ℕ). fixed_bytes (layout_of k (get_or p 0 0))) e)

-- one operation more
pub one_more : (ops : List TransformOp) (op : TransformOp) {n : ℕ} → n ≡ length ops → n + 1 ≡ length (ops ++ (op ∷ []))
one_more ops op e = ap (λ (k : ℕ). k + 1) e ∙ sym (length-append ops (op ∷ []))

-- a solid
pub other : (x : Settings) (k : ℕ) (p : List ℕ) → ((((Unit {0} × Not k 1) × Not k 2) × Not k 3) × Not k 4) × Not k 5
    → settings_after x k p ≡ fresh_settings x.options x.default
unfolding settings_after
other x k p n = simp (ne_eqb k 1 n.0.0.0.0.1, ne_eqb k 2 n.0.0.0.1, ne_eqb k 3 n.0.0.1, ne_eqb k 4 n.0.1, ne_eqb k 5 n.1)

pub afresh : (x : Settings) (tag : ℕ) (p : List ℕ) → is_solid tag ≡ true → settings_after x tag p ≡ fresh_settings x.options x.default
afresh x tag p h =
    let m = solid_above tag h in
    other x tag p (((((tt, λ e. omega arith), λ e. omega arith), λ e. omega arith), λ e. omega arith), λ e. omega arith)

-- an arm of the tag j, which answers the settings r
pub after_kind : (s : Code.Settings) (j : ℕ) {k : ℕ} (p : List ℕ) {r t : Code.Settings} → k ≡ j → r ≡ t → t.count ≤ s.count + 1
    → ((x : Settings) → s ≡ plain x → t ≡ plain (settings_after x j p)) → After s k p r
after_kind s j p keys e few held = record {
  held = λ x h. of_kind (λ (k : ℕ). plain (settings_after x k p)) j keys (e ∙ held x h);
  few = omega (arith, ap (λ (y : Code.Settings). y.count) e);
}

-- the arm of the other tags
pub after_other : (s : Code.Settings) {k : ℕ} (p : List ℕ) {r : Code.Settings} → ((((Unit {0} × Not k 1) × Not k 2) × Not k 3) × Not k 4) × Not k 5
    → r ≡ counted s.options s.default None false 0 → After s k p r
after_other s {k} p rest e = record {
  held = λ x h. e ∙ (λ i. counted (h i).options (h i).default None false 0) ∙ sym (ap plain (other x k p rest));
  few = omega (arith, ap (λ (y : Code.Settings). y.count) e);
}
