-- `beside` and `among` by their cases. Assumes nothing.
use mathlib.Core.Path.{◌≡◌, sym, ap, ◌∙◌, subst}
use mathlib.Core.Bool.{Bool, true, false, ◌&&◌, ◌||◌, cond}
use mathlib.Core.Logic.{◌⊎◌, inl, inr}
use lib.Dec.{T}
use lib.Ieee.{lt, le, eq}
use lib.Ieee.Fits.{and_i, and_l, and_r}
use Rattle.ieee.specs.Same.{or_l, or_r, or_split, T_true, true_T}
use Rattle.math.specs.declared.Vec3.{Vec3}
use Rattle.weld_order.specs.declared.Row.{Row}
use Rattle.weld_order.specs.Rows.{beside, among}

module _ (r : Row) (v q : Vec3) where
  -- ---- the cases of `is_beside`
  pub rising_is : r.rising ≡ true → beside r v q ≡ (le r.near q.y || le q.x v.x)
  unfolding beside
  rising_is e = ap (λ (b : Bool). cond b (le r.near q.y || le q.x v.x) (le v.x q.x && le r.near q.y)) e

  pub falling_is : r.rising ≡ false → beside r v q ≡ (le v.x q.x && le r.near q.y)
  unfolding beside
  falling_is e = ap (λ (b : Bool). cond b (le r.near q.y || le q.x v.x) (le v.x q.x && le r.near q.y)) e

  pub rising_near : r.rising ≡ true → le r.near q.y ≡ true → true ≡ beside r v q
  rising_near e h = sym (rising_is e ∙ ap (λ (b : Bool). b || le q.x v.x) h)

  pub rising_far : r.rising ≡ true → le r.near q.y ≡ false → le q.x v.x ≡ beside r v q
  rising_far e h = sym (rising_is e ∙ ap (λ (b : Bool). b || le q.x v.x) h)

  pub falling_right : r.rising ≡ false → le v.x q.x ≡ true → le r.near q.y ≡ beside r v q
  falling_right e h = sym (falling_is e ∙ ap (λ (b : Bool). b && le r.near q.y) h)

  pub falling_left : r.rising ≡ false → le v.x q.x ≡ false → false ≡ beside r v q
  falling_left e h = sym (falling_is e ∙ ap (λ (b : Bool). b && le r.near q.y) h)

  -- ---- the cases of `is_among`
  pub above_is : lt v.z q.z ≡ true → true ≡ among r v q
  unfolding among
  above_is h = sym (ap (λ (b : Bool). b || (eq v.z q.z && beside r v q)) h)

  pub level_is : lt v.z q.z ≡ false → eq v.z q.z ≡ true → beside r v q ≡ among r v q
  unfolding among
  level_is h k = sym (λ i. h i || (k i && beside r v q))

  pub below_is : lt v.z q.z ≡ false → eq v.z q.z ≡ false → false ≡ among r v q
  unfolding among
  below_is h k = sym (λ i. h i || (k i && beside r v q))

  -- ---- the same as facts
  pub facts : among r v q ≡ true → T (lt v.z q.z) ⊎ (T (eq v.z q.z) × T (beside r v q))
  unfolding among
  facts h = go (or_split (lt v.z q.z) (eq v.z q.z && beside r v q) (true_T (among r v q) h))
    where
      go : T (lt v.z q.z) ⊎ T (eq v.z q.z && beside r v q) → T (lt v.z q.z) ⊎ (T (eq v.z q.z) × T (beside r v q))
      go (inl k) = inl k
      go (inr k) = inr (and_l (eq v.z q.z) (beside r v q) k, and_r (eq v.z q.z) (beside r v q) k)

  pub made : T (lt v.z q.z) ⊎ (T (eq v.z q.z) × T (beside r v q)) → among r v q ≡ true
  unfolding among
  made (inl k) = T_true (among r v q) (or_l (lt v.z q.z) (eq v.z q.z && beside r v q) k)
  made (inr (k, b)) = T_true (among r v q) (or_r (lt v.z q.z) (eq v.z q.z && beside r v q) (and_i (eq v.z q.z) (beside r v q) k b))

  pub rising_facts : r.rising ≡ true → T (beside r v q) → T (le r.near q.y) ⊎ T (le q.x v.x)
  rising_facts e b = or_split (le r.near q.y) (le q.x v.x) (subst T (rising_is e) b)

  pub falling_facts : r.rising ≡ false → T (beside r v q) → T (le v.x q.x) × T (le r.near q.y)
  falling_facts e b =
      let t = subst T (falling_is e) b in
      (and_l (le v.x q.x) (le r.near q.y) t, and_r (le v.x q.x) (le r.near q.y) t)

  pub rising_made : r.rising ≡ true → T (le r.near q.y) ⊎ T (le q.x v.x) → T (beside r v q)
  rising_made e (inl k) = subst T (sym (rising_is e)) (or_l (le r.near q.y) (le q.x v.x) k)
  rising_made e (inr k) = subst T (sym (rising_is e)) (or_r (le r.near q.y) (le q.x v.x) k)

  pub falling_made : r.rising ≡ false → T (le v.x q.x) → T (le r.near q.y) → T (beside r v q)
  falling_made e k l = subst T (sym (falling_is e)) (and_i (le v.x q.x) (le r.near q.y) k l)
