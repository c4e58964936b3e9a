-- The cases of `first_row` and `next_row`. Assumes nothing.
use mathlib.Core.Path.{◌≡◌, refl, sym, ap, ◌∙◌, subst}
use mathlib.Core.Bool.{Bool, true, false, not, ◌||◌, true≢false}
use mathlib.Core.Logic.{◌⊎◌, inl, inr}
use lib.Dec.{T, T_not}
use lib.Ieee.{Float, lt, le, eq, is_nan, binary64}
use Rattle.ieee.specs.Same.{or_l, or_r, T_true, true_T, finite_not_nan, eq_refl}
use Rattle.ieee.specs.Total.{total, le_refl, lt→le}
use Rattle.ieee.specs.Order.{le_trans, past_lower, past_upper}
use Rattle.math.specs.declared.Vec3.{Vec3}
use Rattle.weld_vertex.specs.Points.{CleanFloat, Clean}
use Rattle.weld_vertex.proofs.Clean.{eq_data}
use Rattle.weld_order.specs.declared.Row.{Row}
use Rattle.weld_order.specs.Rows.{beside, among, first_row, next_row, Follows}
use Rattle.weld_order.proofs.Among.{level_is, above_is, facts, made, rising_near, rising_facts, falling_facts, rising_made, falling_made}
use Rattle.slice_law.specs.Bools.{false_T}

number : (x : Float) → CleanFloat x → T (not (is_nan x))
number x c = finite_not_nan x c.finitely

not_le : (a b : Float) → lt a b ≡ false → eq a b ≡ false → T (not (le a b))
unfolding le
not_le a b h k = false_T (lt a b || eq a b) (λ i. h i || k i)

eq→le : (a b : Float) → T (eq a b) → T (le a b)
unfolding le
eq→le a b h = or_r (lt a b) (eq a b) h

-- a is at or below q, and not at or below p: then p is below q
below_all : (a p q : Float) → T (not (is_nan p)) → T (not (is_nan q)) → T (not (le a p)) → T (le a q) → T (lt p q)
below_all a p q n m h k = go (lt p q) (λ l. T_not (le a p) h (le_trans a q p k (total p q n m l)))
  where
    go : (b : Bool) → (T (not b) → ⊥) → T b
    go true f = tt
    go false f = absurd (f tt)

-- ---- which row `next_row` answers
module _ (r : Row) (v p : Vec3) where
  pub row_lower : eq v.z p.z ≡ false → first_row p ≡ next_row r v p
  unfolding next_row
  row_lower e = rw e

  pub row_level : (b : Bool) → eq v.z p.z ≡ true → le r.near p.y ≡ b → record { near = r.near; rising = not b } ≡ next_row r v p
  unfolding next_row
  row_level b e n = rw (e, n)

-- a point alone in its row
pub alone : (p : Vec3) → Clean p → among (record { near = p.y; rising = false }) p p ≡ true
alone p C =
    made (record { near = p.y; rising = false }) p p
    (inr (eq_refl p.z (number p.z C.cz), falling_made (record { near = p.y; rising = false }) p p refl (le_refl p.x (number p.x C.cx)) (le_refl p.y (number p.y C.cy))))

module _ (r : Row) (v p : Vec3) (L : Clean v) (P : Clean p) (o : among r v p ≡ false) where
  not_above : (b : Bool) → lt v.z p.z ≡ b → lt v.z p.z ≡ false
  not_above true e = absurd (true≢false (above_is r v p e ∙ o))
  not_above false e = e

  under : lt v.z p.z ≡ false
  under = not_above (lt v.z p.z) refl

  -- p lies lower: a new row
  pub lower : eq v.z p.z ≡ false → Follows r v p (record { near = p.y; rising = false })
  lower e =
      record {
        has = alone p P;
        keeps = λ q Q h. made (record { near = p.y; rising = false }) p q (inl (below_all v.z p.z q.z (number p.z P.cz) (number q.z Q.cz) (not_le v.z p.z under e) (low q (facts r v q h))));
      }
    where
      low : (q : Vec3) → T (lt v.z q.z) ⊎ (T (eq v.z q.z) × T (beside r v q)) → T (le v.z q.z)
      low q (inl k) = lt→le v.z q.z k
      low q (inr k) = eq→le v.z q.z k.0

  module _ (e : eq v.z p.z ≡ true) where
    same : v.z ≡ p.z
    same = eq_data v.z p.z L.cz P.cz (true_T (eq v.z p.z) e)

    aside : beside r v p ≡ false
    aside = level_is r v p under e ∙ o

    -- all points so far, with another row at the same height
    moved : (s : Row) → T (beside s p p) → ((q : Vec3) → T (beside r v q) → T (beside s p q)) → Follows r v p s
    moved s b f = record { has = made s p p (inr (eq_refl p.z (number p.z P.cz), b)); keeps = λ q Q h. made s p q (go q (facts r v q h)) }
      where
        go : (q : Vec3) → T (lt v.z q.z) ⊎ (T (eq v.z q.z) × T (beside r v q)) → T (lt p.z q.z) ⊎ (T (eq p.z q.z) × T (beside s p q))
        go q (inl k) = inl (subst (λ (z : Float). T (lt z q.z)) same k)
        go q (inr (k, b)) = inr (subst (λ (z : Float). T (eq z q.z)) same k, f q b)

    left_of : (b : Bool) → r.rising ≡ b → le r.near p.y ≡ true → (q : Vec3) → T (beside r v q) → T (le p.x q.x) × T (le r.near q.y)
    left_of true k n q b = absurd (true≢false (rising_near r v p k n ∙ aside))
    left_of false k n q b =
        let f = falling_facts r v q k b in
        (past_lower v.x p.x q.x (number p.x P.cx) (not_right (le v.x p.x) refl) f.0, f.1)
      where
        not_right : (t : Bool) → le v.x p.x ≡ t → T (not (le v.x p.x))
        not_right true h = absurd (true≢false (sym (T_true (beside r v p) (falling_made r v p k (true_T (le v.x p.x) h) (true_T (le r.near p.y) n))) ∙ aside))
        not_right false h = false_T (le v.x p.x) h

    -- p is left of the row
    pub leftmost : le r.near p.y ≡ true → Follows r v p (record { near = r.near; rising = false })
    leftmost n =
        moved (record { near = r.near; rising = false })
        (falling_made (record { near = r.near; rising = false }) p p refl (le_refl p.x (number p.x P.cx)) (true_T (le r.near p.y) n))
        (λ q b. let f = left_of r.rising refl n q b in falling_made (record { near = r.near; rising = false }) p q refl f.0 f.1)

    right_of : (b : Bool) → r.rising ≡ b → (q : Vec3) → T (beside r v q) → T (le r.near q.y) ⊎ T (le q.x p.x)
    right_of false k q b = inl (falling_facts r v q k b).1
    right_of true k q b = go (rising_facts r v q k b)
      where
        not_left : (t : Bool) → le p.x v.x ≡ t → T (not (le p.x v.x))
        not_left true h = absurd (true≢false (sym (T_true (beside r v p) (rising_made r v p k (inr (true_T (le p.x v.x) h)))) ∙ aside))
        not_left false h = false_T (le p.x v.x) h

        go : T (le r.near q.y) ⊎ T (le q.x v.x) → T (le r.near q.y) ⊎ T (le q.x p.x)
        go (inl l) = inl l
        go (inr l) = inr (past_upper v.x p.x q.x (number p.x P.cx) (not_left (le p.x v.x) refl) l)

    -- p is on the other side
    pub across : Follows r v p (record { near = r.near; rising = true })
    across =
        moved (record { near = r.near; rising = true })
        (rising_made (record { near = r.near; rising = true }) p p refl (inr (le_refl p.x (number p.x P.cx))))
        (λ q b. rising_made (record { near = r.near; rising = true }) p q refl (right_of r.rising refl q b))
