-- The two tests on a cross, and the kind that stands for them. Assumes nothing.
use Prim.Native.Nat.{ℕ, zero, suc, ◌+◌, ◌*◌}
use mathlib.Core.Path.{◌≡◌, refl}
use mathlib.Core.Bool.{Bool, true, false, cond, not, ◌||◌, false≢true}
use native.Mathlib.Omega.{arith}
use lib.Dec.{T, ltb, lt→ltb}
use lib.Ieee.{Float, nan, inf, fin, up, down, below, level, lt, eq, le, is_nan}
use Rattle.ieee.specs.Number.{absolute}
use Rattle.outline_ears.specs.declared.CornerKind.TheVariants.{Ear, Flat, Neither}
use Rattle.outline_ears.specs.Kinds.{is_ear_kind, is_flat_kind}
use Rattle.ieee.specs.Same.{or_l, T_true, true_T}
use Rattle.ieee.specs.Total.{le_refl}
use Rattle.ieee.specs.Order.{le_trans}

pub ear_by : (a b : Bool) → is_ear_kind (cond a (cond b Flat Neither) Ear) ≡ not a
unfolding is_ear_kind
ear_by true true = refl
ear_by true false = refl
ear_by false b = refl

pub flat_by : (a b : Bool) → (b ≡ true → a ≡ true) → is_flat_kind (cond a (cond b Flat Neither) Ear) ≡ b
unfolding is_flat_kind
flat_by true true h = refl
flat_by true false h = refl
flat_by false true h = absurd (false≢true (h refl))
flat_by false false h = refl

-- -a is not above a
minus_below : (a : ℕ) → T (below true a false a || level true a false a)
minus_below zero = tt
minus_below (suc a) = or_l (ltb 0 (suc a + suc a)) (level true (suc a) false (suc a)) (lt→ltb 0 (suc a + suc a) (omega arith))

-- x is not above |x|
le_absolute : (x : Float) → T (not (is_nan x)) → T (le x (absolute x))
unfolding le lt eq absolute is_nan
le_absolute nan h = absurd h
le_absolute (inf true) h = tt
le_absolute (inf false) h = tt
le_absolute (fin true m e) h = minus_below (m * up e * down e)
le_absolute (fin false m e) h = le_refl (fin false m e) tt

pub absolute_le : (x e : Float) → le (absolute x) e ≡ true → le x e ≡ true
unfolding le lt eq absolute is_nan
absolute_le nan e h = absurd (false≢true h)
absolute_le (inf s) e h = T_true (le (inf s) e) (le_trans (inf s) (inf false) e (le_absolute (inf s) tt) (true_T (le (inf false) e) h))
absolute_le (fin s m d) e h = T_true (le (fin s m d) e) (le_trans (fin s m d) (fin false m d) e (le_absolute (fin s m d) tt) (true_T (le (fin false m d) e) h))
