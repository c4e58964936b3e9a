-- Of the whole numbers none but those from −4 to 4 passes the code's test of size. Assumes nothing.
use mathlib.Core.Path.{◌≡◌, refl, sym, ap, ◌∙◌}
use mathlib.Core.Logic.{◌⊎◌, inl, inr}
use mathlib.Core.List.{List, [], ◌∷◌}
use mathlib.Core.Bool.{Bool, true, false, ◌&&◌, cond}
use Prim.Native.Nat.{ℕ, zero, suc, ◌+◌, ◌*◌, ◌^◌, ◌≤◌}
use native.Mathlib.Nat.{zero-lt-suc}
use native.Mathlib.Omega.{arith}
use lib.Dec.{T, ltb}
use lib.IntN.{ℤ, pos, negsuc}
use lib.Ieee.{inf, Format, binary64, prec, emax, low, odd, units, round, of_int, of_bits, neg, le}
use lib.Ieee.Fits.{round_is}
use lib.Ieee.Order.{round_mono, kept, drop}
use Rattle.ieee.specs.Same.{true_T}
use Rattle.ieee.specs.Order.{le_trans}
use Rattle.trig_spec.specs.Trig.{quarter_numbers}
use Rattle.trig.specs.Quarter.{four}

-- m from −4 to 4, as the code tests it
abbrev pub small : ℤ → Bool
small m = le (of_int binary64 m) four && le (neg (of_int binary64 m)) four

-- ---- rounding below zero mirrors rounding above it
neg_odd : (d q k l : ℕ) → neg (odd d true q k l) ≡ odd d false q k l
unfolding neg odd
neg_odd d zero k l = refl
neg_odd d (suc q) k l = refl

neg_units : (f : Format) (q k : ℕ) → neg (units f true q k) ≡ units f false q k
unfolding units
neg_units f q k = go (ltb (q * 2 ^ k) (2 ^ (low f + suc (emax f))))
  where
    go : (b : Bool) → neg (cond b (odd (suc (prec f)) true q k (low f)) (inf true)) ≡ cond b (odd (suc (prec f)) false q k (low f)) (inf false)
    go true = neg_odd (suc (prec f)) q k (low f)
    go false = unfold neg in refl

neg_round : (f : Format) (a c : ℕ) → neg (round f true a c) ≡ round f false a c
neg_round f a c =
    ap neg (round_is f true a c) ∙ neg_units f (kept (prec f) (a * 2 ^ low f) c) (drop (prec f) (a * 2 ^ low f) c) ∙ sym (round_is f false a c)

-- ---- above 4 in size
five_above : T (le (round binary64 false 5 1) four) → ⊥
unfolding round le of_bits
five_above t = t

above_four : (n : ℕ) → 5 ≤ n → le (round binary64 false n 1) four ≡ false
above_four n h = go (le (round binary64 false n 1) four) (true_T (le (round binary64 false n 1) four))
  where
    more : T (le (round binary64 false 5 1) (round binary64 false n 1))
    more = round_mono binary64 5 1 n 1 (zero-lt-suc 0) (zero-lt-suc 0) (omega arith)

    go : (b : Bool) → (b ≡ true → T (le (round binary64 false n 1) four)) → b ≡ false
    go false e = refl
    go true e = absurd (five_above (le_trans (round binary64 false 5 1) (round binary64 false n 1) four more (e refl)))

-- q is one of ms
abbrev pub In : ℤ → List ℤ → Type 0
In q [] = ⊥
In q (m ∷ ms) = (q ≡ m) ⊎ In q ms

pub and_false : (u v : Bool) → v ≡ false → (u && v) ≡ false
and_false true v h = h
and_false false v h = refl

pub in_or_large : (q : ℤ) → In q quarter_numbers ⊎ (small q ≡ false)
unfolding of_int
in_or_large (negsuc zero) = inl (inr (inr (inr (inl refl))))
in_or_large (negsuc (suc zero)) = inl (inr (inr (inl refl)))
in_or_large (negsuc (suc (suc zero))) = inl (inr (inl refl))
in_or_large (negsuc (suc (suc (suc zero)))) = inl (inl refl)
in_or_large (negsuc (suc (suc (suc (suc n))))) =
    let a = suc (suc (suc (suc (suc n)))) in
    inr (and_false (le (round binary64 true a 1) four) (le (neg (round binary64 true a 1)) four)
    (ap (λ x. le x four) (neg_round binary64 a 1) ∙ above_four a (omega arith)))
in_or_large (pos zero) = inl (inr (inr (inr (inr (inl refl)))))
in_or_large (pos (suc zero)) = inl (inr (inr (inr (inr (inr (inl refl))))))
in_or_large (pos (suc (suc zero))) = inl (inr (inr (inr (inr (inr (inr (inl refl)))))))
in_or_large (pos (suc (suc (suc zero)))) = inl (inr (inr (inr (inr (inr (inr (inr (inl refl))))))))
in_or_large (pos (suc (suc (suc (suc zero))))) = inl (inr (inr (inr (inr (inr (inr (inr (inr (inl refl)))))))))
in_or_large (pos (suc (suc (suc (suc (suc n)))))) =
    let a = suc (suc (suc (suc (suc n)))) in
    inr (ap (λ b. b && le (neg (round binary64 false a 1)) four) (above_four a (omega arith)))
