-- The loop that reads the operations of a case. Assumes nothing.
use mathlib.Core.Path.{◌≡◌, refl, sym, ap, ◌∙◌}
use mathlib.Core.List.{List, [], ◌∷◌, ◌++◌}
use Prim.Native.Nat.{ℕ, zero, suc, ◌+◌, ◌*◌, ◌-◌, ◌/◌, ◌≤◌, ◌<◌, min}
use native.Mathlib.Numerals.{add-one}
use native.Mathlib.Omega.{arith}
use lib.ListN.{length, set, replicate, length-append, length-replicate}
use lib.Seq.{set_at, append_snoc}
use Rattle.transform.specs.declared.TransformOp.{TransformOp}
use Rattle.replay_format.specs.Layout.{op_at}
use Rattle.transform.specs.Ops.{no_op}
use Rattle.replay_head.specs.Kept.{first_ops, ops_read, ops_of}

first_length : (n : ℕ) (b : List ℕ) → length (first_ops n b) ≡ n
unfolding first_ops
first_length zero b = refl
first_length (suc n) b = length-append (first_ops n b) _ ∙ ap (λ (k : ℕ). k + 1) (first_length n b) ∙ add-one n

store : (n k : ℕ) (b : List ℕ) (x : TransformOp) → x ≡ op_at b (136 * n) → set (first_ops n b ++ (no_op ∷ replicate k no_op)) n x ≡ first_ops (suc n) b ++ replicate k no_op
unfolding first_ops
store n k b x e =
    set_at (first_ops n b) no_op (replicate k no_op) x n (first_length n b)
    ∙ sym (append_snoc (first_ops n b) x (replicate k no_op))
    ∙ ap (λ (y : TransformOp). (first_ops n b ++ (y ∷ [])) ++ replicate k no_op) e

pub reading_none : (b : List ℕ) → replicate 16 no_op ≡ ops_read 0 b
unfolding first_ops
reading_none b = refl

pub reading_more : (n : ℕ) (b : List ℕ) (out : List TransformOp) (x : TransformOp) → n < 16 → out ≡ ops_read n b → x ≡ op_at b (136 * n) → set out n x ≡ ops_read (n + 1) b
reading_more n b out x h e p =
    let q : 16 - n ≡ suc (16 - (n + 1)) = omega arith in
    ap (λ (r : List TransformOp). set r n x) e
    ∙ ap (λ (k : ℕ). set (first_ops n b ++ replicate k no_op) n x) q
    ∙ store n (16 - (n + 1)) b x p
    ∙ ap (λ (k : ℕ). first_ops k b ++ replicate (16 - (n + 1)) no_op) (sym (add-one n))

pub reading_done : (n i count : ℕ) (b : List ℕ) (out : List TransformOp) → n ≡ min (min (length b / 136) count) 16 → i ≡ n → out ≡ ops_read i b → out ≡ ops_of b count
unfolding ops_of
reading_done n i count b out h k e = e ∙ ap (λ (j : ℕ). ops_read j b) (k ∙ h)
