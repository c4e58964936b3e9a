-- Sixteen operations, one more, and the walk that gathers them. Assumes nothing.
use mathlib.Core.Path.{◌≡◌, refl, sym, ap, ◌∙◌}
use mathlib.Core.Bool.{Bool, true, false, ◌&&◌, ◌||◌, cond}
use mathlib.Core.List.{List, [], ◌∷◌, ◌++◌, append_assoc}
use Prim.Native.Nat.{ℕ, zero, suc, ◌+◌, ◌≤◌, ◌<◌}
use native.Mathlib.Omega.{arith}
use lib.ListN.{length, get_or, take, drop, set, replicate, length-append}
use lib.Seq.{set_at, take-set-lt, take-append-le, append_snoc}
use lib.Dec.{eqb, leb}
use borrow.Author.Tests.{leb-true}
use Rattle.slice_law.specs.Arms.{Not}
use Rattle.transform.specs.declared.TransformOp.{TransformOp}
use Rattle.transform.specs.Ops.{no_op}
use Rattle.fixture_spec.specs.Fields.{size_of, fields_from, is_solid, known_tag}
use Rattle.fixture_spec.specs.Solids.{Settings, start_settings, op_of, settings_after, sixteen}
use Rattle.fixture_solid.specs.Field.{payload_at}
use Rattle.fixture_solid.proofs.Arms.{one_more}
use Rattle.fixture_next.specs.Ready.{Ready}
use Rattle.fixture_next.specs.Next.{Reached, next_solid, reached, ops_from, OneMore}
use Rattle.fixture_next.proofs.Here.{known_here, ready_next, skip_field, stop_field, end_field}

-- ---- the array

-- a fifteenth of the same behind the sixteenth place is not seen
tail : (ys : List TransformOp) (z : TransformOp) → 1 ≤ length ys → take 16 (ys ++ replicate 15 z) ≡ take 16 (ys ++ replicate 16 z)
tail ys z h =
    sym (take-append-le 16 (ys ++ replicate 15 z) (z ∷ []) (omega (arith, length-append ys (replicate 15 z))))
    ∙ ap (take 16) (append_assoc ys (replicate 15 z) (z ∷ []))

room : (xs : List TransformOp) (op z : TransformOp) (n : ℕ) → n ≡ length xs → n < 16
    → set (take 16 (xs ++ replicate 16 z)) n op ≡ take 16 ((xs ++ (op ∷ [])) ++ replicate 16 z)
room xs op z n e h =
    sym (take-set-lt 16 (xs ++ replicate 16 z) n op h)
    ∙ ap (take 16) (set_at xs z (replicate 15 z) op n (sym e) ∙ sym (append_snoc xs op (replicate 15 z)))
    ∙ tail (xs ++ (op ∷ [])) z (omega (arith, length-append xs (op ∷ [])))

full : (xs : List TransformOp) (op z : TransformOp) (n : ℕ) → n ≡ length xs → 16 ≤ n
    → take 16 (xs ++ replicate 16 z) ≡ take 16 ((xs ++ (op ∷ [])) ++ replicate 16 z)
full xs op z n e h =
    take-append-le 16 xs (replicate 16 z) (omega arith)
    ∙ sym (take-append-le 16 xs ((op ∷ []) ++ replicate 16 z) (omega arith))
    ∙ ap (take 16) (sym (append_assoc xs (op ∷ []) (replicate 16 z)))

pub stored : (ops : List TransformOp) (count : ℕ) (op : TransformOp) → count < 16 → OneMore ops count op (set ops count op)
unfolding sixteen
stored ops count op h xs e n = ap (λ (l : List TransformOp). set l count op) e ∙ room xs op no_op count n h

pub kept : (ops : List TransformOp) (count : ℕ) (op : TransformOp) → 16 ≤ count → OneMore ops count op ops
unfolding sixteen
kept ops count op h xs e n = e ∙ full xs op no_op count n h

-- ---- the operations after a field

abbrev pub chosen : ℕ → List TransformOp → List TransformOp → List TransformOp
chosen t ops more = cond (eqb t 1) ops (cond (eqb t 2) ops (cond (eqb t 3) ops (cond (eqb t 4) ops (cond (eqb t 5) more []))))

push : (b : Bool) (x y : Settings) (u v : List TransformOp) → x.ops ≡ u → y.ops ≡ v → (cond b x y).ops ≡ cond b u v
push true x y u v p q = p
push false x y u v p q = q

pub ops_after : (x : Settings) (t : ℕ) (p : List ℕ) → (settings_after x t p).ops ≡ chosen t x.ops (x.ops ++ (op_of p ∷ []))
unfolding settings_after
ops_after x t p =
    push (eqb t 1) _ _ x.ops _ refl
    (push (eqb t 2) _ _ x.ops _ refl
    (push (eqb t 3) _ _ x.ops _ refl
    (push (eqb t 4) _ _ x.ops _ refl (push (eqb t 5) _ _ (x.ops ++ (op_of p ∷ [])) [] refl refl))))

small : (t : ℕ) → 1 ≤ t → t ≤ 4 → (ops more : List TransformOp) → chosen t ops more ≡ ops
small zero a b ops more = let no : ◌≡◌ {A = ℕ} 0 1 = omega arith in cc
small (suc zero) a b ops more = refl
small (suc (suc zero)) a b ops more = refl
small (suc (suc (suc zero))) a b ops more = refl
small (suc (suc (suc (suc zero)))) a b ops more = refl
small (suc (suc (suc (suc (suc t))))) a b ops more = let no : ◌≡◌ {A = ℕ} 0 1 = omega arith in cc

and_both : (a b : Bool) → (a && b) ≡ true → (a ≡ true) × (b ≡ true)
and_both true true h = (refl, refl)
and_both true false h = (refl, h)
and_both false b h = (h, let no : false ≡ true = h in cc)

or_left : (a b : Bool) → b ≡ false → (a || b) ≡ true → a ≡ true
or_left true b e h = refl
or_left false b e h = let no : false ≡ true = sym e ∙ h in cc

four : (t : ℕ) → t ≤ 5 → Not t 5 → t ≤ 4
four t a n = omega (arith, n)

setting : (t : ℕ) → known_tag t ≡ true → is_solid t ≡ false → Not t 5 → (1 ≤ t) × (t ≤ 4)
unfolding known_tag
setting t h s n =
    let b = and_both (leb 1 t) (leb t 5) (or_left (leb 1 t && leb t 5) (is_solid t) s h) in
    (leb-true 1 t b.0, four t (leb-true t 5 b.1) n)

no_op_lem : (x : Settings) (t : ℕ) (p : List ℕ) → known_tag t ≡ true → is_solid t ≡ false → Not t 5 → (settings_after x t p).ops ≡ x.ops
no_op_lem x t p h s n = let b = setting t h s n in ops_after x t p ∙ small t b.0 b.1 x.ops _

five : (x : Settings) (t : ℕ) (p : List ℕ) → t ≡ 5 → (settings_after x t p).ops ≡ x.ops ++ (op_of p ∷ [])
five x t p e = ops_after x t p ∙ ap (λ (k : ℕ). chosen k x.ops (x.ops ++ (op_of p ∷ []))) e

-- ---- the walk

-- the operations so far, and what is reached from the place is what is reached from the start
pub record Gathered (file : List ℕ) (from at : ℕ) (ops : List TransformOp) (count : ℕ) : Type 0 where
  pub ready : Ready file at
  pub few : count ≤ at
  x : Settings
  held : ops ≡ sixteen x.ops
  counted : count ≡ length x.ops
  same : reached file from start_settings.options start_settings.default ≡ next_solid x (fields_from 0 (drop at file))

pub start : (file : List ℕ) (from : ℕ) → Ready file from → Gathered file from from (replicate 16 no_op) 0
unfolding sixteen
start file from ready = record { ready = ready; few = omega arith; x = start_settings; held = refl; counted = refl; same = refl }

module _ (file : List ℕ) (from at : ℕ) (ops : List TransformOp) (count : ℕ) (w : Gathered file from at ops count) where
  module _ (h : at < length file) (p : List ℕ) (e : length p ≡ size_of (drop (at + 1) file)) (plainly : is_solid (get_or file at 0) ≡ false) where
    pub other : Not (get_or file at 0) 5 → Gathered file from (at + 3 + length p) ops count
    other differs =
        let keeps = no_op_lem w.x (get_or file at 0) (payload_at file at) (known_here file at w.ready h) plainly differs in
        record {
          ready = ready_next file at w.ready h (length p) e;
          few = omega (arith, w.few);
          x = settings_after w.x (get_or file at 0) (payload_at file at);
          held = w.held ∙ sym (ap sixteen keeps);
          counted = w.counted ∙ sym (ap length keeps);
          same = w.same ∙ skip_field file at w.ready h (length p) e w.x plainly;
        }

    pub more : (op : TransformOp) (r : List TransformOp) → p ≡ payload_at file at → get_or file at 0 ≡ 5 → op ≡ op_of p → OneMore ops count op r
        → Gathered file from (at + 3 + length p) r (count + 1)
    more op r payload is read one =
        let grows =
        ap (λ (o : TransformOp). w.x.ops ++ (o ∷ [])) (read ∙ ap op_of payload)
        ∙ sym (five w.x (get_or file at 0) (payload_at file at) is)
        in
        record {
          ready = ready_next file at w.ready h (length p) e;
          few = omega (arith, w.few);
          x = settings_after w.x (get_or file at 0) (payload_at file at);
          held = one w.x.ops w.held w.counted ∙ ap sixteen grows;
          counted = one_more w.x.ops op w.counted ∙ ap length grows;
          same = w.same ∙ skip_field file at w.ready h (length p) e w.x plainly;
        }

  pub found : at < length file → is_solid (get_or file at 0) ≡ true → ops ≡ ops_from file from
  unfolding ops_from
  found h solid = w.held ∙ sym (ap (λ (r : Reached). sixteen r.settings.ops) (w.same ∙ stop_field file at w.ready h w.x solid))

  pub at_end : length file ≤ at → ops ≡ ops_from file from
  unfolding ops_from
  at_end h = w.held ∙ sym (ap (λ (r : Reached). sixteen r.settings.ops) (w.same ∙ end_field file at w.x h))
