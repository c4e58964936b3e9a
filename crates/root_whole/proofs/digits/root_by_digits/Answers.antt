-- `root_whole::digits::root_by_digits` meets its contract. Assumes nothing.
use Rattle.std.proofs.Common.{◌≡◌, ℕ, zero, suc, ◌+◌, ◌-◌, ◌*◌, ◌/◌, ◌^◌, ◌<◌, ◌≤◌, sym, refl, ap, ◌∙◌, lt_of_not-le, add-one, subst, arith}
use native.Mathlib.Nat.{pow-succ'}
use Rattle.root_whole.proofs.Roots.{IsRoot, near_up, near_down, root_ge}
use Rattle.root_whole.proofs.Turns.{Inv}
use Rattle.root_whole.proofs.digits.root_by_digits.Goals as goal
use Rattle.root_whole.proofs.digits.root_by_digits.Goals.{then-t-rest, else-t-rest}

-- the next weight
bit : (n b : ℕ) → 0 < n → b ≡ 2 ^ n / 2 → (2 ^ n ≡ 2 * b) × (2 ^ (n - 1) ≡ b)
bit zero b h e = absurd (omega arith)
bit (suc n) b h e =
    let d : 2 ^ suc n ≡ 2 * 2 ^ n = pow-succ' 2 n in
    let i : suc n - 1 ≡ n = omega arith in
    let f : 2 ^ (suc n - 1) ≡ 2 ^ n = ap (λ (x : ℕ). 2 ^ x) i in
    (omega arith, omega arith)

-- the next bit is 1
turn_up : (m n b q rest q' rest' : ℕ) → Inv m n b q rest → 0 < n → 2 * q + b ≤ rest → q' ≡ q + b → rest' ≡ rest - (2 * q + b) → Inv m (n - 1) (b / 2) q' (2 * rest')
turn_up m n b q rest q' rest' i h t e f =
    let p : 2 ^ n ≡ 2 * b = (bit n b h i.half).0 in
    let z : 2 ^ (n - 1) ≡ b = (bit n b h i.half).1 in
    let g : rest ≡ rest' + 2 * q + b = omega arith in
    let few : n ≤ 53 = i.few in
    let whole : 2 * (q * q) + rest * (2 * b) ≡ m * 2 ^ 53 = rw p at i.whole in
    let small : rest < 4 * q + 2 * (2 * b) = rw p at i.small in
    let room : q + 2 * b ≤ 2 ^ 53 = rw p at i.room in
    record {
      few = omega arith;
      half = ap (λ (x : ℕ). x / 2) (sym z);
      whole = rw (z, e) (omega (arith, ap (λ (x : ℕ). x * b) g));
      small = rw (z, e) (omega arith);
      room = rw (z, e) (omega arith);
    }

-- the next bit is 0
turn_down : (m n b q rest q' rest' : ℕ) → Inv m n b q rest → 0 < n → rest < 2 * q + b → q' ≡ q → rest' ≡ rest → Inv m (n - 1) (b / 2) q' (2 * rest')
turn_down m n b q rest q' rest' i h t e f =
    let p : 2 ^ n ≡ 2 * b = (bit n b h i.half).0 in
    let z : 2 ^ (n - 1) ≡ b = (bit n b h i.half).1 in
    let few : n ≤ 53 = i.few in
    let whole : 2 * (q * q) + rest * (2 * b) ≡ m * 2 ^ 53 = rw p at i.whole in
    let small : rest < 4 * q + 2 * (2 * b) = rw p at i.small in
    let room : q + 2 * b ≤ 2 ^ 53 = rw p at i.room in
    record {
      few = omega arith;
      half = ap (λ (x : ℕ). x / 2) (sym z);
      whole = rw (z, e, f) (omega arith);
      small = rw (z, e, f) (omega arith);
      room = rw (z, e) (omega arith);
    }

-- after digit k
next : (m k b q rest : ℕ) → Inv m (53 - k - 1) b q rest → Inv m (53 - (k + 1)) b q rest
next m k b q rest i = let e : 53 - k - 1 ≡ 53 - (k + 1) = omega arith in subst (λ (n : ℕ). Inv m n b q rest) e i

-- with no bits to come
finished : (m q rest : ℕ) → 2 * (q * q) + rest * 1 ≡ m * 2 ^ 53 → rest < 4 * q + 2 * 1 → IsRoot (m * 2 ^ 52) q
finished m q rest e h = record { low = omega arith; high = omega arith }

record End (m q rest : ℕ) : Type 0 where
  is : IsRoot (m * 2 ^ 52) q
  whole : 2 * (q * q) + rest ≡ m * 2 ^ 53
  lower : 2 ^ 52 ≤ q
  upper : q < 2 ^ 53

at_end : (m n b q rest : ℕ) → Inv m n b q rest → n ≤ 0 → 2 ^ 52 ≤ m → End m q rest
at_end m zero b q rest i h k =
    let whole : 2 * (q * q) + rest * 1 ≡ m * 2 ^ 53 = i.whole in
    let small : rest < 4 * q + 2 * 1 = i.small in
    let room : q + 1 ≤ 2 ^ 53 = i.room in
    let is = finished m q rest whole small in
    record { is = is; whole = omega arith; lower = root_ge (m * 2 ^ 52) q (2 ^ 52) is (omega arith); upper = omega arith }
at_end m (suc n) b q rest i h k = absurd (omega arith)

-- the root does not round up to 2 ^ 53
no_carry : (m q rest : ℕ) → m + 2 ≤ 2 ^ 54 → 2 * (q * q) + rest ≡ m * 2 ^ 53 → 2 * q < rest → q < 2 ^ 53 → q + 1 < 2 ^ 53
no_carry m q rest h e g u = lt_of_not-le (λ (k : 2 ^ 53 ≤ q + 1).
    let v : q ≡ 2 ^ 53 - 1 = omega arith in
    let e' : 2 * ((2 ^ 53 - 1) * (2 ^ 53 - 1)) + rest ≡ m * 2 ^ 53 = rw v at e in
    omega arith)

pub loop-k-init : goal.loop-k-init
loop-k-init c = record { few = omega arith; half = refl; whole = omega arith; small = omega arith; room = omega arith }

pub overflow_mul-t : goal.overflow_mul-t
overflow_mul-t c = omega arith

pub overflow_add-t : goal.overflow_add-t
overflow_add-t c = omega arith

pub overflow_add-q : goal.overflow_add-q
overflow_add-q c = omega arith

pub overflow_mul-rest : goal.overflow_mul-rest
overflow_mul-rest c = elim c.if-t-rest.branch [ then-t-rest w ↦ omega arith | else-t-rest w ↦ omega arith ]

pub loop-k-preserved : goal.loop-k-preserved
loop-k-preserved c =
    let l = c.loop-k in
    elim c.if-t-rest.branch [
      | then-t-rest w ↦ next _ l._k _ _ _ (turn_up c.args.m (53 - l._k) l.b l.q l.rest _ _ l.invariant (omega arith) w.if-t-rest.true w.q-is w.rest-is)
      | else-t-rest w ↦ next _ l._k _ _ _ (turn_down c.args.m (53 - l._k) l.b l.q l.rest _ _ l.invariant (omega arith) w.if-t-rest.false w.q-is w.rest-is)
    ]

pub overflow_mul-q : goal.overflow_mul-q
overflow_mul-q c = omega arith

pub overflow_add-result : goal.overflow_add-result
overflow_add-result c = omega arith

pub returns-then-rest-q : goal.returns-then-rest-q
returns-then-rest-q c =
    let l = c in
    let m = l.args.m in
    let q = l.loop-k.q in
    let z = at_end m (53 - l.loop-k._k) l.loop-k.b q l.loop-k.rest l.loop-k.invariant (omega arith) (omega arith) in (
      add-one q ∙ sym (near_up (m * 2 ^ 52) q z.is (omega (arith, z.whole))),
      omega (arith, z.lower),
      no_carry m q l.loop-k.rest (omega arith) z.whole (omega arith) z.upper,
    )

pub returns-else-rest-q : goal.returns-else-rest-q
returns-else-rest-q c =
    let l = c in
    let m = l.args.m in
    let q = l.loop-k.q in
    let z = at_end m (53 - l.loop-k._k) l.loop-k.b q l.loop-k.rest l.loop-k.invariant (omega arith) (omega arith) in
    (sym (near_down (m * 2 ^ 52) q z.is (omega (arith, z.whole))), z.lower, z.upper)
