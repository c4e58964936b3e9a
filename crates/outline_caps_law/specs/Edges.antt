-- Weights of directed edges (the crate mesh_balance_spec), summed over triangles in a list of numbers and around a list of corners; and a corner cut out of a
-- cycle. Assumes nothing.
use Rattle.std.specs.Prelude.{ℕ, zero, suc, ◌+◌, ◌-◌, ◌*◌, ◌%◌, ◌<◌, ◌≤◌, ◌≡◌, refl, List, [], ◌∷◌, ◌++◌, length, get_or}
use Rattle.std.proofs.Common.{sym, ap, ◌∙◌, add-one, not-suc-le-zero, le_of_suc-le-suc, mod-eq_of_lt, arith}
use Rattle.std.proofs.Math.Nat.{mod_self, add-mod_right}
use Rattle.std.proofs.Math.Decide.{dec_lt}
use Rattle.std.proofs.Math.ListN.{get_or-eq_default}
use Rattle.mesh_balance_spec.specs.Soup.{Weight, rev}
use Rattle.outline_ears.specs.Ears.{ip, inx}
use Rattle.outline_remaining.specs.Without.{without}
use Rattle.outline_triangulate.specs.Triangulate.{fans, fan}

-- the weights of the edges of triangles, three numbers to a triangle: from each corner to the next one
unfoldable pub edges : Weight ℕ → List ℕ → ℕ
edges w [] = 0
edges w (a ∷ []) = 0
edges w (a ∷ b ∷ []) = 0
edges w (a ∷ b ∷ c ∷ t) = w a b + (w b c + (w c a + edges w t))

-- the weights of the edges from p along l, and then to z
unfoldable pub chain : Weight ℕ → ℕ → ℕ → List ℕ → ℕ
chain w z p [] = w p z
chain w z p (q ∷ l) = w p q + chain w z q l

-- the weights of the edges around l
unfoldable pub cycle : Weight ℕ → List ℕ → ℕ
unfolding chain
cycle w [] = 0
cycle w (a ∷ l) = chain w a a l

-- ---- a corner is cut out of a cycle

-- the last of p and l
abbrev last : ℕ → List ℕ → ℕ
last p [] = p
last p (q ∷ l) = last q l

-- to another end
chain_to : (w : Weight ℕ) (z z' p : ℕ) (l : List ℕ) → chain w z p l + w (last p l) z' ≡ chain w z' p l + w (last p l) z
unfolding chain
chain_to w z z' p [] = omega arith
chain_to w z z' p (q ∷ l) = omega (arith, chain_to w z z' q l)

last_at : (p : ℕ) (l : List ℕ) → get_or (p ∷ l) (length l) 0 ≡ last p l
last_at p [] = refl
last_at p (q ∷ l) = last_at q l

-- at index j of the chain
chain_cut : (w : Weight ℕ) (z p : ℕ) (l : List ℕ) (j : ℕ) → j < length l
    → chain w z p l + w (get_or (p ∷ l) j 0) (get_or l (suc j) z)
    ≡ chain w z p (without j l) + (w (get_or (p ∷ l) j 0) (get_or l j 0) + w (get_or l j 0) (get_or l (suc j) z))
unfolding chain without
chain_cut w z p [] j h = absurd (not-suc-le-zero h)
chain_cut w z p (c ∷ []) zero h = omega arith
chain_cut w z p (c ∷ q ∷ l) zero h = omega arith
chain_cut w z p (c ∷ l) (suc j) h = omega (arith, chain_cut w z c l j (le_of_suc-le-suc h))

-- the neighbours of an index
getD_other : (l : List ℕ) (i d d' : ℕ) → i < length l → get_or l i d ≡ get_or l i d'
getD_other [] i d d' h = absurd (not-suc-le-zero h)
getD_other (a ∷ l) zero d d' h = refl
getD_other (a ∷ l) (suc i) d d' h = getD_other l i d d' (le_of_suc-le-suc h)

ip_first : (a b : ℕ) (l : List ℕ) → ip (a ∷ b ∷ l) 0 ≡ last b l
unfolding ip
ip_first a b l =
    let i : (0 + suc (suc (length l)) - 1) % suc (suc (length l)) ≡ suc (length l) =
    ap (λ (j : ℕ). j % suc (suc (length l))) (omega arith) ∙ mod-eq_of_lt (omega arith) in
    ap (λ (j : ℕ). get_or (a ∷ b ∷ l) j 0) i ∙ last_at b l

inx_first : (a b : ℕ) (l : List ℕ) → inx (a ∷ b ∷ l) 0 ≡ b
unfolding inx
inx_first a b l =
    let i : (0 + 1) % suc (suc (length l)) ≡ 1 = mod-eq_of_lt (omega arith) in
    ap (λ (j : ℕ). get_or (a ∷ b ∷ l) j 0) i

ip_later : (a : ℕ) (l : List ℕ) (j : ℕ) → j < length l → ip (a ∷ l) (suc j) ≡ get_or (a ∷ l) j 0
unfolding ip
ip_later a l j h =
    let i : (suc j + suc (length l) - 1) % suc (length l) ≡ j =
    ap (λ (n : ℕ). n % suc (length l)) (omega arith) ∙ add-mod_right j (suc (length l)) ∙ mod-eq_of_lt (omega arith) in
    ap (λ (n : ℕ). get_or (a ∷ l) n 0) i

inx_by : (a : ℕ) (l : List ℕ) (j : ℕ) → j < length l → Dec (suc j < length l) → inx (a ∷ l) (suc j) ≡ get_or l (suc j) a
unfolding inx
inx_by a l j h (yes p) =
    let i : (suc j + 1) % suc (length l) ≡ suc (suc j) = ap (λ (n : ℕ). n % suc (length l)) (add-one (suc j)) ∙ mod-eq_of_lt (omega arith) in
    ap (λ (n : ℕ). get_or (a ∷ l) n 0) i ∙ getD_other l (suc j) 0 a p
inx_by a l j h (no p) =
    let e : suc j + 1 ≡ suc (length l) = omega (arith, p) in
    let i : (suc j + 1) % suc (length l) ≡ 0 = ap (λ (n : ℕ). n % suc (length l)) e ∙ mod_self (suc (length l)) in
    ap (λ (n : ℕ). get_or (a ∷ l) n 0) i ∙ sym (get_or-eq_default l a {n = suc j} (omega (arith, p)))

inx_later : (a : ℕ) (l : List ℕ) (j : ℕ) → j < length l → inx (a ∷ l) (suc j) ≡ get_or l (suc j) a
inx_later a l j h = inx_by a l j h (dec_lt (suc j) (length l))

pub cycle_cut : (w : Weight ℕ) (l : List ℕ) (k : ℕ) → k < length l → 1 < length l
    → cycle w l + w (ip l k) (inx l k) ≡ cycle w (without k l) + (w (ip l k) (get_or l k 0) + w (get_or l k 0) (inx l k))
unfolding cycle without
cycle_cut w [] k h h2 = absurd (not-suc-le-zero h)
cycle_cut w (a ∷ []) zero h h2 = absurd (not-suc-le-zero (le_of_suc-le-suc h2))
cycle_cut w (a ∷ b ∷ l) zero h h2 = rw (ip_first a b l, inx_first a b l) (omega (arith, chain_to w a b b l))
cycle_cut w (a ∷ l) (suc j) h h2 =
    rw (ip_later a l j (le_of_suc-le-suc h), inx_later a l j (le_of_suc-le-suc h)) (chain_cut w a a l j (le_of_suc-le-suc h))

-- ---- triangles

-- a whole number of them
pub data Thirds : List ℕ → Type 0 where
  none : Thirds []
  more : {a b c : ℕ} {t : List ℕ} → Thirds t → Thirds (a ∷ b ∷ c ∷ t)

pub thirds_append : {t u : List ℕ} → Thirds t → Thirds u → Thirds (t ++ u)
thirds_append none q = q
thirds_append (more p) q = more (thirds_append p q)

pub edges_append : (w : Weight ℕ) {t : List ℕ} (u : List ℕ) → Thirds t → edges w (t ++ u) ≡ edges w t + edges w u
unfolding edges
edges_append w u none = omega arith
edges_append w u (more {t = t} p) = omega (arith, edges_append w u p)

-- ---- the fan

fans_thirds : (a : ℕ) (l : List ℕ) → Thirds (fans a l)
unfolding fans
fans_thirds a [] = none
fans_thirds a (b ∷ []) = none
fans_thirds a (b ∷ c ∷ l) = more (fans_thirds a (c ∷ l))

pub fan_thirds : (l : List ℕ) → Thirds (fan l)
unfolding fan
fan_thirds [] = none
fan_thirds (a ∷ l) = fans_thirds a l

fans_length : (a : ℕ) (l : List ℕ) → length (fans a l) ≡ 3 * (length l - 1)
unfolding fans
fans_length a [] = refl
fans_length a (b ∷ []) = refl
fans_length a (b ∷ c ∷ l) = omega (arith, fans_length a (c ∷ l))

pub fan_length : (l : List ℕ) → length (fan l) ≡ 3 * (length l - 2)
unfolding fan
fan_length [] = refl
fan_length (a ∷ l) = omega (arith, fans_length a l)

pub fans_edges : (w : Weight ℕ) (a b : ℕ) (l : List ℕ)
    → edges w (fans a (b ∷ l)) + (w b a + chain (rev w) a b l) ≡ edges (rev w) (fans a (b ∷ l)) + (w a b + chain w a b l)
unfolding fans edges chain
fans_edges w a b [] = omega arith
fans_edges w a b (c ∷ l) = omega (arith, fans_edges w a c l)

pub few_cycle : (w : Weight ℕ) (l : List ℕ) → length l ≤ 2 → cycle w l ≡ cycle (rev w) l
unfolding cycle chain
few_cycle w [] h = refl
few_cycle w (a ∷ []) h = refl
few_cycle w (a ∷ b ∷ []) h = omega arith
few_cycle w (a ∷ b ∷ c ∷ l) h = absurd (not-suc-le-zero (le_of_suc-le-suc (le_of_suc-le-suc h)))
