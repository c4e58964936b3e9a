-- `clean_polygon` of src/tessellate.rs: drops a corner equal to the one kept before it, then, from the end, corners equal to the first. Assumes nothing.
use Rattle.std.specs.Prelude.{ℕ, zero, suc, ◌-◌, ◌*◌, ◌/◌, Bool, cond, ◌&&◌, List, [], ◌∷◌, ◌++◌, length, take, ltb, Float}
use Rattle.outline.specs.declared.Point.{Point}
use Rattle.outline.specs.Corners.{point, same}

-- the Rust's out.last() == Some(&p)
unfoldable pub ends_in : List Float → Point → Bool
ends_in o p = ltb 0 (length o) && same (point o (length o / 2 - 1)) p

-- the Rust's first loop, for one corner: p is pushed onto o, unless o ends in it
unfoldable pub pushed : List Float → Point → List Float
pushed o p = cond (ends_in o p) o (o ++ (p.x ∷ p.y ∷ []))

-- the Rust's first loop: each corner of v in its turn; a last float without its partner is no corner
unfoldable pub gathered : List Float → List Float → List Float
gathered o [] = o
gathered o (x ∷ []) = o
gathered o (x ∷ y ∷ v) = gathered (pushed o (record { x = x; y = y })) v

-- the Rust's second loop, on the first n corners of o: how many stay while the last one that equals the first is popped
unfoldable pub stay : List Float → ℕ → ℕ
stay o zero = zero
stay o (suc zero) = suc zero
stay o (suc (suc k)) = cond (same (point o 0) (point o (suc k))) (stay o (suc k)) (suc (suc k))

-- `clean_polygon`
unfoldable pub clean_polygon : List Float → List Float
unfolding gathered stay
clean_polygon v = take (2 * stay (gathered [] v) (length (gathered [] v) / 2)) (gathered [] v)
