-- `slice_text::put_spaces` meets its contract. Assumes nothing.
use Rattle.std.proofs.Common.{◌≡◌, ℕ, replicate, ap, arith}
use Rattle.slice_text.specs.LineLaws.{no_text, same_byte, puts_same}
use Rattle.slice_text.proofs.put_spaces.Goals as goal

pub loop-init : goal.loop-init
loop-init c = no_text _

pub loop-preserved : goal.loop-preserved
loop-preserved c = let l = c.loop in same_byte 32 l.counter l.invariant c.put_byte-to.ensures

pub returns : goal.returns
returns c =
    let l = c.loop in
    let e : l.counter ≡ c.args.n = omega arith in
    puts_same (ap (λ (k : ℕ). replicate k 32) e) l.invariant
