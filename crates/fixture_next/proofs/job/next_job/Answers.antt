-- `fixture_next::job::next_job` meets its contract. Assumes nothing.
use native.Mathlib.Omega.{arith}
use Rattle.fixture_next.proofs.Here.{solid_here}
use Rattle.fixture_next.proofs.Jobs.{no_job, one_job}
use Rattle.fixture_next.proofs.job.next_job.Goals as goal

pub returns-then-file-place : goal.returns-then-file-place
returns-then-file-place c =
    let n = c.next_solid-n in
    let s = c.args in
    no_job s.file.now s.at s.options s.default n.result.at n.result.settings n.ensures (omega arith)

pub solid_at-f-requires : goal.solid_at-f-requires
solid_at-f-requires c =
    let n = c.next_solid-n in
    solid_here c.args.file.now n.result.at n.ensures.ready (omega arith) (n.ensures.solid (omega arith))

pub returns : goal.returns
returns c =
    let n = c.next_solid-n in
    let s = c.args in
    one_job s.file.now s.at s.options s.default n.result.at n.result.settings n.ensures (omega arith) c.solid_at-f.result
    c.solid_at-f.ensures c.joined.result c.joined.ensures
