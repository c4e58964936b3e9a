-- `replay_calls::session::claimed_mesh` meets its contract. Assumes nothing.
use mathlib.Core.Path.{◌∙◌}
use Rattle.mesh_check.specs.State.{record_of}
use Rattle.replay_calls.proofs.session.claimed_mesh.Goals as goal

pub wide-requires : goal.wide-requires
wide-requires c = tt

pub wide-requires-2 : goal.wide-requires-2
wide-requires-2 c = tt

pub record_of-requires : goal.record_of-requires
record_of-requires c = tt

pub returns : goal.returns
returns c =
    let h = c.args.h in
    c.record_of.ensures ∙ (λ i. record_of (c.wide.ensures i) (c.wide-2.ensures i) h.bounds)
