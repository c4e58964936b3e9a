-- `sizturga::sizturga_fixture` meets its contract. Assumes nothing.
use mathlib.Core.Path.{◌≡◌, sym, ap, ◌∙◌}
use Prim.Native.Nat.{ℕ}
use Rattle.refusal.specs.Answer.{Accepted, answer_of}
use Rattle.refusal.specs.Number.{number_of}
use Rattle.refusal.specs.Laws.{accepted_zero}
use Rattle.sizturga.proofs.sizturga_fixture.Goals as goal

pub returns : goal.returns
returns c =
    let p = c.plan in
    let e = p.ensures in
    let zero : c.number.result ≡ 0 → answer_of p.result ≡ Accepted = λ z. accepted_zero (answer_of p.result) (sym c.number.ensures ∙ z) in
    record {
      number = c.number.ensures ∙ ap {B = ℕ} number_of e.refusal;
      output = e.output;
      mesh = λ z. e.mesh (zero z);
      proper = λ z. e.proper (zero z);
      closed = λ z s. e.closed (zero z) s;
    }
