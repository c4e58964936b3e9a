-- A matrix made of rows that calls returned. Assumes nothing.
use Rattle.std.specs.Prelude.{◌≡◌}
use Rattle.std.proofs.Common.{◌∙◌}
use Rattle.math_matrix.specs.declared.Row.{Row}
use Rattle.math_matrix.specs.declared.Mat4.{Mat4}
use Rattle.math_matrix.specs.Mat.{from_rows}

pub made : {m : Mat4} {p q r s p' q' r' s' : Row} → p ≡ p' → q ≡ q' → r ≡ r' → s ≡ s' → m ≡ from_rows p q r s → m ≡ from_rows p' q' r' s'
made a b c d e = e ∙ (λ i. from_rows (a i) (b i) (c i) (d i))
