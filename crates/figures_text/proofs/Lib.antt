-- What several proofs of `figures_text` cite.
mod Cases
