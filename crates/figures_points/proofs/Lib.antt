-- What several proofs of `figures_points` cite.
mod Cases
