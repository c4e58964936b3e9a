-- What the contracts of `figures_points` cite.
pub mod Lists
