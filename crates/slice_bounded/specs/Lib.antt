-- What the contracts of `slice_bounded` cite, and what it says of products and sums.
pub mod Bounded
pub mod Laws
