-- What the contract of `sizturga_root_case` cites beside the definition of the cases.
pub mod Places
