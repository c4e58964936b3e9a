-- What the contracts of `slice_byte_turn` cite.
pub mod Turn
