-- What the contracts of `weld_order` cite: which points may be among those that came row by row.
pub mod Rows
