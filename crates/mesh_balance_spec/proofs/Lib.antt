-- Theorems on the definitions of mesh_balance_spec.
pub mod CountLaws
pub mod ExamplesLaws
pub mod PrismLaws
pub mod BoxLaws
