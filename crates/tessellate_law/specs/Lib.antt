-- Demand 3, and docs/SCOPE.md's figures marked (P).
pub mod Words
pub mod AcceptedLaws
pub mod PartsClosed
pub mod Demand3
pub mod Promise
pub mod Table
