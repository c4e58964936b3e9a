-- The soups of single solids, from the soups that were welded.
pub mod ShapeRuns
