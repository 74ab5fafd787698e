pub mod MarkSteps
pub mod Matching
pub mod MatchedMarks
pub mod Order
pub mod Places
pub mod Puts
pub mod LosslessTexts
pub mod PlacesBack
pub mod ItemsAtLineStarts
pub mod ToldBrackets
pub mod Blanks
pub mod Seam
pub mod FurtherMarks
pub mod Joins
pub mod AtStops
mod Examples
