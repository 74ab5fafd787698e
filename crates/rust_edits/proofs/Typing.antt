-- Typing inside a body.
pub mod Texts
pub mod ProblemsIn
pub mod Typing
pub mod Returns
pub mod MovedItems
pub mod BodyStarts
pub mod WholeCharacters
pub mod Examples
pub mod EndedRests
pub mod ProblemsAlike
pub mod UnendedTokens
pub mod ProblemPlaces
