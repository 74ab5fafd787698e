pub mod Answers
pub mod Typing
pub mod Trees
pub mod Inner
pub mod RequestTexts
pub mod ModuleLists
pub mod ImportChecks
pub mod ImportTargets
