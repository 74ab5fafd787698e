pub mod DeclarationIds
pub mod LentNames
pub mod ListedImports
pub mod OutlineSteps
pub mod PreorderIds
pub mod RowSteps
pub mod StepIds
pub mod Subjects
