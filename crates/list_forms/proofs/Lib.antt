pub mod StartingTexts
