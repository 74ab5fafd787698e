pub mod OutlineTexts
