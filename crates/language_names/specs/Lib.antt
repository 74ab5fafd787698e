pub mod LanguageNames
