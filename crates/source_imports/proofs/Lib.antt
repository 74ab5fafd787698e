pub mod Common
pub mod TreeEnds
pub mod NoFloats
pub mod ImportCfgLists
pub mod ImportExclusions
pub mod ImportedNames
pub mod Repeats
pub mod Firsts
