pub mod DataPaths
pub mod FileEnds
