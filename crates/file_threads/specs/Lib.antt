pub mod DataPaths
pub mod Said
pub mod FileEnds
