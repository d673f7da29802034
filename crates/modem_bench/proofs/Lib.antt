pub mod CallerThreads
pub mod Crossings
pub mod JointLists
pub mod Lines
pub mod OneLine
pub mod Settlements
pub mod Simulations
pub mod StandStills
