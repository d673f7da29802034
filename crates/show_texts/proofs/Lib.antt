mod FramesTold
mod LineEnds
mod RowFacts
mod Shown
mod Merged
mod Progressing
