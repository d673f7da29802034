pub mod FirstFrame
pub mod FrontFrames
pub mod Passing
pub mod Pcap
pub mod Pieces
pub mod Pushing
pub mod Reading
