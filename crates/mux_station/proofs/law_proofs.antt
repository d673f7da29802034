-- What the public laws of a station's histories rest on.
pub mod ControlFrames
pub mod PlainFrames
pub mod OwedFrames
pub mod NotedEvents
pub mod PastsWithoutCalls
