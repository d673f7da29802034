-- The control queue's octets and frames, and room in it.
pub mod FrameOctets
pub mod QueueRoom
pub mod ControlQueues
