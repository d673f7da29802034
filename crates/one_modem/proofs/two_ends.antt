-- A driver and a simulated modem at the two ends of one line.
pub mod FinalCodes
pub mod ResponderFrames
pub mod InitiatorFrames
pub mod LinePoints
pub mod ReplyPlaces
pub mod ModemAnswers
