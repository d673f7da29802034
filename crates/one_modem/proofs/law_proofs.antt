-- What the laws of one modem rest on.
pub mod OneModem
