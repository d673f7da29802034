pub mod OneModem
pub mod OneModemRows
