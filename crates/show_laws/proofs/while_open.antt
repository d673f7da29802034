-- On a lawful and complete line whose control commands come while 0 is open each ask is answered.
pub mod EnoughSent
pub mod NoneWaits
