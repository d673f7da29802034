-- Lines as they are read octet by octet.
pub mod UnfinishedLines
pub mod KeptOctets
pub mod LinePlaces
