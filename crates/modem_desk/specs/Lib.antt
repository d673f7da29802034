pub mod Rule
pub mod Ends
pub mod Books
pub mod Settling
pub mod Numbers
