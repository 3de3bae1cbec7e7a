pub mod Account
pub mod Composed
pub mod Finished
pub mod Used
pub mod Views
