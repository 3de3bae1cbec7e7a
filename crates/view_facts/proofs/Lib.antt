pub mod Adds
pub mod NamesAlike
pub mod Keeping
pub mod Walks
