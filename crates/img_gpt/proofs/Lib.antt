pub mod Exactly
pub mod Numbers
pub mod Sliced
pub mod Tables
