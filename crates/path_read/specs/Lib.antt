pub mod Contents
pub mod Attributes
pub mod Texts
pub mod Needs
pub mod Written
pub mod Streamed
pub mod Parts
