pub mod Laying
pub mod Leaves
pub mod Numbered
pub mod Putting
mod Examples
