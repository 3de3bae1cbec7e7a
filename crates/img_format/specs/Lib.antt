pub mod Limits
pub mod Names
pub mod Valid
pub mod Tables
pub mod Nodes
pub mod Blocks
pub mod Fresh
pub mod Steps
