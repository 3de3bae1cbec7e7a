mod Shares
mod Lookups
mod Weaving
mod Settles
mod Rings
mod Outlines
mod TreeLeaves
mod Passes
mod Joined
mod Underway
mod EndsRead
mod Differs
pub mod Places
pub mod Examples
