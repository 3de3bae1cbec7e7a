pub mod Kept
pub mod Answered
pub mod Present
pub mod Owed
pub mod Statuses
pub mod NewRow
pub mod FilledRow
mod Clean
pub mod Plugs
mod Examples
