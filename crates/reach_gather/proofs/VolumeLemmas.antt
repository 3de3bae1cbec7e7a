-- Of the parts of a container that `heads` and `load` have tested.
pub mod Leads
pub mod Trees
pub mod MapParts
pub mod Heads
pub mod Slots
pub mod Tellings
pub mod Others
pub mod Loads
pub mod Law
