pub mod ByteLemmas
pub mod RunLemmas
pub mod CountLemmas
pub mod WordLemmas
pub mod LaneLemmas
