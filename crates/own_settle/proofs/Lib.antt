pub mod ClaimLemmas
pub mod OrderLemmas
pub mod MovedLemmas
pub mod ChunkLemmas
pub mod PoolLemmas
pub mod SettleLemmas
