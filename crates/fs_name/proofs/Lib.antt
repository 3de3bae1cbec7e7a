pub mod CrcLemmas
pub mod NormalLemmas
pub mod HashLemmas
pub mod TextLemmas
