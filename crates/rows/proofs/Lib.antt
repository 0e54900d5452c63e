pub mod OfferLemmas
pub mod ChainLemmas
pub mod CacheLemmas
pub mod HeldLemmas
