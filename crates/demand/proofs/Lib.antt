pub mod NamedSets
pub mod LeastOthers
pub mod HomeNodes
pub mod FreeCpus
pub mod Rounding
pub mod Asked
pub mod ListedCpus
