pub mod Prefix
pub mod PrefixLaws
pub mod PrefixHash
pub mod Cache
