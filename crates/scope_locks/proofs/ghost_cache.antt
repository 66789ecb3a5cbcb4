pub mod CacheLemmas
