pub mod FoldLemmas
