pub mod FewTaken
pub mod GreedyLaws
pub mod TakenLemmas
